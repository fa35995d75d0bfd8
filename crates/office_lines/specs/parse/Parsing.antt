-- How a line is parsed.
use Rattle.std.specs.Prelude.{ℕ, Bool, true, false, ◌&&◌, not, List, length, filter, Option, Some, None, ◌==◌, nat_lt, slice_index, if◌then◌else◌}
use Rattle.std.specs.List.{slice_split, list_all}
use Rattle.std.specs.Str.{is_utf8}
use Rattle.std.specs.Str.Lines.{strip_carriage_return}
use Rattle.room_types.specs.Texts.{Text}
use Rattle.office_lines.specs.parse.Requests.{names_request, request_of}
use Rattle.office_core.specs.declared.requests.Request.{Request}
use Rattle.office_lines.specs.declared.line.ParsedLine.{ParsedLine}
use Rattle.office_lines.specs.declared.line.ParsedLine.TheVariants.{Ignored, Valid, Invalid}

abbrev pub is_space : ℕ → Bool
is_space byte = byte == 32

-- the text has at least one byte
abbrev pub has_bytes : Text → Bool
has_bytes text = not (length text == 0)

-- the words of a text, which is split at spaces; empty parts are left out
abbrev pub words_of : Text → List Text
words_of text = filter has_bytes (slice_split is_space text)

-- the line is a comment: it begins with `#`
abbrev pub is_comment : List ℕ → Bool
is_comment line = nat_lt 0 (length line) && slice_index line 0 == 35

-- the text is empty or only spaces
abbrev pub is_blank : List ℕ → Bool
is_blank text = list_all is_space text

-- a valid line if there is a request, otherwise an invalid line
abbrev pub parsed_request : Option Request → ParsedLine
parsed_request (Some request) = Valid request
parsed_request None = Invalid

-- parses the words of a line
abbrev pub parsed_words : List Text → ParsedLine
parsed_words words = parsed_request (request_of words)

-- parses a line that is no comment; the carriage return at its end has been dropped
abbrev pub parsed_text : List ℕ → ParsedLine
parsed_text text = if is_blank text then Ignored else if is_utf8 text then parsed_words (words_of text) else Invalid

-- parses a line; ignores one carriage return at the end of the line
unfoldable pub parsed_line : List ℕ → ParsedLine
parsed_line line = if is_comment line then Ignored else parsed_text (strip_carriage_return line)

-- the line is UTF-8, and its first word names a request
unfoldable pub begins_request : List ℕ → Bool
begins_request line =
    let text = strip_carriage_return line in
    is_utf8 text && names_request (words_of text)

-- the line gets no response
abbrev pub is_ignored : ParsedLine → Bool
is_ignored Ignored = true
is_ignored (Valid request) = false
is_ignored Invalid = false
