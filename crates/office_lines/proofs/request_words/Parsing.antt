-- How a line is parsed, and which request its first word names.
use Rattle.std.proofs.Common.{◌≡◌, ℕ, Bool, true, false, cond, List, [], ◌∷◌, Option, Some, refl, sym, ap, ◌∙◌}
use Rattle.std.specs.Prelude.{OnErr, Result, Ok, Err, filter, is_some, option_and_then}
use Rattle.std.specs.List.{find, slice_split}
use Rattle.std.specs.Str.{is_utf8, IsUtf8}
use Rattle.std.specs.Str.Lines.{strip_carriage_return}
use Rattle.std.proofs.lemmas.Str.{IsUtf8-from_is_utf8, is_utf8-from_IsUtf8}
use Rattle.std.proofs.lemmas.Bool.{false_from_ne_true}
use Rattle.office_lines.specs.parse.Requests.{Form, form_of, names_request}
use Rattle.office_lines.specs.parse.Parsing.{begins_request, has_bytes, is_blank, is_comment, is_space}
use Rattle.office_lines.specs.parse.Parsing.{parsed_line, parsed_words, words_of}
use Rattle.office_lines.specs.declared.line.ParsedLine.TheVariants.{Invalid}

module _ (line : List ℕ) (plain : is_comment line ≡ false) (blank : is_blank (strip_carriage_return line) ≡ false) where
  -- bytes that are not UTF-8 are not understood
  pub parsed_line-not_utf8 : (IsUtf8 (strip_carriage_return line) → ⊥) → parsed_line line ≡ Invalid
  unfolding parsed_line
  parsed_line-not_utf8 not_text =
      let text = strip_carriage_return line in
      rw (plain, blank, false_from_ne_true (is_utf8 text) (λ e. not_text (IsUtf8-from_is_utf8 text e))) refl

  -- UTF-8 text is parsed as its words are
  pub parsed_line-utf8 : IsUtf8 (strip_carriage_return line)
      → parsed_line line ≡ parsed_words (words_of (strip_carriage_return line))
  unfolding parsed_line
  parsed_line-utf8 is_text = rw (plain, blank, is_utf8-from_IsUtf8 (strip_carriage_return line) is_text) refl

-- UTF-8 text whose words name a request begins with a request
pub named_line : {A E : Type 0} (result : Result A E) (line : List ℕ) → IsUtf8 (strip_carriage_return line)
    → OnErr result (names_request (words_of (strip_carriage_return line)) ≡ true)
    → OnErr result (begins_request line ≡ true)
unfolding begins_request
named_line (Ok x) line is_text named = tt
named_line (Err e) line is_text named = rw (is_utf8-from_IsUtf8 (strip_carriage_return line) is_text, named) refl

-- ---- the first word

-- the form of requests that the first word names, if there is a first word
abbrev pub first_form : Option (List ℕ) → Option Form
first_form first = option_and_then form_of first

found-cond : (t : Bool) (part : List ℕ) (parts : List (List ℕ))
    → names_request (filter has_bytes parts) ≡ is_some (first_form (find has_bytes parts))
    → names_request (cond t (part ∷ filter has_bytes parts) (filter has_bytes parts))
    ≡ is_some (first_form (cond t (Some part) (find has_bytes parts)))
found-cond true part parts h = refl
found-cond false part parts h = h

first_found : (parts : List (List ℕ))
    → names_request (filter has_bytes parts) ≡ is_some (first_form (find has_bytes parts))
first_found [] = refl
first_found (part ∷ parts) = found-cond (has_bytes part) part parts (first_found parts)

-- the words name a request exactly if the first of them does
pub names_first : (text : List ℕ) (first : Option (List ℕ)) → first ≡ find has_bytes (slice_split is_space text)
    → names_request (words_of text) ≡ is_some (first_form first)
names_first text first e = first_found (slice_split is_space text) ∙ ap (λ o. is_some (first_form o)) (sym e)
