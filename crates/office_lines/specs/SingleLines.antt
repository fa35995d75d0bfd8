-- What handling a single line does. The line is given as a text or as words to join.
use Rattle.std.specs.Prelude.{◌≡◌, ℕ, Bool, ◌<◌, ◌⊎◌, true, false, List, length}
use Rattle.std.specs.List.{list_any}
use Rattle.office_core.specs.declared.requests.Answer.{Answer}
use Rattle.office_core.specs.declared.requests.Request.{Request}
use Rattle.office_lines.specs.declared.render.response.Response.{Response}
use Rattle.office_lines.specs.declared.render.response.Response.TheVariants.{NotUnderstood}
use Rattle.office_lines.specs.Lines.{is_line_end, is_short}
use Rattle.office_lines.specs.Runs.{Step}
use Rattle.room_types.specs.Printing.{Prints, PrintsUnavailable}
use Rattle.office_lines.specs.render.Texts.{is_constant, exit_status, text_of}
use Rattle.office_lines.specs.parse.Values.{joined}
use Rattle.room_types.specs.Streams.{Output}
use Rattle.room_types.specs.Texts.{Text}

-- Either the text of the response is printed with the response's exit status, as `Prints` describes. Or an allocation
-- for the text fails. Then the text is neither constant nor empty, nothing is written, and the status is 3.
abbrev pub PrintsResponse : Response → ℕ → Output → Output → Type 0
PrintsResponse response status out out' =
    Prints (text_of response) (exit_status response) status out out'
    ⊎ ((status ≡ 3) × (is_constant response ≡ false) × (0 < length (text_of response)) × (out' ≡ out))

-- the text contains a line feed, so it is not one line
abbrev pub has_newline : Text → Bool
has_newline text = list_any is_line_end text

module _ {H : Type 0} (handles : H → Request → Answer → H → Type 0) where
  -- A line within the limit is handled as in a rehearsal, whether or not its response can be written. For a text with
  -- a line feed, nothing is handled and `not understood` is printed. For a line that is too long, nothing is handled
  -- or printed, and the status is 3.
  abbrev pub DoesText : H → Text → ℕ → H → Output → Output → Type 0
  DoesText old text status new out out' =
      ((has_newline text ≡ false) × (is_short text ≡ true) × (response : Response) × Step handles old text response new × PrintsResponse response status out out')
      ⊎ ((has_newline text ≡ true) × (new ≡ old) × Prints (text_of NotUnderstood) 2 status out out')
      ⊎ ((has_newline text ≡ false) × (is_short text ≡ false) × (new ≡ old) × (status ≡ 3) × (out' ≡ out))

  -- Either the words are joined by single spaces and handled as a line. Or the allocation for joining two or more
  -- words fails; then nothing is handled, and `unavailable` is printed.
  abbrev pub DoesWords : H → List Text → ℕ → H → Output → Output → Type 0
  DoesWords old words status new out out' =
      DoesText old (joined words) status new out out'
      ⊎ ((1 < length words) × (new ≡ old) × PrintsUnavailable status out out')
