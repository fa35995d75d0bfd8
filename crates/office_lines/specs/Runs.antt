-- The responses that a handler may give to lines.
use Rattle.std.specs.Prelude.{◌≡◌, ℕ, Bool, true, false, not, ◌⊎◌, max, List, [], ◌∷◌}
use Rattle.std.specs.List.{flat_map}
use Rattle.office_core.specs.declared.requests.Request.{Request}
use Rattle.office_core.specs.declared.requests.Answer.{Answer}
use Rattle.office_core.specs.declared.requests.Answer.TheVariants.{Unavailable}
use Rattle.office_lines.specs.declared.line.ParsedLine.{ParsedLine}
use Rattle.office_lines.specs.declared.line.ParsedLine.TheVariants.{Ignored, Valid, Invalid}
use Rattle.office_lines.specs.declared.render.response.Response.{Response}
use Rattle.office_lines.specs.declared.render.response.Response.TheVariants.{Nothing, Answered, NotUnderstood}
use Rattle.office_lines.specs.parse.Parsing.{begins_request, parsed_line}
use Rattle.office_lines.specs.render.Texts.{is_constant, text_of, exit_status}

module _ {H : Type 0} (handles : H → Request → Answer → H → Type 0) where
  -- `Answers old parsed begins response new`: in state `old`, a handler may give `response` to a line that parses as
  -- `parsed`, and its state is then `new`. `begins` says whether `begins_request` holds for the line. An ignored line
  -- gets no response. An ignored or invalid line leaves the state unchanged. Parsing may run out of memory. The
  -- response is then `Unavailable`, and no request is handled. This may happen for any valid line, but for an invalid
  -- line only if `begins` is true.
  abbrev pub Answers : H → ParsedLine → Bool → Response → H → Type 0
  Answers old Ignored begins response new = (response ≡ Nothing) × (new ≡ old)
  Answers old (Valid request) begins response new =
      ((answer : Answer) × (response ≡ Answered answer) × handles old request answer new)
      ⊎ ((response ≡ Answered Unavailable) × (new ≡ old))
  Answers old Invalid begins response new =
      ((response ≡ NotUnderstood) ⊎ ((begins ≡ true) × (response ≡ Answered Unavailable))) × (new ≡ old)

  -- `Step old line response new`: the relation `Answers` for a line that is not yet parsed
  abbrev pub Step : H → List ℕ → Response → H → Type 0
  Step old line response new = Answers old (parsed_line line) (begins_request line) response new

  -- `Run old lines all new`: handling the lines in turn from state `old` may give the responses `all` and end in
  -- state `new`.
  abbrev pub Run : H → List (List ℕ) → List Response → H → Type 0
  Run old [] [] new = new ≡ old
  Run old (line ∷ lines) (response ∷ others) new = (between : H) × Step old line response between × Run between lines others new
  Run old [] (response ∷ others) new = ⊥
  Run old (line ∷ lines) [] new = ⊥

-- the concatenated texts of the responses
abbrev pub texts_of : List Response → List ℕ
texts_of all = flat_map text_of all

-- whether there is a last response whose text is not constant, so that the text is allocated
abbrev pub last_is_made : List Response → Bool
last_is_made [] = false
last_is_made (response ∷ []) = not (is_constant response)
last_is_made (response ∷ next ∷ others) = last_is_made (next ∷ others)

-- the greatest exit status of the responses, or 0 if there are no responses
abbrev pub greatest_status : List Response → ℕ
greatest_status [] = 0
greatest_status (response ∷ others) = max (exit_status response) (greatest_status others)
