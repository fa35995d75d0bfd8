-- Runs of lines, one after another.
use Rattle.std.proofs.Common.{◌≡◌, ◌≤◌, ◌<◌, ◌+◌, ℕ, Bool, true, false, inr, refl, List, [], ◌∷◌, ◌++◌, length, max}
use Rattle.std.proofs.Common.{◌∙◌, ap, subst, arith, length-append}
use Rattle.std.proofs.lemmas.List.Concat.{flat_map-append}
use Rattle.office_core.specs.declared.requests.Answer.{Answer}
use Rattle.office_core.specs.declared.requests.Request.{Request}
use Rattle.office_lines.specs.declared.render.response.Response.{Response}
use Rattle.office_lines.specs.render.Texts.{text_of, exit_status}
use Rattle.office_lines.specs.Lines.{init}
use Rattle.office_lines.specs.parse.Parsing.{begins_request, is_ignored, parsed_line}
use Rattle.office_lines.specs.declared.line.ParsedLine.{ParsedLine}
use Rattle.office_lines.specs.declared.line.ParsedLine.TheVariants.{Ignored, Valid, Invalid}
use Rattle.office_lines.specs.declared.render.response.Response.TheVariants.{Answered}
use Rattle.office_core.specs.declared.requests.Answer.TheVariants.{Unavailable}
use Rattle.office_lines.specs.Runs.{Answers, Run, Step, texts_of, last_is_made, greatest_status}

module _ {H : Type 0} (handles : H → Request → Answer → H → Type 0) where
  answers_unavailable : (o : H) (parsed : ParsedLine) (begins : Bool) → is_ignored parsed ≡ false → begins ≡ true
      → Answers handles o parsed begins (Answered Unavailable) o
  answers_unavailable o Ignored begins h e = absurd (cc)
  answers_unavailable o (Valid request) begins h e = inr (refl, refl)
  answers_unavailable o Invalid begins h e = (inr (e, refl), refl)

  -- out of memory while parsing a line
  pub Step-unavailable : (o : H) (line : List ℕ) → is_ignored (parsed_line line) ≡ false → begins_request line ≡ true
      → Step handles o line (Answered Unavailable) o
  Step-unavailable o line h e = answers_unavailable o (parsed_line line) (begins_request line) h e

  pub Run-append : (o m n : H) (xs ys : List (List ℕ)) (rs ss : List Response) → Run handles o xs rs m
      → Run handles m ys ss n → Run handles o (xs ++ ys) (rs ++ ss) n
  Run-append o m n [] ys [] ss p q = subst (λ z. Run handles z ys ss n) p q
  Run-append o m n (x ∷ xs) ys (r ∷ rs) ss p q = (p.0, p.1, Run-append p.0 m n xs ys rs ss p.2 q)
  Run-append o m n [] ys (r ∷ rs) ss p q = absurd p
  Run-append o m n (x ∷ xs) ys [] ss p q = absurd p

pub greatest_status-append : (rs ss : List Response) → greatest_status (rs ++ ss) ≡ max (greatest_status rs)
    (greatest_status ss)
greatest_status-append [] ss = omega arith
greatest_status-append (r ∷ rs) ss = ap (max (exit_status r)) (greatest_status-append rs ss) ∙ omega arith

pub texts_of-append : (rs ss : List Response) → texts_of (rs ++ ss) ≡ texts_of rs ++ texts_of ss
texts_of-append rs ss = flat_map-append text_of rs ss

-- all texts but the last are no longer than all texts
pub texts_of-init-le : (rs : List Response) → length (texts_of (init rs)) ≤ length (texts_of rs)
texts_of-init-le [] = omega arith
texts_of-init-le (r ∷ []) = omega arith
texts_of-init-le (r ∷ q ∷ rs) =
    omega (
      arith,
      length-append (text_of r) (texts_of (init (q ∷ rs))),
      length-append (text_of r) (texts_of (q ∷ rs)),
      texts_of-init-le (q ∷ rs),
    )

-- the length of all texts but the last of two lists, if the second list has any bytes
pub texts_of-init-append : (rs ss : List Response) → 0 < length (texts_of ss)
    → length (texts_of (init (rs ++ ss))) ≡ length (texts_of rs) + length (texts_of (init ss))
texts_of-init-append rs [] some = absurd (omega (arith, some))
texts_of-init-append [] (s ∷ ss) some = omega arith
texts_of-init-append (r ∷ []) (s ∷ ss) some =
    omega (arith, length-append (text_of r) (texts_of (init (s ∷ ss))), length-append (text_of r) [])
texts_of-init-append (r ∷ q ∷ rs) (s ∷ ss) some =
    omega (
      arith,
      length-append (text_of r) (texts_of (init (q ∷ rs ++ s ∷ ss))),
      length-append (text_of r)
          (texts_of (q ∷ rs)),
      texts_of-init-append (q ∷ rs) (s ∷ ss) some,
    )

-- the last text of two lists is that of the second, if it has any bytes
pub last_is_made-append : (rs ss : List Response) → 0 < length (texts_of ss) → last_is_made (rs ++ ss) ≡ last_is_made ss
last_is_made-append rs [] some = absurd (omega (arith, some))
last_is_made-append [] (s ∷ ss) some = refl
last_is_made-append (r ∷ []) (s ∷ ss) some = refl
last_is_made-append (r ∷ q ∷ rs) (s ∷ ss) some = last_is_made-append (q ∷ rs) (s ∷ ss) some

-- a bound on the length of all texts but the last of two lists
pub texts_of-init-append-le : (rs ss : List Response) → length (texts_of (init (rs ++ ss))) ≤ length
    (texts_of rs) + length (texts_of (init ss))
texts_of-init-append-le [] ss = omega arith
texts_of-init-append-le (r ∷ []) [] = omega arith
texts_of-init-append-le (r ∷ []) (s ∷ ss) =
    omega (arith, length-append (text_of r) (texts_of (init (s ∷ ss))), length-append (text_of r) [])
texts_of-init-append-le (r ∷ q ∷ rs) ss =
    omega (
      arith,
      length-append (text_of r) (texts_of (init (q ∷ rs ++ ss))),
      length-append (text_of r)
          (texts_of (q ∷ rs)),
      texts_of-init-append-le (q ∷ rs) ss,
    )
