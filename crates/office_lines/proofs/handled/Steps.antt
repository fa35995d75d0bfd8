-- If each request to a concrete handler simulates one to an abstract handler, so does each line.
use Rattle.std.proofs.Common.{ℕ, Bool, List, inl, inr, refl, sym, subst}
use Rattle.office_core.specs.declared.requests.Answer.{Answer}
use Rattle.office_core.specs.declared.requests.Request.{Request}
use Rattle.office_lines.specs.Runs.{Answers}
use Rattle.office_lines.specs.parse.Parsing.{begins_request, parsed_line}
use Rattle.office_lines.specs.SingleLines.{DoesText, DoesWords}
use Rattle.office_lines.specs.parse.Values.{joined}
use Rattle.office_lines.specs.declared.render.response.Response.{Response}
use Rattle.office_lines.specs.declared.line.ParsedLine.{ParsedLine}
use Rattle.office_lines.specs.declared.line.ParsedLine.TheVariants.{Ignored, Valid, Invalid}
use Rattle.room_types.specs.Streams.{Output}
use Rattle.room_types.specs.Texts.{Text}

module _ {H K : Type 0} (handles : H → Request → Answer → H → Type 0) (does : K → Request → Answer → K → Type 0)
    (shows : H → K → Type 0) (old new : H)
    (step : (request : Request) (answer : Answer) → handles old request answer new → (k : K) → shows old k
    → (next : K) × does k request answer next × shows new next) where
  pub answers_shown : (parsed : ParsedLine) (begins : Bool) (response : Response)
      → Answers handles old parsed begins response new → (k : K) → shows old k
      → (next : K) × Answers does k parsed begins response next × shows new next
  answers_shown Ignored begins response h k s = (k, (h.0, refl), subst (λ z. shows z k) (sym h.1) s)
  answers_shown (Valid request) begins response h k s = elim h [
    | inl a ↦ let n = step request a.0 a.2 k s in (n.0, inl (a.0, a.1, n.1), n.2)
    | inr w ↦ (k, inr (w.0, refl), subst (λ z. shows z k) (sym w.1) s)
  ]
  answers_shown Invalid begins response h k s = (k, (h.0, refl), subst (λ z. shows z k) (sym h.1) s)

  text_shown : (text : Text) (status : ℕ) (out out' : Output) → DoesText handles old text status new out out' → (k : K)
      → shows old k
      → (next : K) × DoesText does k text status next out out' × shows new next
  text_shown text status out out' (inl h) k s =
      let n = answers_shown (parsed_line text) (begins_request text) h.2 h.3 k s in
      (n.0, inl (h.0, h.1, h.2, n.1, h.4), n.2)
  text_shown text status out out' (inr (inl h)) k s =
      (k, inr (inl (h.0, refl, h.2)), subst (λ z. shows z k) (sym h.1) s)
  text_shown text status out out' (inr (inr h)) k s =
      (k, inr (inr (h.0, h.1, refl, h.3, h.4)), subst (λ z. shows z k) (sym h.2) s)

  pub words_shown : (words : List Text) (status : ℕ) (out out' : Output)
      → DoesWords handles old words status new out out' → (k : K) → shows old k
      → (next : K) × DoesWords does k words status next out out' × shows new next
  words_shown words status out out' (inl h) k s =
      let n = text_shown (joined words) status out out' h k s in
      (n.0, inl n.1, n.2)
  words_shown words status out out' (inr h) k s = (k, inr (h.0, refl, h.2), subst (λ z. shows z k) (sym h.1) s)
