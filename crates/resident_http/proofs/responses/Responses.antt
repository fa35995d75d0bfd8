-- The response to a request and what holds of it.
use Rattle.std.proofs.Common.{ℕ, List, Result, Ok, Err, inr, refl}
use Rattle.office_core.specs.declared.requests.Answer.{Answer as DeskAnswer}
use Rattle.office_core.specs.declared.requests.Request.{Request}
use Rattle.resident_requests.specs.Answers.{Answer}
use Rattle.resident_requests.specs.Faults.{error_answer, success_answer}
use Rattle.resident_requests.specs.Routes.{Wanted, forbidden, unknown, wanted, wrong_method}
use Rattle.resident_requests.specs.declared.error_response.ErrorResponse.{ErrorResponse}
use Rattle.resident_http.specs.DueResponses.{unavailable_answer}
use Rattle.resident_http.specs.Inner.Responses.{WithAnswer}
use Rattle.resident_http.specs.Serving.{AnswersWanted}

-- weakens the property of the response
pub WithAnswer-weaker : (r : Result (List ℕ) ErrorResponse) (P Q : Answer → Type 0)
    → ((answer : Answer) → P answer → Q answer) → WithAnswer r P → WithAnswer r Q
WithAnswer-weaker (Ok bytes) P Q f h = (h.0, h.1, f (success_answer h.0) h.2)
WithAnswer-weaker (Err error) P Q f h = f (error_answer error) h

-- whatever a request wants, 503 is a possible response
pub AnswersWanted-unavailable : {H : Type 0} (handles : H → Request → DeskAnswer → H → Type 0) (what : Wanted)
    (body : _) (old : H) → AnswersWanted handles what body old unavailable_answer old
AnswersWanted-unavailable handles unknown body old = (inr refl, refl)
AnswersWanted-unavailable handles (wrong_method allow) body old = (inr refl, refl)
AnswersWanted-unavailable handles forbidden body old = (inr refl, refl)
AnswersWanted-unavailable handles (wanted route key) body old = inr (refl, refl)
