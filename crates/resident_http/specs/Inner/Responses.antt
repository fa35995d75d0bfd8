-- The response to a request, for inner contracts.
use Rattle.std.specs.Prelude.{◌≡◌, ℕ, List, Result, Ok, Err}
use Rattle.resident_requests.specs.Answers.{Answer, bytes_of}
use Rattle.resident_requests.specs.Faults.{error_answer, success_answer}
use Rattle.resident_requests.specs.declared.error_response.ErrorResponse.{ErrorResponse}

-- The response that the server writes has the property `P`. It is the success response with these bytes, or the error
-- response.
abbrev pub WithAnswer : Result (List ℕ) ErrorResponse → (Answer → Type 0) → Type 0
WithAnswer (Ok bytes) P = (body : List ℕ) × (bytes ≡ bytes_of (success_answer body)) × P (success_answer body)
WithAnswer (Err error) P = P (error_answer error)
