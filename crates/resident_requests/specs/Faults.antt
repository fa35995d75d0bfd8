-- Success responses and error responses.
use Rattle.std.specs.Prelude.{ℕ, List, codes, if◌then◌else◌, ◌==◌, None, Some}
use Rattle.serde_json.specs.Written.{compact_text}
use Rattle.room_types.specs.Texts.{Text}
use Rattle.resident_requests.specs.Answers.{Answer}
use Rattle.resident_requests.specs.Bodies.{fault_data}
use Rattle.resident_requests.specs.declared.error_response.ErrorResponse.{ErrorResponse}
use Rattle.resident_requests.specs.declared.error_response.ErrorResponse.TheVariants as error
use Rattle.resident_requests.specs.declared.method.Method.{Method}

-- the error name of a status that has exactly one: 400, 403, 404, 405, 413, 417, 501 or 503
abbrev pub fault_name : ℕ → Text
fault_name status =
    if status == 400 then codes "BadRequest"
    else if status == 403 then codes "Forbidden"
    else if status == 404 then codes "NotFound"
    else if status == 405 then codes "MethodNotAllowed"
    else if status == 413 then codes "ContentTooLarge"
    else if status == 417 then codes "ExpectationFailed"
    else if status == 501 then codes "NotImplemented"
    else codes "Unavailable"

abbrev pub success_answer : List ℕ → Answer
success_answer body = record { status = 200; allow = None; body = body }

abbrev pub fault_answer : ℕ → Text → Answer
fault_answer status name = record { status = status; allow = None; body = compact_text (fault_data name) }

-- the error response for a status that has exactly one error name
abbrev pub status_fault : ℕ → Answer
status_fault status = fault_answer status (fault_name status)

abbrev pub wrong_method_answer : Method → Answer
wrong_method_answer allow =
    record { status = 405; allow = Some allow; body = compact_text (fault_data (fault_name 405)) }

abbrev pub error_answer : ErrorResponse → Answer
error_answer error.BadRequest = status_fault 400
error_answer error.Forbidden = status_fault 403
error_answer error.NotFound = status_fault 404
error_answer (error.WrongMethod allow) = wrong_method_answer allow
error_answer error.BadPhase = fault_answer 409 (codes "BadPhase")
error_answer error.Withdrawn = fault_answer 409 (codes "Withdrawn")
error_answer error.Going = fault_answer 409 (codes "Going")
error_answer error.ContentTooLarge = status_fault 413
error_answer error.ExpectationFailed = status_fault 417
error_answer error.TooManyChoices = fault_answer 422 (codes "TooManyChoices")
error_answer error.RoomRepeated = fault_answer 422 (codes "RoomRepeated")
error_answer error.UnknownRoom = fault_answer 422 (codes "UnknownRoom")
error_answer error.RoomShut = fault_answer 422 (codes "RoomShut")
error_answer error.NotImplemented = status_fault 501
error_answer error.Unavailable = status_fault 503
