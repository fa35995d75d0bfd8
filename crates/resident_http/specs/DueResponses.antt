-- Which response is due to a resident, for each answer of the desk and each fault of a request.
use Rattle.std.specs.Prelude.{ℕ, List}
use Rattle.serde_json.specs.Written.{compact_text}
use Rattle.room_types.specs.declared.fault.TypeFault.{TypeFault}
use Rattle.room_types.specs.declared.fault.TypeFault.TheVariants as fault
use Rattle.room_types.specs.declared.rows.RoomRow.{RoomRow}
use Rattle.office_core.specs.declared.refusal.Refusal.{Refusal}
use Rattle.office_core.specs.declared.refusal.Refusal.TheVariants as refusal
use Rattle.office_core.specs.declared.reply.Standing.{Standing}
use Rattle.office_core.specs.declared.requests.Answer.{Answer as DeskAnswer}
use Rattle.office_core.specs.declared.requests.Answer.TheVariants as desk
use Rattle.resident_requests.specs.Answers.{Answer}
use Rattle.resident_requests.specs.Bodies.{rooms_data, standing_data}
use Rattle.resident_requests.specs.Faults.{error_answer, success_answer}
use Rattle.resident_requests.specs.declared.error_response.ErrorResponse.TheVariants as error

-- the response if an allocation failed or the desk was unavailable
abbrev pub unavailable_answer : Answer
unavailable_answer = error_answer error.Unavailable

-- the response with a resident's own record
abbrev pub standing_answer : Standing → Answer
standing_answer standing = success_answer (compact_text (standing_data standing))

-- the response that lists the rooms
abbrev pub rooms_answer : List RoomRow → Answer
rooms_answer rows = success_answer (compact_text (rooms_data rows))

-- the response to a body that could not be parsed as a preference list, given the fault
abbrev pub list_fault : TypeFault → Answer
list_fault fault.BadValue = error_answer error.BadRequest
list_fault fault.OutOfMemory = unavailable_answer
list_fault fault.TooManyChoices = error_answer error.TooManyChoices
list_fault (fault.RoomRepeated room) = error_answer error.RoomRepeated

-- The response to a resident's command that the office refuses. The office refuses a resident's command only for the
-- reasons that have their own line in this definition.
abbrev pub refusal_answer : Refusal → Answer
refusal_answer (refusal.BadPhase phase) = error_answer error.BadPhase
refusal_answer refusal.Withdrawn = error_answer error.Withdrawn
refusal_answer refusal.Going = error_answer error.Going
refusal_answer (refusal.UnknownRoom room) = error_answer error.UnknownRoom
refusal_answer (refusal.RoomShut room) = error_answer error.RoomShut
refusal_answer _ = unavailable_answer

-- the response to a resident's command, given the desk's answer and the body of the success response
abbrev pub command_answer : List ℕ → DeskAnswer → Answer
command_answer body (desk.Reply reply) = success_answer body
command_answer body (desk.Refused cause) = refusal_answer cause
command_answer body desk.Unavailable = unavailable_answer
