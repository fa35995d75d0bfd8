use Rattle.std.proofs.Common.{refl}
use Rattle.std.specs.Fmt.{digits}
use Rattle.serde_json.proofs.OnLiterals.{serde_json_on_literals}
use Rattle.resident_requests.proofs.error_response.ErrorResponse.text.Goals as goal

pub returns-in-BadRequest : goal.returns-in-BadRequest
unfolding digits serde_json_on_literals
returns-in-BadRequest c = rw c.in-BadRequest.is refl

pub returns-in-Forbidden : goal.returns-in-Forbidden
unfolding digits serde_json_on_literals
returns-in-Forbidden c = rw c.in-Forbidden.is refl

pub returns-in-NotFound : goal.returns-in-NotFound
unfolding digits serde_json_on_literals
returns-in-NotFound c = rw c.in-NotFound.is refl

pub returns-in-BadPhase : goal.returns-in-BadPhase
unfolding digits serde_json_on_literals
returns-in-BadPhase c = rw c.in-BadPhase.is refl

pub returns-in-Withdrawn : goal.returns-in-Withdrawn
unfolding digits serde_json_on_literals
returns-in-Withdrawn c = rw c.in-Withdrawn.is refl

pub returns-in-Going : goal.returns-in-Going
unfolding digits serde_json_on_literals
returns-in-Going c = rw c.in-Going.is refl

pub returns-in-ContentTooLarge : goal.returns-in-ContentTooLarge
unfolding digits serde_json_on_literals
returns-in-ContentTooLarge c = rw c.in-ContentTooLarge.is refl

pub returns-in-ExpectationFailed : goal.returns-in-ExpectationFailed
unfolding digits serde_json_on_literals
returns-in-ExpectationFailed c = rw c.in-ExpectationFailed.is refl

pub returns-in-TooManyChoices : goal.returns-in-TooManyChoices
unfolding digits serde_json_on_literals
returns-in-TooManyChoices c = rw c.in-TooManyChoices.is refl

pub returns-in-RoomRepeated : goal.returns-in-RoomRepeated
unfolding digits serde_json_on_literals
returns-in-RoomRepeated c = rw c.in-RoomRepeated.is refl

pub returns-in-UnknownRoom : goal.returns-in-UnknownRoom
unfolding digits serde_json_on_literals
returns-in-UnknownRoom c = rw c.in-UnknownRoom.is refl

pub returns-in-RoomShut : goal.returns-in-RoomShut
unfolding digits serde_json_on_literals
returns-in-RoomShut c = rw c.in-RoomShut.is refl

pub returns-in-NotImplemented : goal.returns-in-NotImplemented
unfolding digits serde_json_on_literals
returns-in-NotImplemented c = rw c.in-NotImplemented.is refl

pub returns-in-Unavailable : goal.returns-in-Unavailable
unfolding digits serde_json_on_literals
returns-in-Unavailable c = rw c.in-Unavailable.is refl
