-- The checks of a command or a query, in their order. The first refusal that applies counts.
use Rattle.std.specs.Prelude.{Bool, true, false, not, List, [], ◌∷◌, ◌++◌, Option, None, Some}
use Rattle.std.specs.Prelude.{if◌then◌else◌}
use Rattle.room_types.specs.Texts.{Text}
use Rattle.office_state.specs.Office.{knows_room, is_shut, is_taken}
use Rattle.office_state.specs.declared.office.Office.{Office}
use Rattle.office_core.specs.declared.refusal.Refusal.{Refusal}
use Rattle.office_core.specs.declared.refusal.Refusal.TheVariants.{UnknownRoom, RoomShut, RoomTaken}
use Rattle.office_core.specs.declared.refusal.Refusal.TheVariants.{BadRecord, OutOfMemory}

-- a refusal, and whether it applies
abbrev pub Check : Type 0
Check = Bool × Refusal

-- the first refusal that applies
abbrev pub first_refusal : List Check → Option Refusal
first_refusal [] = None
first_refusal (check ∷ checks) = if check.0 then Some check.1 else first_refusal checks

-- a room must be known and not shut
abbrev pub room_checks : Office → Text → List Check
room_checks office room =
    (not (knows_room office room), UnknownRoom room)
    ∷ (is_shut office room, RoomShut room) ∷ []

-- a home must be known, not shut, and nobody's home yet
abbrev pub home_checks : Office → Text → List Check
home_checks office room = room_checks office room ++ (is_taken office room, RoomTaken) ∷ []

-- the checks of a home; none if there is no home
abbrev pub home_checks_if_any : Office → Option Text → List Check
home_checks_if_any office None = []
home_checks_if_any office (Some room) = home_checks office room

-- the refusal names a room: it holds a copy of the code
abbrev pub names_room : Refusal → Bool
names_room (UnknownRoom room) = true
names_room (RoomShut room) = true
names_room _ = false

-- the refusal names a record of a list: the office reads the list to find that record
abbrev pub names_record : Refusal → Bool
names_record (BadRecord at cause) = true
names_record _ = false

-- the refusal is `OutOfMemory`, which is no decision of the office
abbrev pub is_out_of_memory : Refusal → Bool
is_out_of_memory OutOfMemory = true
is_out_of_memory _ = false
