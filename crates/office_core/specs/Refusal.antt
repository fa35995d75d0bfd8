-- The numbers and names of refusals.
pub mod Checks
use Rattle.std.specs.Prelude.{ℕ, List, codes}
use Rattle.office_core.specs.declared.refusal.Refusal.{Refusal}
use Rattle.office_core.specs.declared.refusal.Refusal.TheVariants.{BadPhase, UnknownPerson}
use Rattle.office_core.specs.declared.refusal.Refusal.TheVariants.{UnknownRoom}
use Rattle.office_core.specs.declared.refusal.Refusal.TheVariants.{DuplicateRoom, DuplicatePerson}
use Rattle.office_core.specs.declared.refusal.Refusal.TheVariants.{KeyInUse}
use Rattle.office_core.specs.declared.refusal.Refusal.TheVariants.{RoomShut, RoomTaken, HasHome}
use Rattle.office_core.specs.declared.refusal.Refusal.TheVariants.{NoHome, Withdrawn}
use Rattle.office_core.specs.declared.refusal.Refusal.TheVariants.{WrongWordCount, LimitReached}
use Rattle.office_core.specs.declared.refusal.Refusal.TheVariants.{ListDiffers, BadRecord, NotInRound}
use Rattle.office_core.specs.declared.refusal.Refusal.TheVariants.{NoSuchRound, NotShut}
use Rattle.office_core.specs.declared.refusal.Refusal.TheVariants.{OutOfMemory, Going, UnknownLabel}

-- the number of a refusal
abbrev pub number_of : Refusal → ℕ
number_of (BadPhase phase) = 1
number_of UnknownPerson = 2
number_of (UnknownRoom room) = 3
number_of DuplicateRoom = 4
number_of DuplicatePerson = 5
number_of KeyInUse = 6
number_of (RoomShut room) = 7
number_of RoomTaken = 8
number_of HasHome = 9
number_of NoHome = 10
number_of Withdrawn = 11
number_of (WrongWordCount want got) = 12
number_of LimitReached = 13
number_of ListDiffers = 14
number_of (BadRecord at cause) = 15
number_of NotInRound = 16
number_of NoSuchRound = 17
number_of NotShut = 18
number_of OutOfMemory = 19
number_of Going = 24
number_of UnknownLabel = 25

-- the name of a refusal
abbrev pub name_of : Refusal → List ℕ
name_of (BadPhase phase) = codes "BadPhase"
name_of UnknownPerson = codes "UnknownPerson"
name_of (UnknownRoom room) = codes "UnknownRoom"
name_of DuplicateRoom = codes "DuplicateRoom"
name_of DuplicatePerson = codes "DuplicatePerson"
name_of KeyInUse = codes "KeyInUse"
name_of (RoomShut room) = codes "RoomShut"
name_of RoomTaken = codes "RoomTaken"
name_of HasHome = codes "HasHome"
name_of NoHome = codes "NoHome"
name_of Withdrawn = codes "Withdrawn"
name_of (WrongWordCount want got) = codes "WrongWordCount"
name_of LimitReached = codes "LimitReached"
name_of ListDiffers = codes "ListDiffers"
name_of (BadRecord at cause) = codes "BadRecord"
name_of NotInRound = codes "NotInRound"
name_of NoSuchRound = codes "NoSuchRound"
name_of NotShut = codes "NotShut"
name_of OutOfMemory = codes "OutOfMemory"
name_of Going = codes "Going"
name_of UnknownLabel = codes "UnknownLabel"
