-- The lines that are printed for refusals.
use Rattle.std.specs.Prelude.{[], ◌∷◌, ◌++◌, codes}
use Rattle.std.specs.Fmt.{decimal}
use Rattle.room_types.specs.Phases.{phase_text}
use Rattle.room_types.specs.Texts.{Text}
use Rattle.office_lists.specs.declared.fault.Cause.{Cause}
use Rattle.office_lists.specs.declared.fault.Cause.TheVariants.{Header, NotText, FieldCount, BadField, TooMany, Denied}
use Rattle.office_core.specs.Refusal.{name_of, number_of}
use Rattle.office_core.specs.declared.refusal.Refusal.{Refusal}
use Rattle.room_types.specs.OutputLines.{line_of}
use Rattle.office_core.specs.declared.refusal.Refusal.TheVariants.{BadPhase, UnknownPerson, UnknownRoom, DuplicateRoom, DuplicatePerson, KeyInUse, RoomShut, RoomTaken, HasHome, NoHome, Withdrawn, WrongWordCount, LimitReached, ListDiffers, BadRecord, NotInRound, NoSuchRound, NotShut, OutOfMemory, Going, UnknownLabel}

-- the text of a cause, which says what is wrong with a record of an imported list
abbrev pub cause_text : Cause → Text
cause_text Header = codes "header"
cause_text NotText = codes "text"
cause_text FieldCount = codes "fields"
cause_text (BadField number) = codes "field " ++ decimal number
cause_text TooMany = codes "many"
cause_text (Denied number) = codes "refusal " ++ decimal number

-- a space and the values of a refusal; empty for a refusal without values
abbrev pub refusal_values : Refusal → Text
refusal_values (BadPhase phase) = codes " " ++ phase_text phase
refusal_values (UnknownRoom room) = codes " " ++ room
refusal_values (RoomShut room) = codes " " ++ room
refusal_values (WrongWordCount want got) = codes " want " ++ decimal want ++ codes " got " ++ decimal got
refusal_values (BadRecord at cause) = codes " " ++ decimal at ++ codes " " ++ cause_text cause
refusal_values UnknownPerson = []
refusal_values DuplicateRoom = []
refusal_values DuplicatePerson = []
refusal_values KeyInUse = []
refusal_values RoomTaken = []
refusal_values HasHome = []
refusal_values NoHome = []
refusal_values Withdrawn = []
refusal_values LimitReached = []
refusal_values ListDiffers = []
refusal_values NotInRound = []
refusal_values NoSuchRound = []
refusal_values NotShut = []
refusal_values OutOfMemory = []
refusal_values Going = []
refusal_values UnknownLabel = []

-- the line of a refusal: `refused`, then the refusal's number, name and values
abbrev pub refusal_text : Refusal → Text
refusal_text refusal = line_of (codes "refused " ∷ decimal (number_of refusal) ∷ codes " " ∷ name_of refusal ∷ refusal_values refusal ∷ [])
