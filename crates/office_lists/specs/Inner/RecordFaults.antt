-- The faults of one record and of one field of a record.
use Rattle.std.specs.Prelude.{◌≡◌, ◌⊎◌, ℕ, Bool, false, Option, Some}
use Rattle.std.specs.Option.{option_map}
use Rattle.room_types.specs.declared.fault.TypeFault.{TypeFault}
use Rattle.room_types.specs.declared.fault.TypeFault.TheVariants as type
use Rattle.office_lists.specs.declared.fault.Cause.{Cause}
use Rattle.office_lists.specs.declared.fault.Cause.TheVariants.{BadField}
use Rattle.office_lists.specs.declared.fault.ListFault.{ListFault}
use Rattle.office_lists.specs.declared.fault.ListFault.TheVariants as list
use Rattle.office_lists.specs.declared.fault.RecordFault.{RecordFault}
use Rattle.office_lists.specs.declared.fault.RecordFault.TheVariants as one

-- the error of a list in which record `at` has this fault
abbrev pub at_record : ℕ → RecordFault → ListFault
at_record at (one.Bad cause) = list.Bad at cause
at_record at one.OutOfMemory = list.OutOfMemory

-- the fault of a record in which field `number` has this fault
abbrev pub field_fault : ℕ → TypeFault → RecordFault
field_fault number type.OutOfMemory = one.OutOfMemory
field_fault number type.BadValue = one.Bad (BadField number)
field_fault number type.TooManyChoices = one.Bad (BadField number)
field_fault number (type.RoomRepeated code) = one.Bad (BadField number)

-- a fault with which parsing a record may fail: `OutOfMemory`, or `cause` if there is one
abbrev pub FailsFor : Option Cause → RecordFault → Type 0
FailsFor cause fault = (fault ≡ one.OutOfMemory) ⊎ (option_map (λ why. one.Bad why) cause ≡ Some fault)

-- a fault with which parsing field `number` may fail: `OutOfMemory`, or `BadField number` if the field is outside its
-- grammar
abbrev pub FailsAt : ℕ → Bool → RecordFault → Type 0
FailsAt number in_grammar fault =
    (fault ≡ one.OutOfMemory) ⊎ ((fault ≡ one.Bad (BadField number)) × (in_grammar ≡ false))
