-- Preference lists: rooms, the best first.
use Rattle.std.specs.Prelude.{◌≡◌, ◌≤◌, ℕ, List, [], length, nat_lt, Option, None, Some, if◌then◌else◌}
use Rattle.std.specs.Option.{option_map}
use Rattle.room_types.specs.Repeats.{first_repeated}
use Rattle.room_types.specs.Texts.{Text}
use Rattle.room_types.specs.declared.fault.TypeFault.{TypeFault}
use Rattle.room_types.specs.declared.fault.TypeFault.TheVariants.{TooManyChoices, RoomRepeated}

-- the greatest number of rooms on a list
abbrev pub choice_limit : ℕ
choice_limit = 40

-- at most `choice_limit` rooms, and none twice
abbrev pub IsChoices : List Text → Type 0
IsChoices codes = (length codes ≤ choice_limit) × (first_repeated [] codes ≡ None)

-- why a list is refused, or `None` if it is not: it has too many rooms, or else it has a room twice; the fault then
-- contains the first room that equals an earlier one
abbrev pub choices_fault : List Text → Option TypeFault
choices_fault codes =
    if nat_lt choice_limit (length codes) then Some TooManyChoices
    else option_map (λ code. RoomRepeated code) (first_repeated [] codes)

-- the list is refused because it has a room twice
abbrev pub RepeatsRoom : List Text → Type 0
RepeatsRoom codes = (room : Text) × (choices_fault codes ≡ Some (RoomRepeated room))
