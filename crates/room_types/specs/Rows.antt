-- The states of rooms, as they are printed.
use Rattle.std.specs.Prelude.{ℕ, List, codes}
use Rattle.room_types.specs.declared.rows.State.{State}
use Rattle.room_types.specs.declared.rows.State.TheVariants.{Free, Occupied, Shut}

abbrev pub state_text : State → List ℕ
state_text Free = codes "free"
state_text Occupied = codes "occupied"
state_text Shut = codes "shut"
