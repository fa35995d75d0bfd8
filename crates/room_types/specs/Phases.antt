-- The phases of a round, as they are printed.
use Rattle.std.specs.Prelude.{ℕ, List, codes}
use Rattle.room_types.specs.declared.phase.Phase.{Phase}
use Rattle.room_types.specs.declared.phase.Phase.TheVariants.{Idle, Opened, Closed, Drawn, Ran, Published}

abbrev pub phase_text : Phase → List ℕ
phase_text Idle = codes "idle"
phase_text Opened = codes "open"
phase_text Closed = codes "closed"
phase_text Drawn = codes "drawn"
phase_text Ran = codes "ran"
phase_text Published = codes "published"
