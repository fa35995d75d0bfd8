use Rattle.std.proofs.Common.{◌≡◌, List, ℕ, take}
use Rattle.std.specs.FinMap as map
use Rattle.office_state.specs.Round.{number_in}
use Rattle.office_state.proofs.round.names.numbers.Given as goal

abbrev pub invariant-loop-number : goal.invariant-loop-number
invariant-loop-number g l =
    (name : List ℕ) → map.get l.numbers name ≡ number_in (take l.number l.names) name
