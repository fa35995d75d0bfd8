use Rattle.std.proofs.Common.{◌≡◌, take, map}
use Rattle.std.specs.Option.{option_and_then}
use Rattle.std.specs.FinMap as maps
use Rattle.office_state.specs.Office.{home_of}
use Rattle.office_state.proofs.round.lists.homes.Given as goal

abbrev pub invariant-loop-person : goal.invariant-loop-person
invariant-loop-person l =
    l.homes.items ≡ map (λ p. option_and_then (maps.get l.numbers) (home_of l.office p))
    (take l.person-index l.people)
