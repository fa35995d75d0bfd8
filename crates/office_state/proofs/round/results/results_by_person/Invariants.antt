use Rattle.std.proofs.Common.{◌≡◌, List, ℕ, None, take, slice_index_or}
use Rattle.std.specs.Option.{option_map, option_and_then}
use Rattle.std.specs.List.{slice_get}
use Rattle.std.specs.FinMap as map
use Rattle.office_state.specs.Round.{number_in}
use Rattle.office_state.proofs.round.results.results_by_person.Given as goal

abbrev pub invariant-loop-number : goal.invariant-loop-number
invariant-loop-number l =
    (person : List ℕ) → map.get l.results person
    ≡ option_map (λ number. record
    { room = option_and_then (slice_get l.rooms) (slice_index_or l.outcome.rooms number None) })
    (number_in (take l.number l.people) person)
