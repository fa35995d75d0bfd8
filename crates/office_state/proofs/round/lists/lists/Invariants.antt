use Rattle.std.proofs.Common.{◌≡◌, None, [], take, map}
use Rattle.std.specs.List.{All, filter_map}
use Rattle.std.specs.FinMap as maps
use Rattle.room_types.specs.Repeats.{first_repeated}
use Rattle.office_state.specs.Office.{home_of, choices_of}
use Rattle.office_state.specs.Round.{before_own}
use Rattle.office_state.proofs.round.lists.lists.Given as goal

abbrev pub invariant-loop-person : goal.invariant-loop-person
invariant-loop-person l = record {
  returned : map (λ list. list.items) l.lists.items
      ≡ map (λ p. filter_map (maps.get l.numbers)
      (before_own (home_of l.office p) (choices_of l.office p))) (take l.person-index l.people);
  differ : All (λ p. first_repeated [] (choices_of l.office p) ≡ None)
      (take l.person-index l.people);
}
