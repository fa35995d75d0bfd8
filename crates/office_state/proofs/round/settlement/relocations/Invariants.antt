use Rattle.std.proofs.Common.{◌≡◌, ◌++◌, true, not, map}
use Rattle.std.specs.List.{filter, list_any}
use Rattle.office_state.specs.Office.{home_of, has_withdrawn, people_not_withdrawn, recorded_result}
use Rattle.office_state.specs.Round.Settlement.{has_room, relocations, changes_home}
use Rattle.office_state.proofs.round.settlement.relocations.Given as goal

-- the people found so far and those found among the rest are all
abbrev pub invariant-loop-id : goal.invariant-loop-id
invariant-loop-id l = record {
  can : (goal.iterator-loop-id).can_next l.id-iterator;
  ends : (goal.iterator-loop-id).is_finite l.id-iterator;
  found : l.relocations.items ++ map (λ p. (p, home_of l.office p, recorded_result l.office p))
      (filter (changes_home l.office) (map (λ e. e.0)
      (filter (λ e. not (has_withdrawn l.office e.0)) l.id-iterator)))
      ≡ relocations l.office;
  left : list_any (has_room l.office)
      (map (λ e. e.0) (filter (λ e. not (has_withdrawn l.office e.0)) l.id-iterator)) ≡ true
      → list_any (has_room l.office) (people_not_withdrawn l.office) ≡ true;
}
