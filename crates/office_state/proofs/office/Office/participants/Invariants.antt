use Rattle.std.proofs.Common.{◌≡◌, ◌++◌, not, map}
use Rattle.std.specs.List.{filter}
use Rattle.office_state.specs.Office.{participants, sits_out}
use Rattle.office_state.proofs.office.Office.participants.Given as goal

-- those found so far and those found among the rest are all
abbrev pub invariant-loop-id : goal.invariant-loop-id
invariant-loop-id l = record {
  can : (goal.iterator-loop-id).can_next l.id-iterator;
  ends : (goal.iterator-loop-id).is_finite l.id-iterator;
  found : l.people.items ++ map (λ e. e.0)
      (filter (λ e. not (sits_out l.self e.0)) l.id-iterator) ≡ participants l.self;
}
