use Rattle.std.proofs.Common.{◌≡◌, ◌≤◌, length, Some}
use Rattle.std.specs.FinMap as map
use Rattle.office_state.specs.Inner.Soundness.{differ_from}
use Rattle.office_state.proofs.soundness.register.have_distinct_keys.Given as goal

-- all differ if and only if those still to come differ from one another and from what was seen
abbrev pub invariant-loop-person : goal.invariant-loop-person
invariant-loop-person l = record {
  can : (goal.iterator-loop-person).can_next l.person-iterator;
  ends : (goal.iterator-loop-person).is_finite l.person-iterator;
  fewer : length l.person-iterator ≤ length (map.entries l.office.people);
  left : differ_from (λ p. Some p.key) map.empty (map.entries l.office.people) ≡ differ_from
      (λ p. Some p.key) l.seen l.person-iterator;
}
