use Rattle.std.proofs.Common.{◌≡◌, ◌≤◌, length}
use Rattle.std.specs.FinMap as map
use Rattle.office_schema.specs.rows.Inner.Gathered.{chosen_from}
use Rattle.office_schema.proofs.rows.choices.all_chosen.Given as goal

abbrev pub invariant-loop-person : goal.invariant-loop-person
invariant-loop-person l = record {
  can : (goal.iterator-loop-person).can_next l.person-iterator;
  ends : (goal.iterator-loop-person).is_finite l.person-iterator;
  fewer : length l.person-iterator ≤ length (map.entries l.lists);
  left : chosen_from map.empty (map.entries l.lists) ≡ chosen_from l.made l.person-iterator;
}
