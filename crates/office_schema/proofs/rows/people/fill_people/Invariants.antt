use Rattle.std.proofs.Common.{◌≡◌, ◌≤◌, length, reverse, vec_len}
use Rattle.office_schema.specs.rows.Inner.FilledPeople.{nobody, filled_people}
use Rattle.office_schema.proofs.rows.people.fill_people.Given as goal

abbrev pub invariant-loop-row : goal.invariant-loop-row
invariant-loop-row l = record {
  left : filled_people nobody (reverse l.fn.rows.items) ≡ filled_people
      (record { people = l.people; withdrawn = l.withdrawn }) (reverse l.rows.items);
  fewer : length l.rows.items ≤ length l.fn.rows.items;
}

abbrev pub decreases-loop-row : goal.decreases-loop-row
decreases-loop-row l = vec_len l.rows
