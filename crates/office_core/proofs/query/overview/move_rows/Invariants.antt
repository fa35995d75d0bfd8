use Rattle.std.proofs.Common.{◌≡◌, ◌++◌, map}
use Rattle.office_core.specs.Query.Overview.{move_row, move_rows}
use Rattle.office_core.proofs.query.overview.move_rows.Given as goal

-- the rows so far, followed by those of the remaining moves, are all rows
abbrev pub invariant-loop-id : goal.invariant-loop-id
invariant-loop-id l = record {
  can : (goal.iterator-loop-id).can_next l.id-iterator;
  ends : (goal.iterator-loop-id).is_finite l.id-iterator;
  rows : l.rows.items ++ map (move_row l.round) l.id-iterator ≡ move_rows l.office l.round;
}
