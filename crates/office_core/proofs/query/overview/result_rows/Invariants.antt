use Rattle.std.proofs.Common.{◌≡◌, ◌++◌, map}
use Rattle.office_core.specs.Query.Overview.{result_row, result_rows}
use Rattle.office_core.proofs.query.overview.result_rows.Given as goal

-- the rows so far, followed by those of the remaining results, are all rows
abbrev pub invariant-loop-id : goal.invariant-loop-id
invariant-loop-id l = record {
  can : (goal.iterator-loop-id).can_next l.id-iterator;
  ends : (goal.iterator-loop-id).is_finite l.id-iterator;
  rows : l.rows.items ++ map result_row l.id-iterator ≡ result_rows l.office;
}
