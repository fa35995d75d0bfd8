use Rattle.std.proofs.Common.{◌≡◌, ◌≤◌, length, reverse, vec_len}
use Rattle.std.specs.FinMap as map
use Rattle.office_schema.specs.rows.Inner.Filled.{filled}
use Rattle.office_schema.proofs.rows.tables.fill.Given as goal

abbrev pub invariant-loop-key : goal.invariant-loop-key
invariant-loop-key g l = record {
  left : filled map.empty (reverse l.fn.rows.items) ≡ filled l.table (reverse l.rows.items);
  fewer : length l.rows.items ≤ length l.fn.rows.items;
}

abbrev pub decreases-loop-key : goal.decreases-loop-key
decreases-loop-key g l = vec_len l.rows
