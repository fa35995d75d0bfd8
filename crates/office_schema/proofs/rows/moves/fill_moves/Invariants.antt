use Rattle.std.proofs.Common.{◌≡◌, ◌≤◌, length, reverse, vec_len}
use Rattle.std.specs.FinMap as map
use Rattle.office_schema.specs.rows.Inner.Recorded.{recorded_moves}
use Rattle.office_schema.proofs.rows.moves.fill_moves.Given as goal

abbrev pub invariant-loop-row : goal.invariant-loop-row
invariant-loop-row l = record {
  left : recorded_moves map.empty (reverse l.fn.rows.items) ≡ recorded_moves l.moves (reverse l.rows.items);
  fewer : length l.rows.items ≤ length l.fn.rows.items;
}

abbrev pub decreases-loop-row : goal.decreases-loop-row
decreases-loop-row l = vec_len l.rows
