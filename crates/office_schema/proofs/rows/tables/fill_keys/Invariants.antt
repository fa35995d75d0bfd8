use Rattle.std.proofs.Common.{◌≡◌, ◌≤◌, length, map as map_list, reverse, vec_len}
use Rattle.std.specs.FinMap as map
use Rattle.office_schema.specs.rows.Inner.Filled.{filled, key_entry}
use Rattle.office_schema.proofs.rows.tables.fill_keys.Given as goal

abbrev pub invariant-loop-key : goal.invariant-loop-key
invariant-loop-key g l = record {
  left : filled map.empty (reverse (map_list key_entry l.fn.rows.items)) ≡ filled l.set
      (reverse (map_list key_entry l.rows.items));
  fewer : length l.rows.items ≤ length l.fn.rows.items;
}

abbrev pub decreases-loop-key : goal.decreases-loop-key
decreases-loop-key g l = vec_len l.rows
