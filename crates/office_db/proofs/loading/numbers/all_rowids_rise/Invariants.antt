use Rattle.std.proofs.Common.{◌≡◌, ℕ, ◌<◌, false, IsTrue}
use Rattle.sqlite.specs.Held.{state}
use Rattle.sqlite.specs.State.{HasCleanDisk}
use Rattle.office_schema.specs.tables.FirstTables.{Begins}
use Rattle.office_db.specs.loading.Numbers.{HaveRowids, tree_of}
use Rattle.office_db.specs.loading.Reading.{OnlyReads}
use Rattle.office_db.proofs.loading.numbers.all_rowids_rise.Given as goal

abbrev pub invariant-loop-place : goal.invariant-loop-place
invariant-loop-place g l = record {
  outside : l.conn.in_transaction ≡ false;
  reads : OnlyReads (state g.S.Store l.fn.conn) (state g.S.Store l.conn);
  opened : HasCleanDisk (state g.S.Store l.conn) → 0 < l.place → IsTrue (state g.S.Store l.conn).is_open;
  risen : HasCleanDisk (state g.S.Store l.conn) → Begins l.layout (state g.S.Store l.fn.conn).now.schema
      → (k : ℕ) → k < l.place → HaveRowids ((state g.S.Store l.fn.conn).now.trees (tree_of l.layout k));
}
