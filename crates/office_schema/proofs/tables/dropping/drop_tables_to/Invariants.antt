use Rattle.std.proofs.Common.{◌≡◌, ◌-◌}
use Rattle.sqlite.specs.Held.{state}
use Rattle.office_schema.specs.tables.Declaring.{LeavesFirst}
use Rattle.office_schema.specs.tables.Layouts.{table_count}
use Rattle.office_schema.specs.tables.Steps.{StaysInside}
use Rattle.office_schema.proofs.tables.dropping.drop_tables_to.Given as goal

-- `step` tables are gone.
abbrev pub invariant-loop-step : goal.invariant-loop-step
invariant-loop-step g l = record {
  same_reference : l.tx.conn.ghost_name ≡ l.fn.tx.conn.ghost_name;
  change : LeavesFirst l.layout (table_count l.layout - l.step) (state g.S.Store l.fn.tx.conn.now)
      (state g.S.Store l.tx.conn.now);
  inside : StaysInside (state g.S.Store l.fn.tx.conn.now) (state g.S.Store l.tx.conn.now);
}
