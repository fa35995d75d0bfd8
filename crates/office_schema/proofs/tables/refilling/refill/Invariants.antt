use Rattle.std.proofs.Common.{◌≡◌, drop}
use Rattle.sqlite.specs.State.{HasCleanDisk}
use Rattle.sqlite.specs.Held.{state}
use Rattle.office_schema.specs.rows.Tables.{Tables}
use Rattle.office_schema.specs.tables.Refilling.{with_all}
use Rattle.office_schema.specs.tables.Steps.{StaysInside}
use Rattle.office_schema.specs.tables.Tables.{HasTables}
use Rattle.office_schema.proofs.tables.refilling.refill.Given as goal

-- With the remaining rows the tables will be as all rows make them.
abbrev pub invariant-loop-row : goal.invariant-loop-row
invariant-loop-row g l = record {
  same_reference : l.tx.conn.ghost_name ≡ l.fn.tx.conn.ghost_name;
  made : (tables : Tables) → HasCleanDisk (state g.S.Store l.tx.conn.now)
      → HasTables (state g.S.Store l.fn.tx.conn.now).now tables
      → (mid : Tables) × HasTables (state g.S.Store l.tx.conn.now).now mid
      × (with_all g.R.Refilled.with_row (drop l.row-index l.rows) mid ≡ with_all g.R.Refilled.with_row l.rows tables);
  mode : HasCleanDisk (state g.S.Store l.tx.conn.now) → l.tx.conn.now.in_transaction ≡ l.fn.tx.conn.now.in_transaction;
  inside : StaysInside (state g.S.Store l.fn.tx.conn.now) (state g.S.Store l.tx.conn.now);
}
