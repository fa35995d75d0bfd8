use Rattle.std.proofs.Common.{◌≡◌, ◌<◌, drop}
use Rattle.sqlite.specs.State.{HasCleanDisk}
use Rattle.sqlite.specs.Held.{state}
use Rattle.office_state.specs.Change.{applied_all, AllFit}
use Rattle.office_state.specs.declared.office.Office.{Office}
use Rattle.office_schema.specs.cells.WellFormed.{IsWellFormed}
use Rattle.office_schema.specs.rows.Tables.{rows_of}
use Rattle.office_schema.specs.tables.Crashes.{WasOpen}
use Rattle.office_schema.specs.tables.Steps.{StaysInside}
use Rattle.office_schema.specs.tables.Tables.{HoldsOffice}
use Rattle.office_db.proofs.changes.store.apply_changes.Given as goal

-- The tables hold the rows of an office from which the remaining changes lead where all changes lead.
abbrev pub invariant-loop-change : goal.invariant-loop-change
invariant-loop-change g l = record {
  same_reference : l.tx.conn.ghost_name ≡ l.fn.tx.conn.ghost_name;
  made : (office : Office) → HasCleanDisk (state g.S.Store l.tx.conn.now) → AllFit l.first office l.changes
      → IsWellFormed (rows_of office)
      → HoldsOffice (state g.S.Store l.fn.tx.conn.now).now office
      → (mid : Office) × AllFit l.first mid (drop l.change-index l.changes) × IsWellFormed (rows_of mid)
      × HoldsOffice (state g.S.Store l.tx.conn.now).now mid
      × (applied_all mid (drop l.change-index l.changes) ≡ applied_all office l.changes);
  mode : HasCleanDisk (state g.S.Store l.tx.conn.now) → l.tx.conn.now.in_transaction ≡ l.fn.tx.conn.now.in_transaction;
  was_open : 0 < l.change-index → WasOpen (state g.S.Store l.fn.tx.conn.now) (state g.S.Store l.tx.conn.now);
  inside : StaysInside (state g.S.Store l.fn.tx.conn.now) (state g.S.Store l.tx.conn.now);
}
