use Rattle.std.proofs.Common.{◌≡◌, drop}
use Rattle.sqlite.specs.State.{HasCleanDisk}
use Rattle.sqlite.specs.Held.{state}
use Rattle.office_schema.specs.cells.WellFormed.{IsWellFormed}
use Rattle.office_schema.specs.rows.Tables.{Tables}
use Rattle.office_schema.specs.tables.Steps.{StaysInside}
use Rattle.office_schema.specs.tables.Tables.{HasTables}
use Rattle.office_db.specs.changes.Inner.Choosing.{with_choices}
use Rattle.office_db.proofs.changes.choices.add_choices.Given as goal

-- With the remaining rooms the tables will be as all rooms make them.
abbrev pub invariant-loop-room : goal.invariant-loop-room
invariant-loop-room g l = record {
  counted : l.place ≡ l.room-index;
  same_reference : l.tx.conn.ghost_name ≡ l.fn.tx.conn.ghost_name;
  made : (tables : Tables) → HasCleanDisk (state g.S.Store l.tx.conn.now) → IsWellFormed tables
      → HasTables (state g.S.Store l.fn.tx.conn.now).now tables
      → (mid : Tables) × HasTables (state g.S.Store l.tx.conn.now).now mid × IsWellFormed mid
      × (with_choices l.person l.room-index (drop l.room-index l.rooms) mid ≡ with_choices l.person 0 l.rooms tables);
  mode : HasCleanDisk (state g.S.Store l.tx.conn.now) → l.tx.conn.now.in_transaction ≡ l.fn.tx.conn.now.in_transaction;
  inside : StaysInside (state g.S.Store l.fn.tx.conn.now) (state g.S.Store l.tx.conn.now);
}
