-- Tables that this program creates again and fills again.
use Rattle.std.specs.Prelude.{◌≡◌, List, [], ◌∷◌}
use Rattle.sqlite.specs.State.{State, HasCleanDisk}
use Rattle.office_schema.specs.rows.ReadsOffice.{AreRecordsOf}
use Rattle.office_schema.specs.rows.Tables.{Tables, own_version}
use Rattle.office_schema.specs.declared.rows.records.OfficeRecords.{OfficeRecords}
use Rattle.office_schema.specs.tables.Edits.{with_version}
use Rattle.office_schema.specs.tables.Tables.{HasTables}
use Rattle.office_schema.specs.tables.InLayout.{HasTablesIn}
use Rattle.office_schema.specs.declared.tables.layouts.Layout.{Layout}

-- the tables after `with_row` has added each of these rows, one after another
abbrev pub with_all : {X : Type 0} → (X → Tables → Tables) → List X → Tables → Tables
with_all with_row [] tables = tables
with_all with_row (r ∷ rows) tables = with_all with_row rows (with_row r tables)

-- If `records` are the rows of the layout's tables, the tables that this program creates have replaced those tables.
-- The new tables have the same rows, and the version that this program creates.
pub record Migrates (layout : Layout) (records : OfficeRecords) (old new : State) : Type 0 where
  pub shown : (tables : Tables) → HasCleanDisk new → HasTablesIn layout old.now tables
      → AreRecordsOf tables records → HasTables new.now (with_version own_version tables)
  pub mode : HasCleanDisk new → new.in_transaction ≡ old.in_transaction
