-- What the recreation of tables commits.
use Rattle.sqlite.specs.Effect.{Database}
use Rattle.office_schema.specs.rows.ReadsOffice.{AreRecordsOf}
use Rattle.office_schema.specs.rows.Tables.{Tables, own_version}
use Rattle.office_schema.specs.cells.WellFormed.{IsWellFormed}
use Rattle.office_schema.specs.declared.rows.records.OfficeRecords.{OfficeRecords}
use Rattle.office_schema.specs.tables.Edits.{with_version}
use Rattle.office_schema.specs.tables.Tables.{HasTables}
use Rattle.office_schema.specs.tables.InLayout.{HasTablesIn}
use Rattle.office_schema.specs.declared.tables.layouts.Layout.{Layout}

-- If these records are the rows of the tables of `before`, `after` has tables with the same rows.
abbrev pub HoldsRecords : Layout → OfficeRecords → Database → Database → Type 0
HoldsRecords layout records before after =
    (tables : Tables) → HasTablesIn layout before tables → AreRecordsOf tables records
    → HasTables after (with_version own_version tables)

-- The tables of `after` have the rows of the tables of `before`, if those are well-formed.
abbrev pub HoldsSameTables : Layout → Database → Database → Type 0
HoldsSameTables layout before after =
    (tables : Tables) → HasTablesIn layout before tables → IsWellFormed tables
    → HasTables after (with_version own_version tables)
