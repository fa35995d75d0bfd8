-- The tables of an office in a database, in any of the layouts. In the layout `Own`, `AreHeldIn`, `HasTablesIn` and
-- `HoldsOfficeIn` compute to `AreHeld`, `HasTables` and `HoldsOffice`.
use Rattle.sqlite_trees.specs.Tree.{Trees}
use Rattle.sqlite.specs.Effect.{Database}
use Rattle.office_state.specs.declared.office.Office.{Office}
use Rattle.office_schema.specs.rows.Tables.{Tables, rows_at}
use Rattle.office_schema.specs.tables.Layouts.{has_grades, has_leavers, schema_of, trees_of, version_of}
use Rattle.office_schema.specs.tables.Tables.{AreHeldAt, HasTablesAt}
use Rattle.office_schema.specs.declared.tables.layouts.Layout.{Layout}

-- For each table of the layout, the table's tree holds the records of this table.
abbrev pub AreHeldIn : Layout → Trees → Tables → Type 0
AreHeldIn layout = AreHeldAt (trees_of layout) (has_grades layout) (has_leavers layout)

-- The database has exactly the tables of the layout, with these rows.
abbrev pub HasTablesIn : Layout → Database → Tables → Type 0
HasTablesIn layout = HasTablesAt (schema_of layout) (trees_of layout) (has_grades layout) (has_leavers layout)

-- The tables, in this layout, hold the rows of the office.
abbrev pub HoldsOfficeIn : Layout → Database → Office → Type 0
HoldsOfficeIn layout db office = HasTablesIn layout db (rows_at (version_of layout) office)
