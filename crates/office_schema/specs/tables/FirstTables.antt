-- Databases whose first tables are those of an office. Any tables may follow them.
use Rattle.std.specs.Prelude.{◌≡◌, List, [], ◌∷◌, ◌++◌, take}
use Rattle.sqlite_schema.specs.declared.schema.Index.{Index}
use Rattle.sqlite_schema.specs.declared.schema.Schema.{Schema}
use Rattle.sqlite_schema.specs.declared.schema.Table.{Table}
use Rattle.sqlite.specs.Effect.{Database}
use Rattle.office_state.specs.declared.office.Office.{Office}
use Rattle.office_schema.specs.rows.Tables.{Tables, rows_at}
use Rattle.office_schema.specs.tables.Layouts.{schema_of, version_of}
use Rattle.office_schema.specs.tables.Schema.{room, person, round}
use Rattle.office_schema.specs.tables.InLayout.{AreHeldIn}
use Rattle.office_schema.specs.declared.tables.layouts.Layout.{Layout}

-- The first three tables are `room`, `person` and `round`, and there are no views. Each layout begins with these
-- tables.
pub record BeginsOffice (schema : Schema) : Type 0 where
  pub tables : take 3 schema.tables ≡ room 0 ∷ person 2 ∷ round 6 ∷ []
  pub views : schema.views ≡ []

-- ---- the tables of a layout, and any tables after them

abbrev pub followed_by : Layout → List Table → List Index → Schema
followed_by layout tables indexes = record {
  tables = (schema_of layout).tables ++ tables;
  indexes = (schema_of layout).indexes ++ indexes;
  views = [];
}

-- The schema begins with the tables and the indexes of the layout, and has no views.
pub record Begins (layout : Layout) (schema : Schema) : Type 0 where
  pub tables : List Table
  pub indexes : List Index
  pub is : schema ≡ followed_by layout tables indexes

-- The database begins with the tables of the layout, and they have these rows.
pub record HasTablesFirst (layout : Layout) (db : Database) (tables : Tables) : Type 0 where
  pub schema : Begins layout db.schema
  pub rows : AreHeldIn layout db.trees tables

-- The database begins with the tables of the layout, and they hold the rows of the office.
abbrev pub HoldsOfficeFirst : Layout → Database → Office → Type 0
HoldsOfficeFirst layout db office = HasTablesFirst layout db (rows_at (version_of layout) office)
