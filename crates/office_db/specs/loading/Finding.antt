-- Conditions under which `find` finds an office in a database.
use Rattle.std.specs.Prelude.{◌≡◌, ◌≢◌, ℕ, ℤ, pos, Bool, [], ◌∷◌, codes, take, Contains}
use Rattle.std.specs.List.{AllByRecursion}
use Rattle.sqlite_value.specs.Order.{Row, column}
use Rattle.sqlite_value.specs.declared.value.Value.TheVariants.{Int}
use Rattle.sqlite_trees.specs.Tree.{Trees}
use Rattle.sqlite_schema.specs.declared.schema.Schema.{Schema}
use Rattle.sqlite_schema.specs.declared.schema.Table.{Table}
use Rattle.sqlite_catalog.specs.Change.{is_used}
use Rattle.sqlite.specs.Effect.{Database}
use Rattle.office_schema.specs.rows.Tables.{own_version}
use Rattle.office_db.specs.loading.Numbers.{IsWhole}
use Rattle.office_schema.specs.tables.Layouts.{table_count, trees_of}
use Rattle.office_schema.specs.tables.Layouts.{documented_schema}
use Rattle.office_schema.specs.declared.tables.layouts.Layout.{Layout}

-- A table, an index or a view has the name of table `round`. A table that the engine does not understand counts as a
-- view.
abbrev pub names_round : Schema → Bool
names_round schema = is_used schema (codes "round")

-- Some table of the schema has this declaration, in whatever tree.
abbrev pub Declares : Schema → Table → Type 0
Declares schema own = (tree : ℕ) × Contains schema.tables (record own { tree = tree })

-- Each table of the layout is declared, in whatever tree and order. Other tables may be there, too. Of the ten tables
-- in the order of `docs/formats.md`, version 1 has the first eight, and version 2 the first nine.
abbrev pub DeclaresTables : Layout → Schema → Type 0
DeclaresTables layout schema =
    AllByRecursion (Declares schema) (take (table_count layout) documented_schema.tables)

-- No row of tables `result` and `move` lacks a cell. Their last columns may be NULL; in the other tables, where the
-- last column is never NULL, no row can lack a cell.
pub record AreWhole (layout : Layout) (trees : Trees) : Type 0 where
  pub results : AllByRecursion (IsWhole 2) (trees (trees_of layout).results)
  pub moves : AllByRecursion (IsWhole 5) (trees (trees_of layout).moves)

-- Table `round` has exactly one row, and the row holds this version. Each layout keeps the table in tree 6.
abbrev pub HoldsVersion : Database → ℤ → Type 0
HoldsVersion db version = (row : Row) × (db.trees 6 ≡ row ∷ []) × (column row 2 ≡ Int version)

-- The row of table `round` holds this version, and it is not the version of this program.
abbrev pub HoldsOtherVersion : Database → ℤ → Type 0
HoldsOtherVersion db version = HoldsVersion db version × (version ≢ pos own_version)
