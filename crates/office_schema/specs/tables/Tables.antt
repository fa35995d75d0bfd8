-- The tables of an office in a database.
use Rattle.std.specs.Prelude.{◌≡◌, ◌==◌, ℕ, Bool, true, false, cond, List, [], ◌∷◌}
use Rattle.sqlite_value.specs.Order.{Row}
use Rattle.sqlite_trees.specs.Tree.{Trees}
use Rattle.sqlite_schema.specs.declared.schema.Schema.{Schema}
use Rattle.sqlite.specs.Effect.{Database}
use Rattle.office_state.specs.declared.office.Office.{Office}
use Rattle.office_schema.specs.rows.Tables.{Tables, rows_of}
use Rattle.office_schema.specs.cells.Columns.{room_columns, person_columns, round_columns, choice_columns}
use Rattle.office_schema.specs.cells.Columns.{word_columns, result_columns, move_columns, list_columns}
use Rattle.office_schema.specs.cells.Columns.{grade_columns, going_columns}
use Rattle.office_schema.specs.tables.Holds.{Holds}
use Rattle.office_schema.specs.tables.ByName.{place_of}
use Rattle.office_schema.specs.tables.Schema.{office_schema, own_order}
use Rattle.office_schema.specs.declared.tables.names.TableName.{TableName}
use Rattle.office_schema.specs.declared.tables.names.TableName.TheVariants.{Choices, Words, Results, Moves, Lists}
use Rattle.office_schema.specs.declared.tables.names.TableName.TheVariants.{Grades, Going}

-- If the table exists, it holds these records. If the table does not exist, there are no records.
abbrev pub HoldsIf : {X : Type 0} → Bool → (X → Row) → List Row → List X → Type 0
HoldsIf true columns rows records = Holds columns rows records
HoldsIf false columns rows records = records ≡ []

-- for each table after the first three, the number of the tree that stores the table
pub record TableTrees : Type 0 where
  pub choices : ℕ
  pub words : ℕ
  pub results : ℕ
  pub moves : ℕ
  pub lists : ℕ
  pub grades : ℕ
  pub going : ℕ

-- the tree of the table with this name among the tables in an order, or 0 if it is not among them
abbrev pub tree_in : List (TableName × ℕ) → TableName → ℕ
tree_in [] name = 0
tree_in (o ∷ order) name = cond (place_of o.0 == place_of name) o.1 (tree_in order name)

-- the trees of the tables in an order; if a table is not among them, the number of its tree means nothing
abbrev pub trees_in : List (TableName × ℕ) → TableTrees
trees_in order = record {
  choices = tree_in order Choices;
  words = tree_in order Words;
  results = tree_in order Results;
  moves = tree_in order Moves;
  lists = tree_in order Lists;
  grades = tree_in order Grades;
  going = tree_in order Going;
}

-- The tree of each table holds the records of this table. The two flags say whether there are tables of grades and of
-- leavers.
pub record AreHeldAt (at : TableTrees) (has_grades has_leavers : Bool) (trees : Trees) (tables : Tables)
    : Type 0 where
  pub rooms : Holds room_columns (trees 0) tables.rooms
  pub people : Holds person_columns (trees 2) tables.people
  pub rounds : Holds round_columns (trees 6) tables.rounds
  pub choices : Holds choice_columns (trees at.choices) tables.choices
  pub words : Holds word_columns (trees at.words) tables.words
  pub results : Holds result_columns (trees at.results) tables.results
  pub moves : Holds move_columns (trees at.moves) tables.moves
  pub lists : Holds list_columns (trees at.lists) tables.lists
  pub grades : HoldsIf has_grades grade_columns (trees at.grades) tables.grades
  pub going : HoldsIf has_leavers going_columns (trees at.going) tables.going

-- The database has exactly this schema, and its tables, in the trees `at` after the first three, hold these rows. The two
-- flags are those of `AreHeldAt`.
pub record HasTablesAt (declared : Schema) (at : TableTrees) (has_grades has_leavers : Bool) (db : Database)
    (tables : Tables) : Type 0 where
  pub schema : db.schema ≡ declared
  pub rows : AreHeldAt at has_grades has_leavers db.trees tables

-- ---- the tables that this program creates

abbrev pub own_trees : TableTrees
own_trees = trees_in own_order

abbrev pub AreHeld : Trees → Tables → Type 0
AreHeld = AreHeldAt own_trees true true

abbrev pub HasTables : Database → Tables → Type 0
HasTables = HasTablesAt office_schema own_trees true true

-- The tables hold the rows of the office.
abbrev pub HoldsOffice : Database → Office → Type 0
HoldsOffice db office = HasTables db (rows_of office)
