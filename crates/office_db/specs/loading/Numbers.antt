-- The rowids of the tables of an office, and how many cells their rows have.
use Rattle.std.specs.Prelude.{◌≡◌, ℕ, ◌<◌, ◌+◌, Bool, true, false, List, [], ◌∷◌, codes, length, slice_index_or, IsTrue}
use Rattle.std.specs.List.{AllByRecursion, IsDistinct}
use Rattle.sqlite_value.specs.Order.{Row, column}
use Rattle.sqlite_value.specs.declared.value.Value.TheVariants.{Null}
use Rattle.sqlite_sql.specs.Term.{Term, col}
use Rattle.sqlite_trees.specs.Tree.{Trees, rowid}
use Rattle.sqlite_trees.specs.View.{is_int}
use Rattle.sqlite.specs.Effect.{Database}
use Rattle.office_schema.specs.tables.FirstTables.{Begins}
use Rattle.office_schema.specs.tables.Holds.{same_rowid}
use Rattle.office_schema.specs.tables.Layouts.{has_grades, has_leavers, schema_of, table_count, trees_of}
use Rattle.office_schema.specs.declared.tables.layouts.Layout.{Layout}

-- Every row has an integer rowid, and no two rows have the same rowid.
pub record HaveRowids (rows : List Row) : Type 0 where
  pub keyed : AllByRecursion (λ r. IsTrue (is_int (rowid r))) rows
  pub apart : IsDistinct same_rowid rows

-- the query for the rowids of the table at this place in the order of `docs/formats.md`
abbrev pub rowid_text : ℕ → List ℕ
rowid_text place =
    slice_index_or
    (codes "SELECT rowid FROM room ORDER BY rowid" ∷ codes "SELECT rowid FROM person ORDER BY rowid"
    ∷ codes "SELECT rowid FROM round ORDER BY rowid" ∷ codes "SELECT rowid FROM choice ORDER BY rowid"
    ∷ codes "SELECT rowid FROM word ORDER BY rowid" ∷ codes "SELECT rowid FROM result ORDER BY rowid"
    ∷ codes "SELECT rowid FROM move ORDER BY rowid" ∷ codes "SELECT rowid FROM list ORDER BY rowid"
    ∷ codes "SELECT rowid FROM grade ORDER BY rowid" ∷ codes "SELECT rowid FROM going ORDER BY rowid" ∷ [])
    place []

-- the tree of the table at this place in the order of `docs/formats.md`
abbrev pub tree_of : Layout → ℕ → ℕ
tree_of layout place =
    let trees = trees_of layout in
    slice_index_or
    (0 ∷ 2 ∷ 6 ∷ trees.choices ∷ trees.words ∷ trees.results ∷ trees.moves ∷ trees.lists ∷ trees.grades
    ∷ trees.going ∷ [])
    place 0

abbrev pub only_rowid : List Term
only_rowid = col 1 0 ∷ []

-- In each table of the layout, every row has an integer rowid, and no two rows have the same rowid.
abbrev pub AllHaveRowids : Layout → Trees → Type 0
AllHaveRowids layout trees =
    (place : ℕ) → place < table_count layout → HaveRowids (trees (tree_of layout place))

-- The row has one cell for its rowid, one for each of this many columns, and no other cell.
abbrev pub IsWhole : ℕ → Row → Type 0
IsWhole columns row = length row ≡ columns + 1

-- If the table is there, each of its rows satisfies `P`.
abbrev pub AllIf : Bool → (Row → Type 0) → List Row → Type 0
AllIf true P rows = AllByRecursion P rows
AllIf false P rows = Unit {0}

-- Each row of the layout's tables has one cell for the rowid, one for each column, and no other cell. The engine
-- stores the key of table `round` only as the rowid, so its own cell is NULL.
pub record HasWholeRows (layout : Layout) (trees : Trees) : Type 0 where
  pub rooms : AllByRecursion (IsWhole 2) (trees 0)
  pub people : AllByRecursion (IsWhole 5) (trees 2)
  pub rounds : AllByRecursion (λ row. IsWhole 4 row × (column row 1 ≡ Null)) (trees 6)
  pub choices : AllByRecursion (IsWhole 3) (trees (trees_of layout).choices)
  pub words : AllByRecursion (IsWhole 2) (trees (trees_of layout).words)
  pub results : AllByRecursion (IsWhole 2) (trees (trees_of layout).results)
  pub moves : AllByRecursion (IsWhole 5) (trees (trees_of layout).moves)
  pub lists : AllByRecursion (IsWhole 4) (trees (trees_of layout).lists)
  pub grades : AllIf (has_grades layout) (IsWhole 2) (trees (trees_of layout).grades)
  pub going : AllIf (has_leavers layout) (IsWhole 1) (trees (trees_of layout).going)

-- The schema is exactly that of the layout, and the rows satisfy `HasWholeRows`.
pub record IsLaidOut (layout : Layout) (db : Database) : Type 0 where
  pub schema : db.schema ≡ schema_of layout
  pub rows : HasWholeRows layout db.trees

-- The schema begins with the tables of the layout, and their rows satisfy `HasWholeRows`.
pub record IsLaidFirst (layout : Layout) (db : Database) : Type 0 where
  pub schema : Begins layout db.schema
  pub rows : HasWholeRows layout db.trees
