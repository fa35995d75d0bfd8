-- What reading leaves unchanged.
use Rattle.std.specs.Prelude.{◌≡◌, Bool, true, false, List, [], ◌∷◌}
use Rattle.sqlite_sql.specs.Term.{Term, col}
use Rattle.sqlite_trees.specs.Tree.{Trees}
use Rattle.sqlite_value.specs.Order.{Row}
use Rattle.sqlite.specs.State.{State}
use Rattle.office_schema.specs.rows.Tables.{Tables}
use Rattle.office_schema.specs.cells.Columns.{room_columns, person_columns, round_shown, choice_columns}
use Rattle.office_schema.specs.cells.Columns.{word_columns, result_columns, move_columns, list_columns}
use Rattle.office_schema.specs.cells.Columns.{grade_columns, going_columns}
use Rattle.office_schema.specs.cells.Forms.{IsRoomRow, IsPersonRow, IsRoundRow, IsChoiceRow}
use Rattle.office_schema.specs.cells.Forms.{IsWordRow, IsResultRow, IsMoveRow, IsListRow}
use Rattle.office_schema.specs.cells.Forms.{IsGradeRow, IsGoingRow}
use Rattle.office_schema.specs.tables.Listing.{ShowRecords}
use Rattle.office_schema.specs.tables.Layouts.{has_grades, has_leavers, trees_of}
use Rattle.office_schema.specs.tables.Crashes.{LeavesNothingNew}
use Rattle.office_schema.specs.tables.Steps.{Follows, IsIntact}
use Rattle.office_schema.specs.declared.tables.layouts.Layout.{Layout}

-- If the disk is clean and the connection open, the database is the same as before.
pub record KeepsDatabase (old new : State) : Type 0 where
  pub follows : Follows old new
  pub same : IsIntact new → new.now ≡ old.now

-- The same, and nothing was committed.
pub record OnlyReads (old new : State) : Type 0 where
  pub keeps : KeepsDatabase old new
  pub crash : LeavesNothingNew old new

-- If the table exists, its listed rows are these records. If it does not exist, there are no records.
abbrev pub ShowIf : {X : Type 0} → Bool → (X → Row) → (Row → Type 0) → List Term → List Row → List X
    → Type 0
ShowIf true shown IsForm project rows records = ShowRecords shown IsForm project rows records
ShowIf false shown IsForm project rows records = records ≡ []

-- For each table of the layout, the listed rows are the table's records. Each record has its form.
pub record AreShown (layout : Layout) (trees : Trees) (tables : Tables) : Type 0 where
  pub rooms : ShowRecords room_columns IsRoomRow (col 1 1 ∷ col 1 2 ∷ []) (trees 0) tables.rooms
  pub people : ShowRecords person_columns IsPersonRow
      (col 1 1 ∷ col 1 2 ∷ col 1 3 ∷ col 1 4 ∷ col 1 5 ∷ []) (trees 2) tables.people
  pub rounds : ShowRecords round_shown IsRoundRow (col 1 2 ∷ col 1 3 ∷ col 1 4 ∷ []) (trees 6)
      tables.rounds
  pub choices : ShowRecords choice_columns IsChoiceRow (col 1 1 ∷ col 1 2 ∷ col 1 3 ∷ [])
      (trees (trees_of layout).choices) tables.choices
  pub words : ShowRecords word_columns IsWordRow (col 1 1 ∷ col 1 2 ∷ [])
      (trees (trees_of layout).words) tables.words
  pub results : ShowRecords result_columns IsResultRow (col 1 1 ∷ col 1 2 ∷ [])
      (trees (trees_of layout).results) tables.results
  pub moves : ShowRecords move_columns IsMoveRow
      (col 1 1 ∷ col 1 2 ∷ col 1 3 ∷ col 1 4 ∷ col 1 5 ∷ []) (trees (trees_of layout).moves)
      tables.moves
  pub lists : ShowRecords list_columns IsListRow (col 1 1 ∷ col 1 2 ∷ col 1 3 ∷ col 1 4 ∷ [])
      (trees (trees_of layout).lists) tables.lists
  pub grades : ShowIf (has_grades layout) grade_columns IsGradeRow (col 1 1 ∷ col 1 2 ∷ [])
      (trees (trees_of layout).grades) tables.grades
  pub going : ShowIf (has_leavers layout) going_columns IsGoingRow (col 1 1 ∷ [])
      (trees (trees_of layout).going) tables.going
