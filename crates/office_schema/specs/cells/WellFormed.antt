-- Rows whose texts are in their grammars and whose numbers are in their ranges.
use Rattle.std.specs.Prelude.{map}
use Rattle.std.specs.List.{All}
use Rattle.office_schema.specs.rows.Tables.{Tables}
use Rattle.office_schema.specs.cells.Columns.{room_columns, person_columns, round_shown, choice_columns}
use Rattle.office_schema.specs.cells.Columns.{word_columns, result_columns, move_columns, list_columns, grade_columns, going_columns}
use Rattle.office_schema.specs.cells.Forms.{IsRoomRow, IsPersonRow, IsRoundRow, IsChoiceRow}
use Rattle.office_schema.specs.cells.Forms.{IsWordRow, IsResultRow, IsMoveRow, IsListRow, IsGradeRow, IsGoingRow}

-- Each row has the form of its table. The rows of every office of this program have this form, and reading accepts no
-- other rows.
pub record IsWellFormed (tables : Tables) : Type 0 where
  pub rooms : All IsRoomRow (map room_columns tables.rooms)
  pub people : All IsPersonRow (map person_columns tables.people)
  pub rounds : All IsRoundRow (map round_shown tables.rounds)
  pub choices : All IsChoiceRow (map choice_columns tables.choices)
  pub words : All IsWordRow (map word_columns tables.words)
  pub results : All IsResultRow (map result_columns tables.results)
  pub moves : All IsMoveRow (map move_columns tables.moves)
  pub lists : All IsListRow (map list_columns tables.lists)
  pub grades : All IsGradeRow (map grade_columns tables.grades)
  pub going : All IsGoingRow (map going_columns tables.going)
