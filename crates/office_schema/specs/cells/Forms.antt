-- The form of a row of each table. Each test looks at the columns of one row only.
use Rattle.sqlite_value.specs.Order.{Row, column}
use Rattle.room_types.specs.Grammars.{is_person_id, is_room_code, is_key, is_name, is_label}
use Rattle.office_schema.specs.cells.Cells.{IsTextOf, IsOptionalTextOf, IsFlag, IsCount, IsShort}
use Rattle.office_schema.specs.cells.Cells.{IsGrade, IsWave, IsPhase, IsWord, IsKind, IsBlob}

abbrev pub IsRoomRow : Row → Type 0
IsRoomRow row = IsTextOf is_room_code (column row 0) × IsFlag (column row 1)

abbrev pub IsPersonRow : Row → Type 0
IsPersonRow row =
    IsTextOf is_person_id (column row 0) × IsTextOf is_name (column row 1)
    × IsTextOf is_key (column row 2) × IsOptionalTextOf is_room_code (column row 3)
    × IsFlag (column row 4)

-- a row of table `round`, with any version
abbrev pub IsRoundRow : Row → Type 0
IsRoundRow row = IsShort (column row 0) × IsShort (column row 1) × IsPhase (column row 2)

abbrev pub IsChoiceRow : Row → Type 0
IsChoiceRow row =
    IsTextOf is_person_id (column row 0) × IsCount (column row 1)
    × IsTextOf is_room_code (column row 2)

abbrev pub IsWordRow : Row → Type 0
IsWordRow row = IsTextOf is_person_id (column row 0) × IsWord (column row 1)

abbrev pub IsResultRow : Row → Type 0
IsResultRow row =
    IsTextOf is_person_id (column row 0) × IsOptionalTextOf is_room_code (column row 1)

abbrev pub IsMoveRow : Row → Type 0
IsMoveRow row =
    IsShort (column row 0) × IsTextOf is_person_id (column row 1)
    × IsOptionalTextOf is_room_code (column row 2) × IsOptionalTextOf is_room_code (column row 3)
    × IsWave (column row 4)

abbrev pub IsListRow : Row → Type 0
IsListRow row =
    IsTextOf is_label (column row 0) × IsKind (column row 1) × IsBlob (column row 2)
    × IsShort (column row 3)

abbrev pub IsGradeRow : Row → Type 0
IsGradeRow row = IsTextOf is_person_id (column row 0) × IsGrade (column row 1)

abbrev pub IsGoingRow : Row → Type 0
IsGoingRow row = IsTextOf is_person_id (column row 0)
