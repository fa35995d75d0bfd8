-- The tables of an office by their names, so that one definition or lemma holds for each of them.
use Rattle.std.specs.Prelude.{ℕ, Bool, List, slice_index_or}
use Rattle.sqlite_schema.specs.declared.schema.Table.{Table}
use Rattle.sqlite_trees.specs.Tree.{Trees}
use Rattle.sqlite_value.specs.Order.{Row}
use Rattle.room_types.specs.Texts.{Text}
use Rattle.room_types.specs.declared.moves.Move.{Move}
use Rattle.office_state.specs.declared.office.Assigned.{Assigned}
use Rattle.office_state.specs.declared.office.stored_import.StoredImport.{StoredImport}
use Rattle.office_schema.specs.cells.Columns as columns
use Rattle.office_schema.specs.cells.Forms as form
use Rattle.office_schema.specs.rows.Tables.{Tables}
use Rattle.office_schema.specs.tables.Holds.{Holds}
use Rattle.office_schema.specs.tables.Schema.{office_schema, office_table}
use Rattle.office_schema.specs.declared.rows.records.ChoiceRecord.{ChoiceRecord}
use Rattle.office_schema.specs.declared.rows.records.PersonRecord.{PersonRecord}
use Rattle.office_schema.specs.declared.rows.records.RoundRecord.{RoundRecord}
use Rattle.office_schema.specs.declared.tables.names.TableName.{TableName}
use Rattle.office_schema.specs.declared.tables.names.TableName.TheVariants.{Rooms, People, Rounds, Choices, Words}
use Rattle.office_schema.specs.declared.tables.names.TableName.TheVariants.{Results, Moves, Lists, Grades, Going}

abbrev pub RecordOf : TableName → Type 0
RecordOf Rooms = Text × Bool
RecordOf People = PersonRecord
RecordOf Rounds = RoundRecord
RecordOf Choices = ChoiceRecord
RecordOf Words = Text × ℕ
RecordOf Results = Text × Assigned
RecordOf Moves = Move
RecordOf Lists = Text × StoredImport
RecordOf Grades = Text × ℕ
RecordOf Going = Text

-- the records of a table
abbrev pub records_of : Tables → (name : TableName) → List (RecordOf name)
records_of tables Rooms = tables.rooms
records_of tables People = tables.people
records_of tables Rounds = tables.rounds
records_of tables Choices = tables.choices
records_of tables Words = tables.words
records_of tables Results = tables.results
records_of tables Moves = tables.moves
records_of tables Lists = tables.lists
records_of tables Grades = tables.grades
records_of tables Going = tables.going

-- the tables with these records in place of those of one table
abbrev pub with_records : Tables → (name : TableName) → List (RecordOf name) → Tables
with_records tables Rooms xs = record tables { rooms = xs }
with_records tables People xs = record tables { people = xs }
with_records tables Rounds xs = record tables { rounds = xs }
with_records tables Choices xs = record tables { choices = xs }
with_records tables Words xs = record tables { words = xs }
with_records tables Results xs = record tables { results = xs }
with_records tables Moves xs = record tables { moves = xs }
with_records tables Lists xs = record tables { lists = xs }
with_records tables Grades xs = record tables { grades = xs }
with_records tables Going xs = record tables { going = xs }

-- the stored columns of a record
abbrev pub columns_of : (name : TableName) → RecordOf name → Row
columns_of Rooms = columns.room_columns
columns_of People = columns.person_columns
columns_of Rounds = columns.round_columns
columns_of Choices = columns.choice_columns
columns_of Words = columns.word_columns
columns_of Results = columns.result_columns
columns_of Moves = columns.move_columns
columns_of Lists = columns.list_columns
columns_of Grades = columns.grade_columns
columns_of Going = columns.going_columns

-- the columns that a query for a record shows; they are the stored columns, except that no query shows the key of
-- table `round`
abbrev pub shown_columns_of : (name : TableName) → RecordOf name → Row
shown_columns_of Rooms = columns.room_columns
shown_columns_of People = columns.person_columns
shown_columns_of Rounds = columns.round_shown
shown_columns_of Choices = columns.choice_columns
shown_columns_of Words = columns.word_columns
shown_columns_of Results = columns.result_columns
shown_columns_of Moves = columns.move_columns
shown_columns_of Lists = columns.list_columns
shown_columns_of Grades = columns.grade_columns
shown_columns_of Going = columns.going_columns

-- the form of a shown row
abbrev pub form_of : TableName → Row → Type 0
form_of Rooms = form.IsRoomRow
form_of People = form.IsPersonRow
form_of Rounds = form.IsRoundRow
form_of Choices = form.IsChoiceRow
form_of Words = form.IsWordRow
form_of Results = form.IsResultRow
form_of Moves = form.IsMoveRow
form_of Lists = form.IsListRow
form_of Grades = form.IsGradeRow
form_of Going = form.IsGoingRow

-- the place of a table in the order in which this program creates the tables
abbrev pub place_of : TableName → ℕ
place_of Rooms = 0
place_of People = 1
place_of Rounds = 2
place_of Moves = 3
place_of Lists = 4
place_of Grades = 5
place_of Words = 6
place_of Results = 7
place_of Choices = 8
place_of Going = 9

-- the table, as this program creates it
abbrev pub table_named : TableName → Table
table_named name = slice_index_or office_schema.tables (place_of name) (office_table Rooms 0)

-- The table's tree holds these records.
abbrev pub HoldsRecords : Trees → (name : TableName) → List (RecordOf name) → Type 0
HoldsRecords trees name = Holds (columns_of name) (trees (table_named name).tree)
