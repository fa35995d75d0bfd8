-- The tables of an office, as typed rows.
use Rattle.std.specs.Prelude.{ℕ, Bool, List}
use Rattle.std.specs.FinMap as maps
use Rattle.room_types.specs.Texts.{Text}
use Rattle.room_types.specs.declared.moves.Move.{Move}
use Rattle.office_state.specs.declared.office.Assigned.{Assigned}
use Rattle.office_state.specs.declared.office.Office.{Office}
use Rattle.office_state.specs.declared.office.stored_import.StoredImport.{StoredImport}
use Rattle.office_schema.specs.rows.Rows.{only_row, rows_of_people, choice_rows, rows_of_moves, key_rows}
use Rattle.office_schema.specs.declared.rows.records.ChoiceRecord.{ChoiceRecord}
use Rattle.office_schema.specs.declared.rows.records.PersonRecord.{PersonRecord}
use Rattle.office_schema.specs.declared.rows.records.RoundRecord.{RoundRecord}

-- the rows of each table; their order has no meaning
pub record Tables : Type 0 where
  pub rooms : List (Text × Bool)
  pub people : List PersonRecord
  pub rounds : List RoundRecord
  pub choices : List ChoiceRecord
  pub words : List (Text × ℕ)
  pub results : List (Text × Assigned)
  pub moves : List Move
  pub lists : List (Text × StoredImport)
  pub grades : List (Text × ℕ)
  pub going : List Text

-- the version of the tables that this program creates
abbrev pub own_version : ℕ
own_version = 3

-- The rows of an office in tables of this version. There is one row for the round. There is one row for each room,
-- person, word, result, move and imported list, for each room in a preference list, for each recorded grade, and for
-- each person who leaves.
unfoldable pub rows_at : ℕ → Office → Tables
rows_at version office = record {
  rooms = maps.entries office.rooms;
  people = rows_of_people office.people office.withdrawn;
  rounds = only_row (record { version = version; number = office.number; phase = office.phase });
  choices = choice_rows office.choices;
  words = maps.entries office.words;
  results = maps.entries office.results;
  moves = rows_of_moves office.moves;
  lists = maps.entries office.lists;
  grades = maps.entries office.grades;
  going = key_rows office.going;
}

-- the rows of an office
abbrev pub rows_of : Office → Tables
rows_of = rows_at own_version
