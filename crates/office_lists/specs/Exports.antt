-- Exports: rooms, people, moves and grades as CSV.
use Rattle.std.specs.Prelude.{◌≡◌, ℕ, List, [], ◌∷◌, map, codes, Option, unwrap_or}
use Rattle.std.specs.List.{flat_map}
use Rattle.std.specs.Fmt.{decimal}
use Rattle.std.specs.List.Sorted.{IsStrictlySortedBy}
use Rattle.std.specs.declared.cmp.Ordering.{Ordering}
use Rattle.std.specs.Ordering.{nat_cmp, on, then_cmp}
use Rattle.csv.specs.Writing.{default_writer, row_text}
use Rattle.room_types.specs.Grades.{grade_text}
use Rattle.room_types.specs.Rows.{state_text}
use Rattle.room_types.specs.Texts.{Text, text_cmp}
use Rattle.room_types.specs.declared.moves.Move.{Move}
use Rattle.room_types.specs.declared.rows.GradeRow.{GradeRow}
use Rattle.room_types.specs.declared.rows.PersonRow.{PersonRow}
use Rattle.room_types.specs.declared.rows.RoomRow.{RoomRow}
use Rattle.office_lists.specs.MoveDay.{wave_text}
use Rattle.office_lists.specs.Records.{Record, records_of}
use Rattle.office_lists.specs.declared.exports.ExportKind.{ExportKind}
use Rattle.office_lists.specs.declared.exports.ExportKind.TheVariants.{Rooms, People, Moves, Grades}

-- The bytes of a record, as `csv` writes it by default. Commas separate the fields, and a line feed ends the record.
-- Quotes enclose a field that needs them; quotes within such a field are doubled.
unfoldable pub record_bytes : Record → List ℕ
record_bytes = row_text default_writer

-- the bytes of an export, which is a list of records
abbrev pub export_bytes : List Record → List ℕ
export_bytes = flat_map record_bytes

-- the first record of an export
abbrev pub header_of : ExportKind → Record
header_of Rooms = codes "room" ∷ codes "state" ∷ codes "tenant" ∷ []
header_of People = codes "person" ∷ codes "name" ∷ codes "home" ∷ []
header_of Moves = codes "round" ∷ codes "wave" ∷ codes "person" ∷ codes "from" ∷ codes "to" ∷ []
header_of Grades = codes "person" ∷ codes "grade" ∷ []

-- the text, or an empty field if there is no text
abbrev pub field_or_empty : Option Text → Text
field_or_empty text = unwrap_or text []

abbrev pub room_fields : RoomRow → Record
room_fields row = row.room ∷ state_text row.state ∷ field_or_empty row.tenant ∷ []

abbrev pub person_fields : PersonRow → Record
person_fields row = row.person ∷ row.name ∷ field_or_empty row.home ∷ []

abbrev pub move_fields : Move → Record
move_fields row =
    decimal row.round ∷ wave_text row.wave ∷ row.person ∷ field_or_empty row.from ∷ field_or_empty row.to ∷ []

abbrev pub grade_fields : GradeRow → Record
grade_fields row = row.person ∷ grade_text row.grade ∷ []

-- an export: the header, and a record for each row
abbrev pub export : {Row : Type 0} → ExportKind → (Row → Record) → List Row → List Record
export kind fields rows = header_of kind ∷ map fields rows

abbrev pub rooms_export : List RoomRow → List Record
rooms_export = export Rooms room_fields

abbrev pub people_export : List PersonRow → List Record
people_export = export People person_fields

abbrev pub moves_export : List Move → List Record
moves_export = export Moves move_fields

abbrev pub grades_export : List GradeRow → List Record
grades_export = export Grades grade_fields

-- the order of moves: by round, and within a round by the person's identifier
abbrev pub by_round : Move → Move → Ordering
by_round = then_cmp (on (λ move. move.round) nat_cmp) (on (λ move. move.person) text_cmp)

-- the moves strictly ascend in the order `by_round`
abbrev pub AscendByRound : List Move → Type 0
AscendByRound = IsStrictlySortedBy by_round

-- reading the bytes of the export gives back its records
abbrev pub IsReadBack : List Record → Type 0
IsReadBack records = records_of (export_bytes records) ≡ records

-- for each kind of export, reading the bytes of an export gives back its records
pub record AreReadBack : Type 0 where
  pub rooms : (rows : List RoomRow) → IsReadBack (rooms_export rows)
  pub people : (rows : List PersonRow) → IsReadBack (people_export rows)
  pub moves : (rows : List Move) → IsReadBack (moves_export rows)
  pub grades : (rows : List GradeRow) → IsReadBack (grades_export rows)
