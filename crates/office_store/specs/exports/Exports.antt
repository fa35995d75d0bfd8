-- What an office exports.
use Rattle.std.specs.Prelude.{List, map}
use Rattle.std.specs.FinMap as maps
use Rattle.room_types.specs.Texts.{Text}
use Rattle.room_types.specs.declared.rows.GradeRow.{GradeRow}
use Rattle.office_state.specs.Office.{recorded_grade}
use Rattle.office_state.specs.declared.office.Office.{Office}
use Rattle.office_state.specs.declared.office.person.Person.{Person}
use Rattle.office_core.specs.Query.Overview.{person_rows}
use Rattle.office_core.specs.Query.Overview.{room_rows}
use Rattle.office_lists.specs.Exports.{grades_export, moves_export, people_export, rooms_export}
use Rattle.office_lists.specs.Records.{Record}
use Rattle.office_lists.specs.declared.exports.ExportKind.{ExportKind}
use Rattle.office_lists.specs.declared.exports.ExportKind.TheVariants.{Rooms, People, Moves, Grades}
use Rattle.office_schema.specs.rows.Rows.{rows_of_moves}

-- a person's grade, which is 0 if none is recorded
abbrev pub grade_row : Office → Text × Person → GradeRow
grade_row office entry = record { person = entry.0; grade = recorded_grade office entry.0 }

-- all people, ordered by identifier, each with the grade
abbrev pub grade_rows : Office → List GradeRow
grade_rows office = map (grade_row office) (maps.entries office.people)

-- the records of an export: the rooms by code, the people by identifier, the moves by round and then by identifier,
-- or the grades of all people by identifier
abbrev pub exported : ExportKind → Office → List Record
exported Rooms office = rooms_export (room_rows office)
exported People office = people_export (person_rows office)
exported Moves office = moves_export (rows_of_moves office.moves)
exported Grades office = grades_export (grade_rows office)
