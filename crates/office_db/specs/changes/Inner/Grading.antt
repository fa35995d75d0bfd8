-- Writing a grade.
use Rattle.std.specs.Prelude.{ℕ, zero, suc}
use Rattle.room_types.specs.Texts.{Text}
use Rattle.office_schema.specs.rows.Tables.{Tables}
use Rattle.office_schema.specs.tables.Edits.{with_grade}

-- adds a row for the grade, unless it is 0
abbrev pub with_grade_recorded : Text → ℕ → Tables → Tables
with_grade_recorded person zero tables = tables
with_grade_recorded person (suc grade) tables = with_grade person (suc grade) tables
