-- Writing a preference list row by row.
use Rattle.std.specs.Prelude.{ℕ, ◌+◌, List, [], ◌∷◌}
use Rattle.room_types.specs.Texts.{Text}
use Rattle.office_schema.specs.rows.Tables.{Tables}
use Rattle.office_schema.specs.tables.Edits.{with_choice}

-- adds a row for each room; the first room has this place, and each next room has the next place
abbrev pub with_choices : Text → ℕ → List Text → Tables → Tables
with_choices person place [] tables = tables
with_choices person place (room ∷ rooms) tables =
    with_choices person (place + 1) rooms (with_choice person place room tables)
