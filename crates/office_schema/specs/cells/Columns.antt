-- The columns of a record of each table. The comment of each definition lists their names.
use Rattle.std.specs.Prelude.{ℕ, pos, Bool, [], ◌∷◌}
use Rattle.sqlite_value.specs.declared.value.Value.TheVariants.{Null, Int, Text, Blob}
use Rattle.sqlite_value.specs.Order.{Row, column}
use Rattle.room_types.specs.Kinds.{kind_text}
use Rattle.room_types.specs.Phases.{phase_text}
use Rattle.room_types.specs.Texts.{Text as Bytes}
use Rattle.room_types.specs.Words.{word_text}
use Rattle.room_types.specs.declared.moves.Move.{Move}
use Rattle.office_state.specs.declared.office.Assigned.{Assigned}
use Rattle.office_state.specs.declared.office.stored_import.StoredImport.{StoredImport}
use Rattle.office_schema.specs.declared.rows.records.ChoiceRecord.{ChoiceRecord}
use Rattle.office_schema.specs.declared.rows.records.RoundRecord.{RoundRecord}
use Rattle.office_schema.specs.declared.rows.records.PersonRecord.{PersonRecord}
use Rattle.office_schema.specs.cells.Cells.{flag, text_or_null, wave_value}

-- code, shut
abbrev pub room_columns : Bytes × Bool → Row
room_columns r = Text r.0 ∷ flag r.1 ∷ []

-- id, name, passkey, home, withdrawn
abbrev pub person_columns : PersonRecord → Row
person_columns r =
    Text r.id ∷ Text r.person.name ∷ Text r.person.key ∷ text_or_null r.person.home
    ∷ flag r.withdrawn ∷ []

-- version, number, phase
abbrev pub round_shown : RoundRecord → Row
round_shown r = Int (pos r.version) ∷ Int (pos r.number) ∷ Text (phase_text r.phase) ∷ []

-- one, version, number, phase; the engine stores `one` as the rowid, so the stored row has NULL in this column
abbrev pub round_columns : RoundRecord → Row
round_columns r = Null ∷ round_shown r

-- person, place, room
abbrev pub choice_columns : ChoiceRecord → Row
choice_columns r = Text r.person ∷ Int (pos r.place) ∷ Text r.room ∷ []

-- person, hex
abbrev pub word_columns : Bytes × ℕ → Row
word_columns r = Text r.0 ∷ Text (word_text r.1) ∷ []

-- person, room
abbrev pub result_columns : Bytes × Assigned → Row
result_columns r = Text r.0 ∷ text_or_null r.1.room ∷ []

-- round, person, from_room, to_room, wave
abbrev pub move_columns : Move → Row
move_columns r =
    Int (pos r.round) ∷ Text r.person ∷ text_or_null r.from ∷ text_or_null r.to
    ∷ wave_value r.wave ∷ []

-- label, kind, body, added
abbrev pub list_columns : Bytes × StoredImport → Row
list_columns r = Text r.0 ∷ Text (kind_text r.1.kind) ∷ Blob r.1.bytes ∷ Int (pos r.1.count) ∷ []

-- person, value
abbrev pub grade_columns : Bytes × ℕ → Row
grade_columns r = Text r.0 ∷ Int (pos r.1) ∷ []

-- person
abbrev pub going_columns : Bytes → Row
going_columns person = Text person ∷ []

-- ---- the first columns of a row, those that are read

abbrev pub one : Row → Row
one row = column row 0 ∷ []

abbrev pub two : Row → Row
two row = column row 0 ∷ column row 1 ∷ []

abbrev pub three : Row → Row
three row = column row 0 ∷ column row 1 ∷ column row 2 ∷ []

abbrev pub four : Row → Row
four row = column row 0 ∷ column row 1 ∷ column row 2 ∷ column row 3 ∷ []

abbrev pub five : Row → Row
five row = column row 0 ∷ column row 1 ∷ column row 2 ∷ column row 3 ∷ column row 4 ∷ []
