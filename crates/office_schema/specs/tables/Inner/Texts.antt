-- The texts of the statements, and the tests that they contain once names are resolved.
use Rattle.std.specs.Prelude.{List, ◌++◌, codes, ℕ}
use Rattle.sqlite_sql.specs.Term.{Term, col, op2}
use Rattle.sqlite_sql.specs.declared.ops.BinaryOp.TheVariants.{Compare}
use Rattle.sqlite_sql.specs.declared.ops.CompareOp.TheVariants.{Eq}
use Rattle.sqlite_value.specs.declared.keys.Collation.TheVariants.{Binary}
use Rattle.office_schema.specs.tables.Layouts.{name_at}
use Rattle.office_schema.specs.tables.Schema.{office_table}
use Rattle.office_schema.specs.declared.tables.layouts.Layout.{Layout}
use Rattle.office_schema.specs.declared.tables.names.TableName.{TableName}

-- the test that the column at this place equals the parameter
abbrev pub by_parameter : ℕ → ℕ → Term
by_parameter place parameter = op2 (Compare Eq Binary) (col 1 place) (col 0 parameter)

-- ---- the table room

abbrev pub add_room_text : List ℕ
add_room_text = codes "INSERT INTO room(code, shut) VALUES (?1, ?2)"

abbrev pub set_shut_text : List ℕ
set_shut_text = codes "UPDATE room SET shut = ?2 WHERE code = ?1"

-- ---- the table person

abbrev pub add_person_text : List ℕ
add_person_text =
    codes "INSERT INTO person(id, name, passkey, home, withdrawn) VALUES (?1, ?2, ?3, ?4, 0)"

abbrev pub drop_person_text : List ℕ
drop_person_text = codes "DELETE FROM person WHERE id = ?1"

abbrev pub set_home_text : List ℕ
set_home_text = codes "UPDATE person SET home = ?2 WHERE id = ?1"

abbrev pub set_name_and_key_text : List ℕ
set_name_and_key_text = codes "UPDATE person SET name = ?2, passkey = ?3 WHERE id = ?1"

abbrev pub set_withdrawn_text : List ℕ
set_withdrawn_text = codes "UPDATE person SET withdrawn = 1 WHERE id = ?1"

abbrev pub clear_withdrawn_text : List ℕ
clear_withdrawn_text = codes "UPDATE person SET withdrawn = 0"

-- ---- the table round

abbrev pub add_round_text : List ℕ
add_round_text = codes "INSERT INTO round(one, version, number, phase) VALUES (1, 3, ?1, ?2)"

abbrev pub set_round_text : List ℕ
set_round_text = codes "UPDATE round SET number = ?1, phase = ?2"

abbrev pub set_version_text : List ℕ
set_version_text = codes "UPDATE round SET version = 3"

-- ---- the table grade

abbrev pub add_grade_text : List ℕ
add_grade_text = codes "INSERT INTO grade(person, value) VALUES (?1, ?2)"

abbrev pub drop_grade_text : List ℕ
drop_grade_text = codes "DELETE FROM grade WHERE person = ?1"

-- ---- the table going

abbrev pub add_going_text : List ℕ
add_going_text = codes "INSERT INTO going(person) VALUES (?1)"

-- ---- the table choice

abbrev pub add_choice_text : List ℕ
add_choice_text = codes "INSERT INTO choice(person, place, room) VALUES (?1, ?2, ?3)"

abbrev pub drop_choices_text : List ℕ
drop_choices_text = codes "DELETE FROM choice WHERE person = ?1"

-- ---- the table word

abbrev pub add_word_text : List ℕ
add_word_text = codes "INSERT INTO word(person, hex) VALUES (?1, ?2)"

-- ---- the table result

abbrev pub add_result_text : List ℕ
add_result_text = codes "INSERT INTO result(person, room) VALUES (?1, ?2)"

-- ---- dropping a table

abbrev pub drop_table_text : List ℕ → List ℕ
drop_table_text name = codes "DROP TABLE " ++ name

-- ---- the table move

abbrev pub add_move_text : List ℕ
add_move_text =
    codes "INSERT INTO move(round, person, from_room, to_room, wave) VALUES (?1, ?2, ?3, ?4, ?5)"

-- ---- the table list

abbrev pub add_list_text : List ℕ
add_list_text = codes "INSERT INTO list(label, kind, body, added) VALUES (?1, ?2, ?3, ?4)"

abbrev pub set_body_text : List ℕ
set_body_text = codes "UPDATE list SET body = ?2 WHERE label = ?1"

-- the statement that drops the table with this name
abbrev pub drop_text_named : TableName → List ℕ
drop_text_named name = drop_table_text (office_table name 0).name

-- the statement that drops the table at this place of the layout
abbrev pub drop_text : Layout → ℕ → List ℕ
drop_text layout place = drop_text_named (name_at layout place)
