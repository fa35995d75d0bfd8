-- The effect of each statement on the tables, if it runs.
use Rattle.std.proofs.Common.{ℕ, pos, Bool, true, false, List, [], ◌∷◌, Option, refl, ap, ap₂}
use Rattle.sqlite_value.specs.Order.{Row}
use Rattle.sqlite_value.specs.declared.value.Value.{Value}
use Rattle.sqlite_value.specs.declared.value.Value.TheVariants.{Null, Int, Text, Blob}
use Rattle.sqlite_sql.specs.Term.{lit, col}
use Rattle.sqlite_rules.specs.Edit.{with_rowid}
use Rattle.sqlite_rules.specs.declared.error.Rowids.TheVariants.{Chosen}
use Rattle.sqlite.specs.State.{State, HasCleanDisk}
use Rattle.room_types.specs.Kinds.{kind_text}
use Rattle.room_types.specs.Phases.{phase_text}
use Rattle.room_types.specs.Texts.{Text as Bytes, text_eq}
use Rattle.room_types.specs.Words.{word_text}
use Rattle.room_types.specs.declared.moves.Move.{Move}
use Rattle.room_types.specs.declared.phase.Phase.{Phase}
use Rattle.office_state.specs.declared.office.stored_import.StoredImport.{StoredImport}
use Rattle.office_state.specs.declared.office.person.Person.{Person}
use Rattle.office_schema.specs.cells.Cells.{flag, text_or_null, wave_value}
use Rattle.office_schema.specs.tables.Edits as edit
use Rattle.office_schema.specs.declared.tables.names.TableName.TheVariants.{Rooms, People, Rounds, Choices, Words}
use Rattle.office_schema.specs.declared.tables.names.TableName.TheVariants.{Results, Moves, Lists, Grades, Going}
use Rattle.office_schema.specs.tables.Makes.{Makes}
use Rattle.office_schema.specs.tables.Steps.{HasRun}
use Rattle.office_schema.specs.tables.Inner.Texts as text
use Rattle.office_schema.specs.tables.Inner.Texts.{by_parameter}
use Rattle.office_schema.proofs.statements.Meanings as meaning
use Rattle.office_schema.proofs.statements.Making.{inserted, inserted_anew, deleted, updated}
use Rattle.office_schema.proofs.statements.Values.{cast-Int, cast-Null, cast-text_or_null, cast-wave_value, same_text}

module _ (old new : State) where
  abbrev Runs : List ℕ → Row → Type 0
  Runs sql params = HasCleanDisk new → HasRun sql params old new

  pub makes_room : (room : Bytes) (shut : Bool) → Runs text.add_room_text (Text room ∷ flag shut ∷ [])
      → Makes old new (edit.with_room room shut)
  unfolding edit.with_room
  makes_room room shut = inserted_anew Rooms old new text.add_room_text (Text room ∷ flag shut ∷ [])
      (lit Null ∷ col 0 0 ∷ col 0 1 ∷ []) 3 meaning.add_room_is
      (Null ∷ Text room ∷ flag shut ∷ []) refl (room, shut) (ap₂ (λ a b. a ∷ Text room ∷ b ∷ []) cast-Null (cast-Int _))

  pub makes_shut : (room : Bytes) (shut : Bool) → Runs text.set_shut_text (Text room ∷ flag shut ∷ [])
      → Makes old new (edit.with_shut room shut)
  unfolding edit.with_shut
  makes_shut room shut = updated Rooms old new text.set_shut_text (Text room ∷ flag shut ∷ []) (by_parameter 1 0 ∷ [])
      (col 1 0 ∷ col 1 0 ∷ col 1 1 ∷ col 0 1 ∷ []) (λ r. refl)
      (λ r. text_eq r.0 room) (λ e. same_text e.1.0 room) (λ r. (r.0, shut))
      (λ e. ap₂ (λ a b. a ∷ Text e.1.0 ∷ b ∷ []) (cast-Int e.0) (cast-Int _)) meaning.set_shut_is

  pub makes_person : (id : Bytes) (person : Person)
      → Runs text.add_person_text (Text id ∷ Text person.name ∷ Text person.key ∷ text_or_null person.home ∷ [])
      → Makes old new (edit.with_person id person)
  unfolding edit.with_person
  makes_person id person =
      inserted_anew People old new text.add_person_text
      (Text id ∷ Text person.name ∷ Text person.key ∷ text_or_null person.home ∷ [])
      (lit Null ∷ col 0 0 ∷ col 0 1 ∷ col 0 2 ∷ col 0 3 ∷ lit (Int (pos 0)) ∷ []) 6 meaning.add_person_is
      (Null ∷ Text id ∷ Text person.name ∷ Text person.key ∷ text_or_null person.home ∷ Int (pos 0) ∷ []) refl
      (record { id = id; person = person; withdrawn = false })
      (ap₂ (λ a (p : Value × Value). a ∷ Text id ∷ Text person.name ∷ Text person.key ∷ p.0 ∷ p.1 ∷ []) cast-Null
      (ap₂ (λ a b. (a, b)) (cast-text_or_null person.home) (cast-Int (pos 0))))

  pub makes_no_person : (id : Bytes) → Runs text.drop_person_text (Text id ∷ [])
      → Makes old new (edit.without_person id)
  unfolding edit.without_person
  makes_no_person id = deleted People old new text.drop_person_text (Text id ∷ []) (by_parameter 1 0 ∷ [])
      (col 1 0 ∷ []) (λ r. refl) (λ r. text_eq r.id id) (λ e. same_text e.1.id id) meaning.drop_person_is

  pub makes_home : (id : Bytes) (home : Option Bytes) → Runs text.set_home_text (Text id ∷ text_or_null home ∷ [])
      → Makes old new (edit.with_home id home)
  unfolding edit.with_home
  makes_home id home = updated People old new text.set_home_text (Text id ∷ text_or_null home ∷ [])
      (by_parameter 1 0 ∷ []) (col 1 0 ∷ col 1 0 ∷ col 1 1 ∷ col 1 2 ∷ col 1 3 ∷ col 0 1 ∷ col 1 5 ∷ []) (λ r. refl)
      (λ r. text_eq r.id id) (λ e. same_text e.1.id id) (λ r. record r { person = record r.person { home = home } })
      (λ e. ap₂ (λ a (p : Value × Value). a ∷ Text e.1.id ∷ Text e.1.person.name ∷ Text e.1.person.key ∷ p.0 ∷ p.1 ∷ [])
      (cast-Int e.0) (ap₂ (λ a b. (a, b)) (cast-text_or_null home) (cast-Int _))) meaning.set_home_is

  pub makes_name_and_key : (id name key : Bytes) → Runs text.set_name_and_key_text (Text id ∷ Text name ∷ Text key ∷ [])
      → Makes old new (edit.with_name_and_key id name key)
  unfolding edit.with_name_and_key
  makes_name_and_key id name key =
      updated People old new text.set_name_and_key_text (Text id ∷ Text name ∷ Text key ∷ []) (by_parameter 1 0 ∷ [])
      (col 1 0 ∷ col 1 0 ∷ col 1 1 ∷ col 0 1 ∷ col 0 2 ∷ col 1 4 ∷ col 1 5 ∷ []) (λ r. refl)
      (λ r. text_eq r.id id) (λ e. same_text e.1.id id)
      (λ r. record r { person = record r.person { name = name; key = key } })
      (λ e. ap₂ (λ a (p : Value × Value). a ∷ Text e.1.id ∷ Text name ∷ Text key ∷ p.0 ∷ p.1 ∷ []) (cast-Int e.0)
      (ap₂ (λ a b. (a, b)) (cast-text_or_null e.1.person.home) (cast-Int _))) meaning.set_name_and_key_is

  pub makes_withdrawn : (id : Bytes) → Runs text.set_withdrawn_text (Text id ∷ [])
      → Makes old new (edit.with_withdrawn id)
  unfolding edit.with_withdrawn
  makes_withdrawn id = updated People old new text.set_withdrawn_text (Text id ∷ []) (by_parameter 1 0 ∷ [])
      (col 1 0 ∷ col 1 0 ∷ col 1 1 ∷ col 1 2 ∷ col 1 3 ∷ col 1 4 ∷ lit (Int (pos 1)) ∷ []) (λ r. refl)
      (λ r. text_eq r.id id) (λ e. same_text e.1.id id) (λ r. record r { withdrawn = true })
      (λ e. ap₂ (λ a (p : Value × Value). a ∷ Text e.1.id ∷ Text e.1.person.name ∷ Text e.1.person.key ∷ p.0 ∷ p.1 ∷ [])
      (cast-Int e.0) (ap₂ (λ a b. (a, b)) (cast-text_or_null e.1.person.home) (cast-Int (pos 1))))
      meaning.set_withdrawn_is

  pub makes_none_withdrawn : Runs text.clear_withdrawn_text [] → Makes old new edit.without_withdrawn
  unfolding edit.without_withdrawn
  makes_none_withdrawn =
      updated People old new text.clear_withdrawn_text [] []
      (col 1 0 ∷ col 1 0 ∷ col 1 1 ∷ col 1 2 ∷ col 1 3 ∷ col 1 4 ∷ lit (Int (pos 0)) ∷ []) (λ r. refl)
      (λ r. true) (λ e. refl) edit.taking_part
      (λ e. ap₂ (λ a (p : Value × Value). a ∷ Text e.1.id ∷ Text e.1.person.name ∷ Text e.1.person.key ∷ p.0 ∷ p.1 ∷ [])
      (cast-Int e.0) (ap₂ (λ a b. (a, b)) (cast-text_or_null e.1.person.home) (cast-Int (pos 0))))
      meaning.clear_withdrawn_is

  pub makes_first_round : (number : ℕ) (phase : Phase)
      → Runs text.add_round_text (Int (pos number) ∷ Text (phase_text phase) ∷ [])
      → Makes old new (edit.with_first_round number phase)
  unfolding edit.with_first_round
  makes_first_round number phase =
      inserted Rounds old new text.add_round_text (Int (pos number) ∷ Text (phase_text phase) ∷ [])
      (lit (Int (pos 1)) ∷ lit Null ∷ lit (Int (pos 3)) ∷ col 0 0 ∷ col 0 1 ∷ []) 5 meaning.add_round_is
      (Int (pos 1) ∷ Null ∷ Int (pos 3) ∷ Int (pos number) ∷ Text (phase_text phase) ∷ []) refl (λ rows. pos 1)
      (record { version = 3; number = number; phase = phase })
      (λ rows. ap (with_rowid Chosen rows)
      (ap₂ (λ (p : Value × Value) (r : Value × Value). p.0 ∷ p.1 ∷ r.0 ∷ r.1 ∷ Text (phase_text phase) ∷ [])
      (ap₂ (λ a b. (a, b)) (cast-Int (pos 1)) cast-Null)
      (ap₂ (λ a b. (a, b)) (cast-Int (pos 3)) (cast-Int (pos number)))))

  pub makes_round : (number : ℕ) (phase : Phase)
      → Runs text.set_round_text (Int (pos number) ∷ Text (phase_text phase) ∷ [])
      → Makes old new (edit.with_round number phase)
  unfolding edit.with_round
  makes_round number phase =
      updated Rounds old new text.set_round_text (Int (pos number) ∷ Text (phase_text phase) ∷ []) []
      (col 1 0 ∷ col 1 0 ∷ lit Null ∷ col 1 2 ∷ col 0 0 ∷ col 0 1 ∷ []) (λ r. refl)
      (λ r. true) (λ e. refl) (λ r. record r { number = number; phase = phase })
      (λ e. ap₂ (λ (p : Value × Value) (r : Value × Value). p.0 ∷ p.1 ∷ r.0 ∷ r.1 ∷ Text (phase_text phase) ∷ [])
      (ap₂ (λ a b. (a, b)) (cast-Int e.0) cast-Null)
      (ap₂ (λ a b. (a, b)) (cast-Int (pos e.1.version)) (cast-Int (pos number)))) meaning.set_round_is

  pub makes_version : Runs text.set_version_text [] → Makes old new (edit.with_version 3)
  unfolding edit.with_version
  makes_version =
      updated Rounds old new text.set_version_text [] []
      (col 1 0 ∷ col 1 0 ∷ lit Null ∷ lit (Int (pos 3)) ∷ col 1 3 ∷ col 1 4 ∷ []) (λ r. refl)
      (λ r. true) (λ e. refl) (λ r. record r { version = 3 })
      (λ e. ap₂ (λ (p : Value × Value) (r : Value × Value). p.0 ∷ p.1 ∷ r.0 ∷ r.1 ∷ Text (phase_text e.1.phase) ∷ [])
      (ap₂ (λ a b. (a, b)) (cast-Int e.0) cast-Null)
      (ap₂ (λ a b. (a, b)) (cast-Int (pos 3)) (cast-Int (pos e.1.number)))) meaning.set_version_is

  pub makes_grade : (person : Bytes) (grade : ℕ) → Runs text.add_grade_text (Text person ∷ Int (pos grade) ∷ [])
      → Makes old new (edit.with_grade person grade)
  unfolding edit.with_grade
  makes_grade person grade =
      inserted_anew Grades old new text.add_grade_text (Text person ∷ Int (pos grade) ∷ [])
      (lit Null ∷ col 0 0 ∷ col 0 1 ∷ []) 3 meaning.add_grade_is
      (Null ∷ Text person ∷ Int (pos grade) ∷ []) refl (person, grade)
      (ap₂ (λ a b. a ∷ Text person ∷ b ∷ []) cast-Null (cast-Int (pos grade)))

  pub makes_no_grade_of : (person : Bytes) → Runs text.drop_grade_text (Text person ∷ [])
      → Makes old new (edit.without_grade_of person)
  unfolding edit.without_grade_of
  makes_no_grade_of person =
      deleted Grades old new text.drop_grade_text (Text person ∷ []) (by_parameter 1 0 ∷ []) (col 1 0 ∷ []) (λ r. refl)
      (λ r. text_eq r.0 person) (λ e. same_text e.1.0 person) meaning.drop_grade_is

  pub makes_going : (person : Bytes) → Runs text.add_going_text (Text person ∷ [])
      → Makes old new (edit.with_going person)
  unfolding edit.with_going
  makes_going person =
      inserted_anew Going old new text.add_going_text (Text person ∷ []) (lit Null ∷ col 0 0 ∷ []) 2
      meaning.add_going_is
      (Null ∷ Text person ∷ []) refl person (ap (λ a. a ∷ Text person ∷ []) cast-Null)

  pub makes_choice : (person : Bytes) (place : ℕ) (room : Bytes) → Runs text.add_choice_text
      (Text person ∷ Int (pos place) ∷ Text room ∷ []) → Makes old new (edit.with_choice person place room)
  unfolding edit.with_choice
  makes_choice person place room =
      inserted_anew Choices old new text.add_choice_text (Text person ∷ Int (pos place) ∷ Text room ∷ [])
      (lit Null ∷ col 0 0 ∷ col 0 1 ∷ col 0 2 ∷ []) 4 meaning.add_choice_is
      (Null ∷ Text person ∷ Int (pos place) ∷ Text room ∷ []) refl
      (record { person = person; place = place; room = room })
      (ap₂ (λ a b. a ∷ Text person ∷ b ∷ Text room ∷ []) cast-Null (cast-Int (pos place)))

  pub makes_no_choices_of : (person : Bytes) → Runs text.drop_choices_text (Text person ∷ [])
      → Makes old new (edit.without_choices_of person)
  unfolding edit.without_choices_of
  makes_no_choices_of person =
      deleted Choices old new text.drop_choices_text (Text person ∷ []) (by_parameter 1 0 ∷ []) (col 1 0 ∷ [])
      (λ r. refl) (λ r. text_eq r.person person) (λ e. same_text e.1.person person) meaning.drop_choices_is

  pub makes_word : (person : Bytes) (word : ℕ) → Runs text.add_word_text (Text person ∷ Text (word_text word) ∷ [])
      → Makes old new (edit.with_word person word)
  unfolding edit.with_word
  makes_word person word = inserted_anew Words old new text.add_word_text (Text person ∷ Text (word_text word) ∷ [])
      (lit Null ∷ col 0 0 ∷ col 0 1 ∷ []) 3 meaning.add_word_is
      (Null ∷ Text person ∷ Text (word_text word) ∷ []) refl (person, word)
      (ap (λ a. a ∷ Text person ∷ Text (word_text word) ∷ []) cast-Null)

  pub makes_result : (person : Bytes) (room : Option Bytes)
      → Runs text.add_result_text (Text person ∷ text_or_null room ∷ []) → Makes old new (edit.with_result person room)
  unfolding edit.with_result
  makes_result person room =
      inserted_anew Results old new text.add_result_text (Text person ∷ text_or_null room ∷ [])
      (lit Null ∷ col 0 0 ∷ col 0 1 ∷ []) 3 meaning.add_result_is
      (Null ∷ Text person ∷ text_or_null room ∷ []) refl (person, record { room = room })
      (ap₂ (λ a b. a ∷ Text person ∷ b ∷ []) cast-Null (cast-text_or_null room))

  pub makes_move : (move : Move)
      → Runs text.add_move_text
      (Int (pos move.round) ∷ Text move.person ∷ text_or_null move.from ∷ text_or_null move.to ∷ wave_value move.wave ∷
      []) → Makes old new (edit.with_move move)
  unfolding edit.with_move
  makes_move move =
      inserted_anew Moves old new text.add_move_text
      (Int (pos move.round) ∷ Text move.person ∷ text_or_null move.from ∷ text_or_null move.to ∷ wave_value
      move.wave ∷ [])
      (lit Null ∷ col 0 0 ∷ col 0 1 ∷ col 0 2 ∷ col 0 3 ∷ col 0 4 ∷ []) 6 meaning.add_move_is
      (Null ∷ Int (pos move.round) ∷ Text move.person ∷ text_or_null move.from ∷ text_or_null move.to ∷ wave_value
      move.wave ∷ []) refl
      move (ap₂ ◌∷◌ cast-Null
      (ap₂ ◌∷◌ (cast-Int (pos move.round)) (ap (λ l. Text move.person ∷ l) (ap₂ ◌∷◌ (cast-text_or_null move.from)
      (ap₂ ◌∷◌ (cast-text_or_null move.to) (ap (λ v. v ∷ []) (cast-wave_value move.wave)))))))

  pub makes_list : (label : Bytes) (kept : StoredImport)
      → Runs text.add_list_text (Text label ∷ Text (kind_text kept.kind) ∷ Blob kept.bytes ∷ Int (pos kept.count) ∷ [])
      → Makes old new (edit.with_import label kept)
  unfolding edit.with_import
  makes_list label kept =
      inserted_anew Lists old new text.add_list_text
      (Text label ∷ Text (kind_text kept.kind) ∷ Blob kept.bytes ∷ Int (pos kept.count) ∷ [])
      (lit Null ∷ col 0 0 ∷ col 0 1 ∷ col 0 2 ∷ col 0 3 ∷ []) 5 meaning.add_list_is
      (Null ∷ Text label ∷ Text (kind_text kept.kind) ∷ Blob kept.bytes ∷ Int (pos kept.count) ∷ []) refl (label, kept)
      (ap₂ (λ a b. a ∷ Text label ∷ Text (kind_text kept.kind) ∷ Blob kept.bytes ∷ b ∷ []) cast-Null
      (cast-Int (pos kept.count)))

  pub makes_body : (label : Bytes) (bytes : List ℕ) → Runs text.set_body_text (Text label ∷ Blob bytes ∷ [])
      → Makes old new (edit.with_body label bytes)
  unfolding edit.with_body
  makes_body label bytes = updated Lists old new text.set_body_text (Text label ∷ Blob bytes ∷ [])
      (by_parameter 1 0 ∷ []) (col 1 0 ∷ col 1 0 ∷ col 1 1 ∷ col 1 2 ∷ col 0 1 ∷ col 1 4 ∷ []) (λ r. refl)
      (λ r. text_eq r.0 label) (λ e. same_text e.1.0 label) (λ r. (r.0, record r.1 { bytes = bytes }))
      (λ e. ap₂ (λ a b. a ∷ Text e.1.0 ∷ Text (kind_text e.1.1.kind) ∷ Blob bytes ∷ b ∷ []) (cast-Int e.0)
      (cast-Int (pos e.1.1.count))) meaning.set_body_is
