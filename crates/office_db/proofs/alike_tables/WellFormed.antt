-- Rows that are written have the form of their table.
use Rattle.std.proofs.Common.{ℕ, ◌<◌, ◌≤◌, ◌^◌, Bool, true, false, not, List, [], ◌∷◌, map, Option}
use Rattle.std.proofs.Common.{cond, refl}
use Rattle.std.specs.List.{All, AllByRecursion}
use Rattle.std.proofs.lemmas.List.Elements.{All-nil, All-cons, recursion_from_All, All-from_recursion}
use Rattle.std.proofs.lemmas.List.Sorted.{IsPermutation-sym}
use Rattle.std.proofs.lemmas.Map.Views.{All-map-IsPermutation}
use Rattle.sqlite_keyed.specs.Lists.{update_where, delete_where}
use Rattle.sqlite_keyed.proofs.ListLemmas.{all-filter, all_map, all_unmap}
use Rattle.sqlite_value.specs.declared.value.Value.TheVariants as value
use Rattle.room_types.specs.Grammars.{is_person_id, is_room_code, is_key, is_name, is_label}
use Rattle.room_types.specs.Texts.{Text, text_eq}
use Rattle.room_types.specs.declared.moves.Move.{Move}
use Rattle.room_types.specs.declared.phase.Phase.{Phase}
use Rattle.office_state.specs.declared.office.stored_import.StoredImport.{StoredImport}
use Rattle.office_state.specs.declared.office.person.Person.{Person}
use Rattle.office_schema.specs.cells.Cells.{IsTextOf, IsOptionalTextOf, text_or_null}
use Rattle.office_schema.specs.cells.Columns.{move_columns}
use Rattle.office_schema.specs.cells.Forms.{IsChoiceRow, IsWordRow, IsResultRow, IsMoveRow, IsGoingRow}
use Rattle.office_schema.specs.cells.WellFormed.{IsWellFormed}
use Rattle.office_schema.specs.rows.Tables.{Tables}
use Rattle.office_schema.specs.declared.rows.records.ChoiceRecord.{ChoiceRecord}
use Rattle.office_schema.specs.declared.rows.records.PersonRecord.{PersonRecord}
use Rattle.office_schema.specs.declared.rows.records.RoundRecord.{RoundRecord}
use Rattle.office_schema.specs.tables.Edits.{with_room, with_shut, with_person, without_person}
use Rattle.office_schema.specs.tables.Edits.{with_home, with_name_and_key, with_withdrawn}
use Rattle.office_schema.specs.tables.Edits.{without_withdrawn, with_round, with_choice}
use Rattle.office_schema.specs.tables.Edits.{without_choices_of, without_round_tables}
use Rattle.office_schema.specs.tables.Edits.{with_word, with_result}
use Rattle.office_schema.specs.tables.Edits.{with_move, with_import, with_body}
use Rattle.office_schema.specs.tables.Edits.{with_grade, without_grade_of, with_going}
use Rattle.office_schema.specs.rows.SameRows.{AreSameRows}
use Rattle.office_db.proofs.alike_tables.Alike.{alike_at}
use Rattle.office_schema.specs.declared.tables.names.TableName.{TableName}
use Rattle.office_schema.specs.declared.tables.names.TableName.TheVariants.{Rooms, People, Rounds, Choices, Words}
use Rattle.office_schema.specs.declared.tables.names.TableName.TheVariants.{Results, Moves, Lists, Grades, Going}
use Rattle.office_schema.specs.tables.ByName.{RecordOf, form_of, records_of, shown_columns_of, with_records}
use Rattle.office_schema.proofs.statements.ByName.{at_name}

module _ (name : TableName) where
  abbrev Formed : List (RecordOf name) → Type 0
  Formed xs = All (form_of name) (map (shown_columns_of name) xs)

  abbrev HasForm : RecordOf name → Type 0
  HasForm x = form_of name (shown_columns_of name x)

  each : (xs : List (RecordOf name)) → Formed xs → AllByRecursion HasForm xs
  each xs h =
      all_unmap (form_of name) (shown_columns_of name) xs (recursion_from_All (form_of name)
      (map (shown_columns_of name) xs) h)

  every : (xs : List (RecordOf name)) → AllByRecursion HasForm xs → Formed xs
  every xs h =
      All-from_recursion (form_of name) (map (shown_columns_of name) xs)
      (all_map (form_of name) (shown_columns_of name) xs h)

  formed_left : (q : RecordOf name → Bool) (xs : List (RecordOf name)) → Formed xs → Formed (delete_where q xs)
  formed_left q xs h = every (delete_where q xs) (all-filter HasForm (λ x. not (q x)) xs (each xs h))

  module _ (q : RecordOf name → Bool) (f : RecordOf name → RecordOf name)
      (keeps : (x : RecordOf name) → HasForm x → HasForm (f x)) where
    one_changed : (b : Bool) (x : RecordOf name) → HasForm x → HasForm (cond b (f x) x)
    one_changed true x h = keeps x h
    one_changed false x h = h

    all_changed : (xs : List (RecordOf name)) → AllByRecursion HasForm xs → AllByRecursion HasForm (update_where q f xs)
    all_changed [] h = tt
    all_changed (x ∷ xs) h = (one_changed (q x) x h.0, all_changed xs h.1)

    formed_changed : (xs : List (RecordOf name)) → Formed xs → Formed (update_where q f xs)
    formed_changed xs h = every (update_where q f xs) (all_changed xs (each xs h))

-- What `IsWellFormed` says, by name.
from_names : (t : Tables) → ((n : TableName) → Formed n (records_of t n)) → IsWellFormed t
from_names t formed = record {
  rooms = formed Rooms;
  people = formed People;
  rounds = formed Rounds;
  choices = formed Choices;
  words = formed Words;
  results = formed Results;
  moves = formed Moves;
  lists = formed Lists;
  grades = formed Grades;
  going = formed Going;
}

formed_at : (t : Tables) → IsWellFormed t → (n : TableName) → Formed n (records_of t n)
formed_at t h Rooms = h.rooms
formed_at t h People = h.people
formed_at t h Rounds = h.rounds
formed_at t h Choices = h.choices
formed_at t h Words = h.words
formed_at t h Results = h.results
formed_at t h Moves = h.moves
formed_at t h Lists = h.lists
formed_at t h Grades = h.grades
formed_at t h Going = h.going

-- The order of rows does not matter.
pub well_formed_alike : (these those : Tables) → AreSameRows these those → IsWellFormed those → IsWellFormed these
well_formed_alike these those same h = from_names these (λ n.
    All-map-IsPermutation (shown_columns_of n) (form_of n) _ _ (IsPermutation-sym _ _ (alike_at these those same n))
    (formed_at those h n))

module _ (t : Tables) (h : IsWellFormed t) where
  -- The records of one table are replaced.
  one_well_formed : (name : TableName) (xs : List (RecordOf name)) → Formed name xs
      → IsWellFormed (with_records t name xs)
  one_well_formed name xs formed = from_names (with_records t name xs)
      (at_name (λ n ys _. Formed n ys) t name xs xs formed (formed_at t h))

  one_added : (name : TableName) (x : RecordOf name) → HasForm name x
      → IsWellFormed (with_records t name (x ∷ records_of t name))
  one_added name x form =
      one_well_formed name (x ∷ records_of t name) (All-cons (form_of name) _ _ form (formed_at t h name))

  some_left : (name : TableName) (q : RecordOf name → Bool)
      → IsWellFormed (with_records t name (delete_where q (records_of t name)))
  some_left name q = one_well_formed name _ (formed_left name q (records_of t name) (formed_at t h name))

  some_changed : (name : TableName) (q : RecordOf name → Bool) (f : RecordOf name → RecordOf name)
      → ((x : RecordOf name) → HasForm name x → HasForm name (f x))
      → IsWellFormed (with_records t name (update_where q f (records_of t name)))
  some_changed name q f keeps =
      one_well_formed name _ (formed_changed name q f keeps (records_of t name) (formed_at t h name))

  pub room_well_formed : (room : Text) (shut : Bool) → IsTextOf is_room_code (value.Text room)
      → IsWellFormed (with_room room shut t)
  unfolding with_room
  room_well_formed room shut code = one_added Rooms (room, shut) (code, (shut, refl))

  pub shut_well_formed : (room : Text) (shut : Bool) → IsWellFormed (with_shut room shut t)
  unfolding with_shut
  shut_well_formed room shut =
      some_changed Rooms (λ r. text_eq r.0 room) (λ r. (r.0, shut)) (λ r was. (was.0, (shut, refl)))

  pub person_well_formed : (id : Text) (person : Person) → IsTextOf is_person_id (value.Text id)
      → IsTextOf is_name (value.Text person.name) → IsTextOf is_key (value.Text person.key)
      → IsOptionalTextOf is_room_code (text_or_null person.home) → IsWellFormed (with_person id person t)
  unfolding with_person
  person_well_formed id person is_id name key home =
      one_added People (record { id = id; person = person; withdrawn = false }) (is_id, name, key, home, (false, refl))

  pub without_person_well_formed : (id : Text) → IsWellFormed (without_person id t)
  unfolding without_person
  without_person_well_formed id = some_left People (λ (r : PersonRecord). text_eq r.id id)

  pub home_well_formed : (id : Text) (home : Option Text) → IsOptionalTextOf is_room_code (text_or_null home)
      → IsWellFormed (with_home id home t)
  unfolding with_home
  home_well_formed id home lives =
      some_changed People (λ (r : PersonRecord). text_eq r.id id)
      (λ (r : PersonRecord). record r { person = record r.person { home = home } })
      (λ r (is_id, name, key, _, withdrawn). (is_id, name, key, lives, withdrawn))

  pub name_and_key_well_formed : (id name key : Text) → IsTextOf is_name (value.Text name)
      → IsTextOf is_key (value.Text key) → IsWellFormed (with_name_and_key id name key t)
  unfolding with_name_and_key
  name_and_key_well_formed id name key is_its_name is_its_key =
      some_changed People (λ (r : PersonRecord). text_eq r.id id)
      (λ (r : PersonRecord). record r { person = record r.person { name = name; key = key } })
      (λ r (is_id, _, _, home, withdrawn). (is_id, is_its_name, is_its_key, home, withdrawn))

  pub withdrawn_well_formed : (id : Text) → IsWellFormed (with_withdrawn id t)
  unfolding with_withdrawn
  withdrawn_well_formed id =
      some_changed People (λ (r : PersonRecord). text_eq r.id id) (λ (r : PersonRecord). record r { withdrawn = true })
      (λ r (is_id, name, key, home, _). (is_id, name, key, home, (true, refl)))

  pub without_withdrawn_well_formed : IsWellFormed (without_withdrawn t)
  unfolding without_withdrawn
  without_withdrawn_well_formed =
      some_changed People (λ r. true) (λ (r : PersonRecord). record r { withdrawn = false })
      (λ r (is_id, name, key, home, _). (is_id, name, key, home, (false, refl)))

  pub choice_well_formed : (person : Text) (place : ℕ) (room : Text) → IsTextOf is_person_id (value.Text person)
      → IsTextOf is_room_code (value.Text room) → IsWellFormed (with_choice person place room t)
  unfolding with_choice
  choice_well_formed person place room id code =
      one_added Choices (record { person = person; place = place; room = room }) (id, (place, refl), code)

  pub without_choices_of_well_formed : (person : Text) → IsWellFormed (without_choices_of person t)
  unfolding without_choices_of
  without_choices_of_well_formed person = some_left Choices (λ (r : ChoiceRecord). text_eq r.person person)

  pub word_well_formed : (person : Text) (word : ℕ) → IsTextOf is_person_id (value.Text person) → word < 2 ^ 64
      → IsWellFormed (with_word person word t)
  unfolding with_word
  word_well_formed person word id low = one_added Words (person, word) (id, (word, refl, low))

  pub result_well_formed : (person : Text) (room : Option Text) → IsTextOf is_person_id (value.Text person)
      → IsOptionalTextOf is_room_code (text_or_null room) → IsWellFormed (with_result person room t)
  unfolding with_result
  result_well_formed person room id code = one_added Results (person, record { room = room }) (id, code)

  pub move_well_formed : (move : Move) → IsMoveRow (move_columns move) → IsWellFormed (with_move move t)
  unfolding with_move
  move_well_formed move form = one_added Moves move form

  pub kept_well_formed : (label : Text) (kept : StoredImport) → IsTextOf is_label (value.Text label)
      → kept.count < 2 ^ 16 → IsWellFormed (with_import label kept t)
  unfolding with_import
  kept_well_formed label kept is_its_label low =
      one_added Lists (label, kept) (is_its_label, (kept.kind, refl), (kept.bytes, refl), (kept.count, refl, low))

  pub body_well_formed : (label : Text) (bytes : List ℕ) → IsWellFormed (with_body label bytes t)
  unfolding with_body
  body_well_formed label bytes =
      some_changed Lists (λ r. text_eq r.0 label) (λ r. (r.0, record r.1 { bytes = bytes }))
      (λ r (is_its_label, kind, _, count). (is_its_label, kind, (bytes, refl), count))

  pub round_well_formed : (number : ℕ) (phase : Phase) → number < 2 ^ 16 → IsWellFormed (with_round number phase t)
  unfolding with_round
  round_well_formed number phase low =
      some_changed Rounds (λ r. true) (λ (r : RoundRecord). record r { number = number; phase = phase })
      (λ r (version, _, _). (version, (number, refl, low), (phase, refl)))

  pub grade_well_formed : (person : Text) (grade : ℕ) → IsTextOf is_person_id (value.Text person) → 1 ≤ grade
      → grade ≤ 9 → IsWellFormed (with_grade person grade t)
  unfolding with_grade
  grade_well_formed person grade id some low = one_added Grades (person, grade) (id, (grade, refl, some, low))

  pub without_grade_of_well_formed : (person : Text) → IsWellFormed (without_grade_of person t)
  unfolding without_grade_of
  without_grade_of_well_formed person = some_left Grades (λ r. text_eq r.0 person)

  pub going_well_formed : (person : Text) → IsTextOf is_person_id (value.Text person)
      → IsWellFormed (with_going person t)
  unfolding with_going
  going_well_formed person id = one_added Going person id

pub without_round_tables_well_formed : (t : Tables) → IsWellFormed t → IsWellFormed (without_round_tables t)
unfolding without_round_tables
without_round_tables_well_formed t h =
    let choices = one_well_formed t h Choices [] (All-nil IsChoiceRow) in
    let words = one_well_formed _ choices Words [] (All-nil IsWordRow) in
    let results = one_well_formed _ words Results [] (All-nil IsResultRow) in
    one_well_formed _ results Going [] (All-nil IsGoingRow)
