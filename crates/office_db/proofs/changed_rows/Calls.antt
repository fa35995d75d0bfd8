-- The effect of each change's calls on the rows of an office.
use Rattle.std.proofs.Common.{◌≡◌, ◌≢◌, ◌<◌, ◌≤◌, ◌^◌, ℕ, zero, suc, refl, Bool, true, false, List, Option, ◌∙◌, arith}
use Rattle.sqlite.specs.State.{State, HasCleanDisk}
use Rattle.sqlite_value.specs.declared.value.Value.TheVariants as value
use Rattle.room_types.specs.Grammars.{is_person_id, is_room_code, is_key, is_name, is_label}
use Rattle.room_types.specs.Texts.{Text}
use Rattle.room_types.specs.declared.kinds.ListKind.{ListKind}
use Rattle.room_types.specs.declared.moves.Move.{Move}
use Rattle.room_types.specs.declared.phase.Phase.{Phase}
use Rattle.office_state.specs.Office.{knows_room}
use Rattle.office_state.specs.declared.change.Change.TheVariants.{PutRoom, PutPerson, DropPerson}
use Rattle.office_state.specs.declared.change.Change.TheVariants.{PutHome, PutNameAndKey, PutWithdrawn}
use Rattle.office_state.specs.declared.change.Change.TheVariants.{PutChoices, PutWord, PutResult, AddMove}
use Rattle.office_state.specs.declared.change.Change.TheVariants.{PutRound, ClearRound, KeepList}
use Rattle.office_state.specs.declared.change.Change.TheVariants.{PutBytes, PutGrade, PutGoing}
use Rattle.office_state.specs.declared.office.Office.{Office}
use Rattle.office_state.specs.declared.office.stored_import.StoredImport.{StoredImport}
use Rattle.office_state.specs.declared.office.person.Person.{Person}
use Rattle.office_schema.specs.cells.Cells.{IsTextOf, IsOptionalTextOf, text_or_null}
use Rattle.office_schema.specs.cells.Columns.{move_columns}
use Rattle.office_schema.specs.cells.Forms.{IsMoveRow}
use Rattle.office_schema.specs.tables.Edits.{with_room, with_shut, with_person, without_person}
use Rattle.office_schema.specs.tables.Edits.{with_home, with_name_and_key, with_withdrawn}
use Rattle.office_schema.specs.tables.Edits.{without_withdrawn, with_round, without_choices_of, without_round_tables}
use Rattle.office_schema.specs.tables.Edits.{with_word, with_result, with_move, with_import}
use Rattle.office_schema.specs.tables.Edits.{with_body, with_grade, without_grade_of, with_going}
use Rattle.office_schema.specs.tables.Makes.{Makes}
use Rattle.office_db.specs.changes.StoresChanges.{Turns, StoresChange, StoresAlways}
use Rattle.office_db.specs.changes.Inner.Choosing.{with_choices}
use Rattle.office_db.specs.changes.Inner.Grading.{with_grade_recorded}
use Rattle.office_db.proofs.changed_rows.Carried.{stores, turns, turns_then}
use Rattle.office_db.proofs.changed_rows.Changes.{room_added, room_shut}
use Rattle.office_db.proofs.changed_rows.Changes.{person_added, person_gone}
use Rattle.office_db.proofs.changed_rows.Changes.{home_put, name_and_key_put, withdrawn_put}
use Rattle.office_db.proofs.changed_rows.Changes.{choices_put, word_added}
use Rattle.office_db.proofs.changed_rows.Changes.{result_added, move_added}
use Rattle.office_db.proofs.changed_rows.Changes.{list_kept, bytes_put, round_put}
use Rattle.office_db.proofs.changed_rows.Changes.{round_cleared, grade_put}
use Rattle.office_db.proofs.changed_rows.Changes.{going_put}
use Rattle.office_db.proofs.alike_tables.WellFormed.{room_well_formed, shut_well_formed}
use Rattle.office_db.proofs.alike_tables.WellFormed.{person_well_formed, without_person_well_formed}
use Rattle.office_db.proofs.alike_tables.WellFormed.{home_well_formed, name_and_key_well_formed, withdrawn_well_formed}
use Rattle.office_db.proofs.alike_tables.WellFormed.{without_withdrawn_well_formed}
use Rattle.office_db.proofs.alike_tables.WellFormed.{without_choices_of_well_formed}
use Rattle.office_db.proofs.alike_tables.WellFormed.{without_round_tables_well_formed, word_well_formed}
use Rattle.office_db.proofs.alike_tables.WellFormed.{result_well_formed, move_well_formed}
use Rattle.office_db.proofs.alike_tables.WellFormed.{kept_well_formed, body_well_formed, round_well_formed}
use Rattle.office_db.proofs.alike_tables.WellFormed.{grade_well_formed, without_grade_of_well_formed}
use Rattle.office_db.proofs.alike_tables.WellFormed.{going_well_formed}

-- ---- one statement

module _ (old new : State) where
  pub stores_new_room : (first : Office) (room : Text) (shut : Bool) → knows_room first room ≡ false
      → IsTextOf is_room_code (value.Text room) → Makes old new (with_room room shut)
      → StoresChange first old new (PutRoom room shut)
  stores_new_room first room shut unknown code m =
      stores first old new _ (with_room room shut)
      (λ office fits. room_added office room shut (fits ∙ unknown))
      (turns old new _ (λ t h. room_well_formed t h room shut code) m)

  pub stores_known_room : (first : Office) (room : Text) (shut : Bool) → knows_room first room ≡ true
      → Makes old new (with_shut room shut) → StoresChange first old new (PutRoom room shut)
  stores_known_room first room shut known m =
      stores first old new _ (with_shut room shut)
      (λ office fits. room_shut office room shut (fits ∙ known))
      (turns old new _ (λ t h. shut_well_formed t h room shut) m)

  pub stores_person : (person name key : Text) (home : Option Text) → IsTextOf is_person_id (value.Text person)
      → IsTextOf is_name (value.Text name) → IsTextOf is_key (value.Text key)
      → IsOptionalTextOf is_room_code (text_or_null home)
      → Makes old new (with_person person (record { name = name; key = key; home = home }))
      → StoresAlways old new (PutPerson person name key home)
  stores_person person name key home is_id is_its_name is_its_key lives m first =
      let v : Person = record { name = name; key = key; home = home } in
      stores first old new _ (with_person person v)
      (λ office fits. person_added office person name key home fits.0 fits.1)
      (turns old new _ (λ t h. person_well_formed t h person v is_id is_its_name is_its_key lives) m)

  pub stores_home : (person : Text) (home : Option Text) → IsOptionalTextOf is_room_code (text_or_null home)
      → Makes old new (with_home person home) → StoresAlways old new (PutHome person home)
  stores_home person home cell m first =
      stores first old new _ (with_home person home) (λ office fits. home_put office person home)
      (turns old new _ (λ t h. home_well_formed t h person home cell) m)

  pub stores_name_and_key : (person name key : Text) → IsTextOf is_name (value.Text name)
      → IsTextOf is_key (value.Text key) → Makes old new (with_name_and_key person name key)
      → StoresAlways old new (PutNameAndKey person name key)
  stores_name_and_key person name key is_its_name is_its_key m first =
      stores first old new _ (with_name_and_key person name key)
      (λ office fits. name_and_key_put office person name key)
      (turns old new _ (λ t h. name_and_key_well_formed t h person name key is_its_name is_its_key) m)

  pub stores_withdrawn : (person : Text) → Makes old new (with_withdrawn person)
      → StoresAlways old new (PutWithdrawn person)
  stores_withdrawn person m first =
      stores first old new _ (with_withdrawn person) (λ office fits. withdrawn_put office person)
      (turns old new _ (λ t h. withdrawn_well_formed t h person) m)

  pub stores_word : (person : Text) (word : ℕ) → IsTextOf is_person_id (value.Text person) → word < 2 ^ 64
      → Makes old new (with_word person word) → StoresAlways old new (PutWord person word)
  stores_word person word is_id low m first =
      stores first old new _ (with_word person word)
      (λ office fits. word_added office person word fits.1)
      (turns old new _ (λ t h. word_well_formed t h person word is_id low) m)

  pub stores_result : (person : Text) (room : Option Text) → IsTextOf is_person_id (value.Text person)
      → IsOptionalTextOf is_room_code (text_or_null room) → Makes old new (with_result person room)
      → StoresAlways old new (PutResult person room)
  stores_result person room is_id code m first =
      stores first old new _ (with_result person room)
      (λ office fits. result_added office person room fits.1)
      (turns old new _ (λ t h. result_well_formed t h person room is_id code) m)

  pub stores_move : (move : Move) → IsMoveRow (move_columns move) → Makes old new (with_move move)
      → StoresAlways old new (AddMove move)
  stores_move move form m first =
      stores first old new _ (with_move move) (λ office fits. move_added office move fits)
      (turns old new _ (λ t h. move_well_formed t h move form) m)

  pub stores_list : (label : Text) (kind : ListKind) (bytes : List ℕ) (count : ℕ)
      → IsTextOf is_label (value.Text label) → count < 2 ^ 16
      → Makes old new (with_import label (record { kind = kind; bytes = bytes; count = count }))
      → StoresAlways old new (KeepList label kind bytes count)
  stores_list label kind bytes count is_its_label low m first =
      let kept : StoredImport = record { kind = kind; bytes = bytes; count = count } in
      stores first old new _ (with_import label kept)
      (λ office fits. list_kept office label kind bytes count fits)
      (turns old new _ (λ t h. kept_well_formed t h label kept is_its_label low) m)

  pub stores_bytes : (label : Text) (bytes : List ℕ) → Makes old new (with_body label bytes)
      → StoresAlways old new (PutBytes label bytes)
  stores_bytes label bytes m first =
      stores first old new _ (with_body label bytes) (λ office fits. bytes_put office label bytes)
      (turns old new _ (λ t h. body_well_formed t h label bytes) m)

  pub stores_round : (number : ℕ) (phase : Phase) → number < 2 ^ 16 → Makes old new (with_round number phase)
      → StoresAlways old new (PutRound number phase)
  stores_round number phase low m first =
      stores first old new _ (with_round number phase) (λ office fits. round_put office number phase)
      (turns old new _ (λ t h. round_well_formed t h number phase low) m)

  pub stores_going : (person : Text) → IsTextOf is_person_id (value.Text person)
      → Makes old new (with_going person)
      → StoresAlways old new (PutGoing person)
  stores_going person is_id m first =
      stores first old new _ (with_going person) (λ office fits. going_put office person fits.1)
      (turns old new _ (λ t h. going_well_formed t h person is_id) m)

  -- If the grade is 0, nothing is done.
  pub turns_none : (person : Text) (grade : ℕ) → grade ≡ 0 → Turns old old (with_grade_recorded person grade)
  turns_none person zero none =
      record { shown = λ tables clean well_formed was. (was, well_formed); mode = λ clean. refl }
  turns_none person (suc grade) none = absurd (omega (arith, none))

  -- If the grade is not 0, its row is added.
  pub turns_grade : (person : Text) (grade : ℕ) → grade ≢ 0 → IsTextOf is_person_id (value.Text person) → grade ≤ 9
      → Makes old new (with_grade person grade) → Turns old new (with_grade_recorded person grade)
  turns_grade person zero some is_id low m = absurd (some refl)
  turns_grade person (suc grade) some is_id low m =
      turns old new _ (λ t h. grade_well_formed t h person (suc grade) is_id (omega arith) low) m

-- ---- two statements

module _ (old mid new : State) (early : HasCleanDisk new → HasCleanDisk mid) where
  pub stores_choices : (person : Text) (rooms : List Text) → Makes old mid (without_choices_of person)
      → Turns mid new (with_choices person 0 rooms) → StoresAlways old new (PutChoices person rooms)
  stores_choices person rooms m n first =
      stores first old new _ (λ t. with_choices person 0 rooms (without_choices_of person t))
      (λ office fits. choices_put office person rooms)
      (turns_then old mid new _ _ early
      (turns old mid _ (λ t h. without_choices_of_well_formed t h person) m) n)

  pub stores_grade : (person : Text) (grade : ℕ) → Makes old mid (without_grade_of person)
      → Turns mid new (with_grade_recorded person grade) → StoresAlways old new (PutGrade person grade)
  stores_grade person grade m n first =
      stores first old new _ (λ t. with_grade_recorded person grade (without_grade_of person t))
      (λ office fits. grade_put office person grade)
      (turns_then old mid new _ _ early
      (turns old mid _ (λ t h. without_grade_of_well_formed t h person) m) n)

  pub stores_gone : (person : Text) → Makes old mid (without_grade_of person)
      → Makes mid new (without_person person)
      → StoresAlways old new (DropPerson person)
  stores_gone person m n first =
      stores first old new _ (λ t. without_person person (without_grade_of person t))
      (λ office fits. person_gone office person fits.2)
      (turns_then old mid new _ _ early
      (turns old mid _ (λ t h. without_grade_of_well_formed t h person) m)
      (turns mid new _ (λ t h. without_person_well_formed t h person) n))

  -- the end of a round
  pub stores_cleared : Makes old mid without_round_tables → Makes mid new without_withdrawn
      → StoresAlways old new ClearRound
  stores_cleared m n first =
      stores first old new ClearRound (λ t. without_withdrawn (without_round_tables t))
      (λ office fits. round_cleared office)
      (turns_then old mid new _ _ early
      (turns old mid _ (λ t h. without_round_tables_well_formed t h) m)
      (turns mid new _ (λ t h. without_withdrawn_well_formed t h) n))
