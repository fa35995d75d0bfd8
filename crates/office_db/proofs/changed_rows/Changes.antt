-- The rows of an office after each change, from the effects of its statements on the rows before.
use Rattle.std.proofs.Common.{◌≡◌, ℕ, zero, suc, ◌+◌, Bool, true, false, List, [], ◌∷◌, ◌++◌, map}
use Rattle.std.proofs.Common.{Option, Some, None, cond}
use Rattle.std.proofs.Common.{refl, sym, ap, ◌∙◌, subst, IsPermutation}
use Rattle.std.specs.List.{AllByRecursion, flat_map}
use Rattle.std.specs.Option.{is_some}
use Rattle.std.specs.Ordering.{eq_by_cmp}
use Rattle.std.specs.Cmp.Lexicographic.{nat_list_cmp_total}
use Rattle.std.specs.FinMap as maps
use Rattle.std.specs.FinMap.{get-insert, get-empty}
use Rattle.std.proofs.lemmas.List.Sorted.{IsPermutation-sym, IsPermutation-middle}
use Rattle.std.proofs.lemmas.Map.Text.{is_eq-slice_cmp}
use Rattle.sqlite_keyed.specs.Lists.{update_where}
use Rattle.sqlite_keyed.proofs.ListLemmas.{map-map, map_same, IsPermutation-same}
use Rattle.room_types.specs.Texts.{Text, TextMap, text_cmp, text_eq}
use Rattle.room_types.specs.declared.kinds.ListKind.{ListKind}
use Rattle.room_types.specs.declared.moves.Move.{Move}
use Rattle.room_types.specs.declared.phase.Phase.{Phase}
use Rattle.room_types.proofs.maps.Trees.{entries-empty}
use Rattle.room_types.proofs.options.Options.{none_if_not_some}
use Rattle.office_state.specs.Change as changes
use Rattle.office_state.specs.Change.{applied}
use Rattle.office_state.specs.Office.Moves.{moves_of}
use Rattle.office_state.specs.Office.{knows_room, knows_person, has_withdrawn, is_going}
use Rattle.office_state.specs.declared.change.Change.TheVariants.{PutRoom, PutPerson, DropPerson}
use Rattle.office_state.specs.declared.change.Change.TheVariants.{PutHome, PutNameAndKey, PutWithdrawn}
use Rattle.office_state.specs.declared.change.Change.TheVariants.{PutChoices, PutWord, PutResult, AddMove}
use Rattle.office_state.specs.declared.change.Change.TheVariants.{PutRound, ClearRound, KeepList}
use Rattle.office_state.specs.declared.change.Change.TheVariants.{PutBytes, PutGrade, PutGoing}
use Rattle.office_state.specs.declared.office.Office.{Office}
use Rattle.office_state.specs.declared.office.person.Person.{Person}
use Rattle.office_state.specs.declared.office.stored_import.StoredImport.{StoredImport}
use Rattle.office_state.proofs.offices.Dropping.{person_dropped}
use Rattle.office_schema.specs.rows.Rows.{row_of_person, rows_of_people, choices_from, list_rows}
use Rattle.office_schema.specs.rows.SameRows.{AreSameRows}
use Rattle.office_schema.specs.rows.Tables.{Tables, rows_at, rows_of}
use Rattle.office_schema.specs.declared.rows.records.ChoiceRecord.{ChoiceRecord}
use Rattle.office_schema.specs.declared.rows.records.PersonRecord.{PersonRecord}
use Rattle.office_schema.proofs.rows_read.Moving.{rows_more}
use Rattle.office_db.specs.changes.Inner.Choosing.{with_choices}
use Rattle.office_db.specs.changes.Inner.Grading.{with_grade_recorded}
use Rattle.office_schema.specs.tables.Edits.{with_room, with_shut, with_person, without_person}
use Rattle.office_schema.specs.tables.Edits.{with_home, with_name_and_key, with_withdrawn}
use Rattle.office_schema.specs.tables.Edits.{without_withdrawn, with_round, with_choice}
use Rattle.office_schema.specs.tables.Edits.{without_choices_of, without_round_tables}
use Rattle.office_schema.specs.tables.Edits.{with_word, with_result, with_move, with_import}
use Rattle.office_schema.specs.tables.Edits.{with_body, with_grade, without_grade_of}
use Rattle.office_schema.specs.tables.Edits.{with_going, taking_part}
use Rattle.office_db.proofs.alike_tables.Alike.{alike-refl, alike-trans, one_alike}
use Rattle.office_schema.specs.declared.tables.names.TableName.TheVariants.{Rooms, People, Choices, Words}
use Rattle.office_schema.specs.declared.tables.names.TableName.TheVariants.{Results, Moves, Lists, Grades, Going}
use Rattle.office_db.proofs.changed_rows.Entries.{rows_put, rows_gone, row_gone}
use Rattle.office_db.proofs.changed_rows.Entries.{row_added}
use Rattle.office_db.proofs.changed_rows.Entries.{row_unknown, row_changed}
use Rattle.office_db.proofs.changed_rows.TableEntries.{tells, entry_added, entry_changed, entry_changed_by}
use Rattle.office_db.proofs.changed_rows.TableEntries.{entry_unknown, entry_gone, entry_put}

-- ---- rooms

module _ (office : Office) (room : Text) (shut : Bool) where
  -- a room that is unknown
  pub room_added : knows_room office room ≡ false
      → AreSameRows (rows_of (applied office (PutRoom room shut))) (with_room room shut (rows_of office))
  unfolding rows_at with_room
  room_added new =
      one_alike (rows_of office) Rooms _ _ (entry_added office.rooms room shut new)

  -- a room that is known
  pub room_shut : knows_room office room ≡ true
      → AreSameRows (rows_of (applied office (PutRoom room shut))) (with_shut room shut (rows_of office))
  unfolding rows_at with_shut
  room_shut known =
      one_alike (rows_of office) Rooms _ _
      (IsPermutation-same _ _ (entry_changed office.rooms room shut known))

-- ---- people

module _ (office : Office) (person : Text) where
  abbrev shown : Text × Person → PersonRecord
  shown e = row_of_person office.withdrawn e

  abbrev is_that : PersonRecord → Bool
  is_that r = text_eq r.id person

  -- a person who is unknown and has not withdrawn
  pub person_added : (name key : Text) (home : Option Text) → knows_person office person ≡ false
      → has_withdrawn office person ≡ false
      → AreSameRows (rows_of (applied office (PutPerson person name key home)))
      (with_person person (record { name = name; key = key; home = home }) (rows_of office))
  unfolding rows_at with_person
  person_added name key home new here =
      let v : Person = record { name = name; key = key; home = home } in
      let head : shown (person, v) ≡ record { id = person; person = v; withdrawn = false } =
      ap (λ b. record { id = person; person = v; withdrawn = b }) here in
      one_alike (rows_of office) People _ _
      (subst (λ r. IsPermutation (rows_of_people (maps.insert office.people person v) office.withdrawn)
      (r ∷ rows_of_people office.people office.withdrawn)) head
      (row_added shown (λ (r : PersonRecord). r.id) (λ e. refl) person is_that
      (λ r. tells r.id person) office.people v
      (none_if_not_some (maps.get office.people person) new)))

  -- Deleting a person deletes their grade.
  person_out : AreSameRows (rows_of (changes.without_person office person))
      (without_person person (without_grade_of person (rows_of office)))
  unfolding rows_at without_person without_grade_of
  person_out =
      alike-trans _ _ _
      (one_alike (rows_of (changes.without_person office person)) People _ _ (IsPermutation-same _ _
      (row_gone shown (λ (r : PersonRecord). r.id) (λ e. refl) person is_that
      (λ r. tells r.id person) office.people)))
      (one_alike (without_person person (rows_of office)) Grades _ _
      (IsPermutation-same _ _ (entry_gone office.grades person)))

  -- If only known people have a grade, nobody else loses one.
  pub person_gone : (maps.contains_key office.grades person ≡ true → knows_person office person ≡ true)
      → AreSameRows (rows_of (applied office (DropPerson person)))
      (without_person person (without_grade_of person (rows_of office)))
  person_gone graded =
      subst (λ new. AreSameRows (rows_of new) (without_person person (without_grade_of person (rows_of office))))
      (sym (person_dropped office person graded)) person_out

  -- The entry of the person is changed, if there is one.
  abbrev with_entry : (Person → Person) → Option Person → Office
  with_entry f entry = elim entry as (λ _. Office) [
    | None ↦ office
    | Some kept ↦ record office { people = maps.insert office.people person (f kept) }
  ]

  person_changed : (f : Person → Person) (g : PersonRecord → PersonRecord)
      → ((kept : Person) → g (shown (person, kept)) ≡ shown (person, f kept))
      → AreSameRows (rows_of (with_entry f (maps.get office.people person)))
      (record (rows_of office) { people = update_where is_that g (rows_of_people office.people office.withdrawn) })
  unfolding rows_at
  person_changed f g is_its =
      elim (maps.get office.people person) as (λ o. maps.get office.people person ≡ o
      → AreSameRows (rows_of (with_entry f o))
      (record (rows_of office) { people = update_where is_that g (rows_of_people office.people office.withdrawn) })) [
        | None ↦ λ unknown.
            one_alike (rows_of office) People _ _ (IsPermutation-same _ _
            (row_unknown shown (λ (r : PersonRecord). r.id) (λ e. refl) person is_that
            (λ r. tells r.id person) g office.people unknown))
        | Some kept ↦ λ known.
            one_alike (rows_of office) People _ _ (IsPermutation-same _ _
            (row_changed shown (λ (r : PersonRecord). r.id) (λ e. refl) person is_that
            (λ r. tells r.id person) g office.people (f kept) kept known (is_its kept)))
      ] refl

  pub home_put : (home : Option Text)
      → AreSameRows (rows_of (applied office (PutHome person home))) (with_home person home (rows_of office))
  unfolding rows_at with_home
  home_put home =
      person_changed (λ kept. record kept { home = home })
      (λ r. record r { person = record r.person { home = home } }) (λ kept. refl)

  pub name_and_key_put : (name key : Text)
      → AreSameRows (rows_of (applied office (PutNameAndKey person name key)))
      (with_name_and_key person name key (rows_of office))
  unfolding rows_at with_name_and_key
  name_and_key_put name key =
      person_changed (λ kept. record kept { name = name; key = key })
      (λ r. record r { person = record r.person { name = name; key = key } }) (λ kept. refl)

  -- the row of a person, once somebody has withdrawn
  marked : (e : Text × Person)
      → row_of_person (maps.insert office.withdrawn person tt) e
      ≡ cond (text_eq e.0 person) (record (shown e) { withdrawn = true }) (shown e)
  marked e =
      ap (λ o. record { id = e.0; person = e.1; withdrawn = is_some o })
      (get-insert nat_list_cmp_total office.withdrawn person tt e.0)
      ∙ either (eq_by_cmp text_cmp e.0 person)
      ∙ ap (λ b. cond b (record (shown e) { withdrawn = true }) (shown e)) (is_eq-slice_cmp e.0 person)
    where
      either : (b : Bool)
          → record { id = e.0; person = e.1; withdrawn = is_some (cond b (Some tt) (maps.get office.withdrawn e.0)) }
          ≡ cond b (record { id = e.0; person = e.1; withdrawn = true }) (row_of_person office.withdrawn e)
      either true = refl
      either false = refl

  pub withdrawn_put : AreSameRows (rows_of (applied office (PutWithdrawn person)))
      (with_withdrawn person (rows_of office))
  unfolding rows_at with_withdrawn
  withdrawn_put =
      one_alike (rows_of office) People _ _ (IsPermutation-same _ _
      (map_same _ _ marked (maps.entries office.people)
      ∙ sym (map-map (λ (r : PersonRecord). cond (is_that r) (record r { withdrawn = true }) r) shown
      (maps.entries office.people))))

-- ---- choices

choices_keyed : (person : Text) (place : ℕ) (rooms : List Text)
    → AllByRecursion (λ (r : ChoiceRecord). r.person ≡ person) (choices_from person place rooms)
choices_keyed person place [] = tt
choices_keyed person place (room ∷ rooms) = (refl, choices_keyed person (place + 1) rooms)

choices_added : (person : Text) (place : ℕ) (rooms : List Text) (t : Tables)
    → AreSameRows (record t { choices = choices_from person place rooms ++ t.choices })
    (with_choices person place rooms t)
unfolding with_choice
choices_added person place [] t = alike-refl t
choices_added person place (room ∷ rooms) t =
    let c : ChoiceRecord = record { person = person; place = place; room = room } in
    let rest : List ChoiceRecord = choices_from person (place + 1) rooms in
    alike-trans _ _ _
    (one_alike t Choices (c ∷ (rest ++ t.choices)) (rest ++ c ∷ t.choices)
    (IsPermutation-sym _ _ (IsPermutation-middle rest c t.choices)))
    (choices_added person (place + 1) rooms (with_choice person place room t))

module _ (office : Office) (person : Text) where
  abbrev is_choice : ChoiceRecord → Bool
  is_choice r = text_eq r.person person

  -- A person's list is replaced.
  pub choices_put : (rooms : List Text)
      → AreSameRows (rows_of (applied office (PutChoices person rooms)))
      (with_choices person 0 rooms (without_choices_of person (rows_of office)))
  unfolding rows_at without_choices_of
  choices_put [] =
      one_alike (rows_of office) Choices _ _ (IsPermutation-same _ _
      (rows_gone list_rows (λ (r : ChoiceRecord). r.person)
      (λ e. choices_keyed e.0 0 e.1) person is_choice
      (λ r. tells r.person person) office.choices))
  choices_put (room ∷ rooms) =
      alike-trans _ _ _
      (one_alike (rows_of office) Choices _ _
      (rows_put list_rows (λ (r : ChoiceRecord). r.person)
      (λ e. choices_keyed e.0 0 e.1) person is_choice
      (λ r. tells r.person person)
      office.choices (room ∷ rooms)))
      (choices_added person 0 (room ∷ rooms) (without_choices_of person (rows_of office)))

-- ---- words, results, moves and imported lists

module _ (office : Office) (person : Text) where
  -- A person without a word gets one.
  pub word_added : (word : ℕ) → maps.contains_key office.words person ≡ false
      → AreSameRows (rows_of (applied office (PutWord person word))) (with_word person word (rows_of office))
  unfolding rows_at with_word
  word_added word new =
      one_alike (rows_of office) Words _ _ (entry_added office.words person word new)

  -- A person without a result gets one.
  pub result_added : (room : Option Text) → maps.contains_key office.results person ≡ false
      → AreSameRows (rows_of (applied office (PutResult person room))) (with_result person room (rows_of office))
  unfolding rows_at with_result
  result_added room new =
      one_alike (rows_of office) Results _ _
      (entry_added office.results person (record { room = room }) new)

-- A person moves who has not moved in the round.
pub move_added : (office : Office) (move : Move)
    → maps.contains_key (moves_of office.moves move.round) move.person ≡ false
    → AreSameRows (rows_of (applied office (AddMove move))) (with_move move (rows_of office))
unfolding rows_at with_move
move_added office move new =
    one_alike (rows_of office) Moves _ _ (IsPermutation-sym _ _ (rows_more office.moves move new))

-- An imported list is stored under a new label.
pub list_kept : (office : Office) (label : Text) (kind : ListKind) (bytes : List ℕ) (count : ℕ)
    → maps.contains_key office.lists label ≡ false
    → AreSameRows (rows_of (applied office (KeepList label kind bytes count)))
    (with_import label (record { kind = kind; bytes = bytes; count = count }) (rows_of office))
unfolding rows_at with_import
list_kept office label kind bytes count new =
    one_alike (rows_of office) Lists _ _
    (entry_added office.lists label (record { kind = kind; bytes = bytes; count = count }) new)

-- The bytes of an imported list are replaced.
pub bytes_put : (office : Office) (label : Text) (bytes : List ℕ)
    → AreSameRows (rows_of (applied office (PutBytes label bytes)))
    (with_body label bytes (rows_of office))
unfolding rows_at with_body
bytes_put office label bytes =
    let f : Text × StoredImport → Text × StoredImport = λ r. (r.0, record r.1 { bytes = bytes }) in
    elim (maps.get office.lists label) as (λ o. maps.get office.lists label ≡ o
    → AreSameRows (rows_of (elim o as (λ _. Office) [
      | None ↦ office
      | Some kept ↦ record office {
        lists = maps.insert office.lists label (record kept { bytes = bytes });
      }
    ])) (with_body label bytes (rows_of office))) [
      | None ↦ λ unknown.
          one_alike (rows_of office) Lists _ _
          (IsPermutation-same _ _ (entry_unknown office.lists label f unknown))
      | Some kept ↦ λ known.
          one_alike (rows_of office) Lists _ _ (IsPermutation-same _ _
          (entry_changed_by office.lists label f (record kept { bytes = bytes }) kept known refl))
    ] refl

-- ---- grades and leavers

module _ (office : Office) (person : Text) where
  -- A person's grade is replaced, and grade 0 is not recorded.
  pub grade_put : (grade : ℕ)
      → AreSameRows (rows_of (applied office (PutGrade person grade)))
      (with_grade_recorded person grade (without_grade_of person (rows_of office)))
  unfolding rows_at with_grade without_grade_of
  grade_put zero =
      one_alike (rows_of office) Grades _ _ (IsPermutation-same _ _ (entry_gone office.grades person))
  grade_put (suc grade) =
      one_alike (rows_of office) Grades _ _ (entry_put office.grades person (suc grade))

  -- A person leaves who did not before.
  pub going_put : is_going office person ≡ false
      → AreSameRows (rows_of (applied office (PutGoing person))) (with_going person (rows_of office))
  unfolding rows_at with_going
  going_put new =
      one_alike (rows_of office) Going _ _
      (row_added (λ (e : Text × Unit {0}). e.0) (λ k. k) (λ e. refl) person (λ k. text_eq k person)
      (λ k. tells k person) office.going tt
      (none_if_not_some (maps.get office.going person) new))

-- ---- the round

pub round_put : (office : Office) (number : ℕ) (phase : Phase)
    → AreSameRows (rows_of (applied office (PutRound number phase))) (with_round number phase (rows_of office))
unfolding rows_at with_round
round_put office number phase = alike-refl (rows_of (applied office (PutRound number phase)))

unmarked : (people : TextMap Person) (withdrawn : TextMap (Unit {0}))
    → rows_of_people people maps.empty ≡ map taking_part (rows_of_people people withdrawn)
unmarked people withdrawn =
    map_same _ _ (λ e. ap (λ o. record { id = e.0; person = e.1; withdrawn = is_some o }) (get-empty text_cmp e.0))
    (maps.entries people)
    ∙ sym (map-map taking_part (row_of_person withdrawn) (maps.entries people))

-- Lists, withdrawals, words and results are deleted, and nobody leaves.
pub round_cleared : (office : Office)
    → AreSameRows (rows_of (applied office ClearRound))
    (without_withdrawn (without_round_tables (rows_of office)))
unfolding rows_at without_withdrawn without_round_tables
round_cleared office = let still = alike-refl (rows_of office) in record {
  rooms = still.rooms;
  people = IsPermutation-same _ _ (unmarked office.people office.withdrawn);
  rounds = still.rounds;
  choices = IsPermutation-same _ _ (ap (flat_map list_rows) (entries-empty nat_list_cmp_total));
  words = IsPermutation-same _ _ (entries-empty nat_list_cmp_total);
  results = IsPermutation-same _ _ (entries-empty nat_list_cmp_total);
  moves = still.moves;
  lists = still.lists;
  grades = still.grades;
  going = IsPermutation-same _ _ (ap (map (λ (e : Text × Unit {0}). e.0)) (entries-empty nat_list_cmp_total));
}
