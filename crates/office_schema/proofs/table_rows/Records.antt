-- The listed columns of a record determine the record.
use Rattle.std.proofs.Common.{◌≡◌, ℕ, Bool, true, false, List, [], ◌∷◌, length, Option, Some, None, if◌then◌else◌, eqb}
use Rattle.std.proofs.Common.{refl, sym, ap, ◌∙◌}
use Rattle.std.specs.Prelude.{unwrap_or, slice_get}
use Rattle.sqlite_value.specs.declared.value.Value.TheVariants.{Text}
use Rattle.sqlite_sql.specs.Term.{col}
use Rattle.room_types.specs.Kinds.{kind_text}
use Rattle.room_types.specs.Phases.{phase_text}
use Rattle.room_types.specs.Texts.{Text as Bytes}
use Rattle.room_types.specs.Words.{word_of, word_text}
use Rattle.room_types.specs.declared.kinds.ListKind.{ListKind}
use Rattle.room_types.specs.declared.kinds.ListKind.TheVariants.{Rooms, People, Choices, Grades}
use Rattle.room_types.specs.declared.moves.Move.{Move}
use Rattle.room_types.specs.declared.moves.Wave.{Wave}
use Rattle.room_types.specs.declared.moves.Wave.TheVariants.{Swap, Nth}
use Rattle.room_types.specs.declared.phase.Phase.{Phase}
use Rattle.room_types.specs.declared.phase.Phase.TheVariants.{Idle, Opened, Closed, Drawn, Ran, Published}
use Rattle.room_types.proofs.hex_words.Words.{word_length, word_low, word_read}
use Rattle.office_state.specs.declared.office.Assigned.{Assigned}
use Rattle.office_state.specs.declared.office.stored_import.StoredImport.{StoredImport}
use Rattle.office_schema.specs.declared.rows.records.ChoiceRecord.{ChoiceRecord}
use Rattle.office_schema.specs.declared.rows.records.PersonRecord.{PersonRecord}
use Rattle.office_schema.specs.declared.rows.records.RoundRecord.{RoundRecord}
use Rattle.office_schema.specs.cells.Cells.{IsWord, flag, text_or_null, wave_value}
use Rattle.office_schema.specs.cells.Columns.{room_columns, person_columns, round_columns, round_shown, choice_columns}
use Rattle.office_schema.specs.cells.Columns.{word_columns, result_columns, move_columns, list_columns, grade_columns}
use Rattle.office_schema.specs.cells.Columns.{going_columns, one, two, three, four, five}
use Rattle.office_schema.specs.cells.Forms.{IsRoomRow, IsPersonRow, IsRoundRow, IsChoiceRow, IsWordRow, IsResultRow}
use Rattle.office_schema.specs.cells.Forms.{IsMoveRow, IsListRow, IsGradeRow, IsGoingRow}
use Rattle.office_schema.specs.tables.Listing.{DeterminesRecords}

-- ---- cells

same_flag : (a b : Bool) → flag a ≡ flag b → a ≡ b
same_flag true true e = refl
same_flag false false e = refl
same_flag true false e = absurd (cc)
same_flag false true e = absurd (cc)

same_text_or_null : (a b : Option (List ℕ)) → text_or_null a ≡ text_or_null b → a ≡ b
same_text_or_null None None e = refl
same_text_or_null None (Some t) e = absurd (cc)
same_text_or_null (Some t) None e = absurd (cc)
same_text_or_null (Some t) (Some u) e = let same : t ≡ u = cc in ap (λ x. Some x) same

same_wave : (a b : Wave) → wave_value a ≡ wave_value b → a ≡ b
same_wave Swap Swap e = refl
same_wave Swap (Nth n) e = absurd (cc)
same_wave (Nth n) Swap e = absurd (cc)
same_wave (Nth n) (Nth m) e = let same : n ≡ m = cc in ap (λ k. Nth k) same

-- The phases begin with different letters.
abbrev phase_by : ℕ → Phase
phase_by letter =
    if eqb letter 105 then Idle
    else (if eqb letter 111 then Opened
    else (if eqb letter 99 then Closed else
    (if eqb letter 100 then Drawn else (if eqb letter 114 then Ran else Published))))

abbrev phase_of : List ℕ → Phase
phase_of text = phase_by (unwrap_or (slice_get text 0) 0)

phase_is : (p : Phase) → phase_of (phase_text p) ≡ p
phase_is Idle = refl
phase_is Opened = refl
phase_is Closed = refl
phase_is Drawn = refl
phase_is Ran = refl
phase_is Published = refl

same_phase : (a b : Phase) → phase_text a ≡ phase_text b → a ≡ b
same_phase a b e = sym (phase_is a) ∙ ap phase_of e ∙ phase_is b

-- So do the kinds of lists.
abbrev kind_by : ℕ → ListKind
kind_by letter =
    if eqb letter 114 then Rooms else (if eqb letter 112 then People else (if eqb letter 103 then Grades else Choices))

abbrev kind_of : List ℕ → ListKind
kind_of text = kind_by (unwrap_or (slice_get text 0) 0)

kind_is : (k : ListKind) → kind_of (kind_text k) ≡ k
kind_is Rooms = refl
kind_is People = refl
kind_is Choices = refl
kind_is Grades = refl

same_kind : (a b : ListKind) → kind_text a ≡ kind_text b → a ≡ b
same_kind a b e = sym (kind_is a) ∙ ap kind_of e ∙ kind_is b

same_word : (w v : ℕ) → IsWord (Text (word_text w)) → word_text w ≡ word_text v → w ≡ v
same_word w v form e =
    let word : word_text w ≡ word_text form.0 = same_bytes _ _ form.1 in
    let sixteen : length (word_text w) ≡ 16 = ap length word ∙ word_length form.0 form.2 in
    let low = word_low w sixteen in
    let other = word_low v (ap length (sym e) ∙ sixteen) in
    ap (λ (o : Option ℕ). unwrap_or o w) (sym (word_read w low) ∙ ap word_of e ∙ word_read v other)
  where
    same_bytes : (t u : List ℕ) → Text t ≡ Text u → t ≡ u
    same_bytes t u h = cc

-- ---- records

same_room : (a b : Bytes × Bool) → room_columns a ≡ room_columns b → a ≡ b
same_room a b e =
    let code : a.0 ≡ b.0 = cc in
    let shown : flag a.1 ≡ flag b.1 = cc in
    let shut = same_flag a.1 b.1 shown in
    λ i. (code i, shut i)

pub rooms_loaded : DeterminesRecords room_columns room_columns IsRoomRow two (col 1 1 ∷ col 1 2 ∷ [])
rooms_loaded =
    record {
      projected = λ e. refl;
      shown_whole = λ x. refl;
      whole = λ row. refl;
      keeps_form = λ row h. h;
      apart = λ a b form e. same_room a b e;
    }

same_person : (a b : PersonRecord) → person_columns a ≡ person_columns b → a ≡ b
same_person a b e =
    let id : a.id ≡ b.id = cc in
    let name : a.person.name ≡ b.person.name = cc in
    let key : a.person.key ≡ b.person.key = cc in
    let lives : text_or_null a.person.home ≡ text_or_null b.person.home = cc in
    let left : flag a.withdrawn ≡ flag b.withdrawn = cc in
    let home = same_text_or_null a.person.home b.person.home lives in
    let withdrawn = same_flag a.withdrawn b.withdrawn left in
    λ i. record { id = id i; person = record { name = name i; key = key i; home = home i }; withdrawn = withdrawn i }

pub people_loaded : DeterminesRecords person_columns person_columns IsPersonRow five
    (col 1 1 ∷ col 1 2 ∷ col 1 3 ∷ col 1 4 ∷ col 1 5 ∷ [])
people_loaded =
    record {
      projected = λ e. refl;
      shown_whole = λ x. refl;
      whole = λ row. refl;
      keeps_form = λ row h. h;
      apart = λ a b form e. same_person a b e;
    }

same_round : (a b : RoundRecord) → round_shown a ≡ round_shown b → a ≡ b
same_round a b e =
    let version : a.version ≡ b.version = cc in
    let number : a.number ≡ b.number = cc in
    let text : phase_text a.phase ≡ phase_text b.phase = cc in
    let phase = same_phase a.phase b.phase text in
    λ i. record { version = version i; number = number i; phase = phase i }

pub rounds_loaded : DeterminesRecords round_columns round_shown IsRoundRow three (col 1 2 ∷ col 1 3 ∷ col 1 4 ∷ [])
rounds_loaded =
    record {
      projected = λ e. refl;
      shown_whole = λ x. refl;
      whole = λ row. refl;
      keeps_form = λ row h. h;
      apart = λ a b form e. same_round a b e;
    }

same_choice : (a b : ChoiceRecord) → choice_columns a ≡ choice_columns b → a ≡ b
same_choice a b e =
    let person : a.person ≡ b.person = cc in
    let place : a.place ≡ b.place = cc in
    let room : a.room ≡ b.room = cc in
    λ i. record { person = person i; place = place i; room = room i }

pub choices_loaded : DeterminesRecords choice_columns choice_columns IsChoiceRow three
    (col 1 1 ∷ col 1 2 ∷ col 1 3 ∷ [])
choices_loaded =
    record {
      projected = λ e. refl;
      shown_whole = λ x. refl;
      whole = λ row. refl;
      keeps_form = λ row h. h;
      apart = λ a b form e. same_choice a b e;
    }

same_draw : (a b : Bytes × ℕ) → IsWord (Text (word_text a.1)) → word_columns a ≡ word_columns b → a ≡ b
same_draw a b form e =
    let person : a.0 ≡ b.0 = cc in
    let text : word_text a.1 ≡ word_text b.1 = cc in
    let word = same_word a.1 b.1 form text in
    λ i. (person i, word i)

pub words_loaded : DeterminesRecords word_columns word_columns IsWordRow two (col 1 1 ∷ col 1 2 ∷ [])
words_loaded =
    record {
      projected = λ e. refl;
      shown_whole = λ x. refl;
      whole = λ row. refl;
      keeps_form = λ row h. h;
      apart = λ a b form e. same_draw a b form.1 e;
    }

same_result : (a b : Bytes × Assigned) → result_columns a ≡ result_columns b → a ≡ b
same_result a b e =
    let person : a.0 ≡ b.0 = cc in
    let gets : text_or_null a.1.room ≡ text_or_null b.1.room = cc in
    let room = same_text_or_null a.1.room b.1.room gets in
    λ i. (person i, record { room = room i })

pub results_loaded : DeterminesRecords result_columns result_columns IsResultRow two (col 1 1 ∷ col 1 2 ∷ [])
results_loaded =
    record {
      projected = λ e. refl;
      shown_whole = λ x. refl;
      whole = λ row. refl;
      keeps_form = λ row h. h;
      apart = λ a b form e. same_result a b e;
    }

same_move : (a b : Move) → move_columns a ≡ move_columns b → a ≡ b
same_move a b e =
    let round : a.round ≡ b.round = cc in
    let person : a.person ≡ b.person = cc in
    let left : text_or_null a.from ≡ text_or_null b.from = cc in
    let gets : text_or_null a.to ≡ text_or_null b.to = cc in
    let turn : wave_value a.wave ≡ wave_value b.wave = cc in
    let from = same_text_or_null a.from b.from left in
    let to = same_text_or_null a.to b.to gets in
    let wave = same_wave a.wave b.wave turn in
    λ i. record { round = round i; person = person i; from = from i; to = to i; wave = wave i }

pub moves_loaded : DeterminesRecords move_columns move_columns IsMoveRow five
    (col 1 1 ∷ col 1 2 ∷ col 1 3 ∷ col 1 4 ∷ col 1 5 ∷ [])
moves_loaded =
    record {
      projected = λ e. refl;
      shown_whole = λ x. refl;
      whole = λ row. refl;
      keeps_form = λ row h. h;
      apart = λ a b form e. same_move a b e;
    }

same_list : (a b : Bytes × StoredImport) → list_columns a ≡ list_columns b → a ≡ b
same_list a b e =
    let label : a.0 ≡ b.0 = cc in
    let text : kind_text a.1.kind ≡ kind_text b.1.kind = cc in
    let bytes : a.1.bytes ≡ b.1.bytes = cc in
    let count : a.1.count ≡ b.1.count = cc in
    let kind = same_kind a.1.kind b.1.kind text in
    λ i. (label i, record { kind = kind i; bytes = bytes i; count = count i })

pub lists_loaded : DeterminesRecords list_columns list_columns IsListRow four
    (col 1 1 ∷ col 1 2 ∷ col 1 3 ∷ col 1 4 ∷ [])
lists_loaded =
    record {
      projected = λ e. refl;
      shown_whole = λ x. refl;
      whole = λ row. refl;
      keeps_form = λ row h. h;
      apart = λ a b form e. same_list a b e;
    }

same_grade : (a b : Bytes × ℕ) → grade_columns a ≡ grade_columns b → a ≡ b
same_grade a b e =
    let person : a.0 ≡ b.0 = cc in
    let grade : a.1 ≡ b.1 = cc in
    λ i. (person i, grade i)

pub grades_loaded : DeterminesRecords grade_columns grade_columns IsGradeRow two (col 1 1 ∷ col 1 2 ∷ [])
grades_loaded =
    record {
      projected = λ e. refl;
      shown_whole = λ x. refl;
      whole = λ row. refl;
      keeps_form = λ row h. h;
      apart = λ a b form e. same_grade a b e;
    }

same_leaver : (a b : Bytes) → going_columns a ≡ going_columns b → a ≡ b
same_leaver a b e = cc

pub going_loaded : DeterminesRecords going_columns going_columns IsGoingRow one (col 1 1 ∷ [])
going_loaded =
    record {
      projected = λ e. refl;
      shown_whole = λ x. refl;
      whole = λ row. refl;
      keeps_form = λ row h. h;
      apart = λ a b form e. same_leaver a b e;
    }
