-- The tests that decide whether an office is lawful.
use Rattle.std.specs.Prelude.{ℕ, Bool, true, false, not, ◌&&◌, ◌||◌, eqb, List, [], ◌∷◌, length, nat_le}
use Rattle.std.specs.Prelude.{Option, None, Some, if◌then◌else◌}
use Rattle.std.specs.List.{list_all}
use Rattle.std.specs.Option.{is_some}
use Rattle.std.specs.FinMap as map
use Rattle.room_types.specs.declared.choices.TheConstants.{CHOICE_LIMIT}
use Rattle.room_types.specs.declared.moves.Wave.{Wave}
use Rattle.room_types.specs.declared.moves.Wave.TheVariants.{Swap, Nth}
use Rattle.room_types.specs.Repeats.{first_repeated}
use Rattle.room_types.specs.Texts.{Text, TextMap}
use Rattle.office_lists.specs.Records.{record_limit}
use Rattle.office_state.specs.Empty.{is_empty}
use Rattle.office_state.specs.Office.Limits.{byte_limit}
use Rattle.office_state.specs.Office.{is_same_text}
use Rattle.office_state.specs.declared.office.stored_import.StoredImport.{StoredImport}
use Rattle.office_state.specs.declared.office.moves.Moved.{Moved}
use Rattle.office_state.specs.declared.office.moves.RoundMoves.{RoundMoves}
use Rattle.office_state.specs.declared.office.Assigned.{Assigned}
use Rattle.office_state.specs.declared.office.person.Person.{Person}

-- whether the texts that `which` gives for these people differ from one another and from every text in `seen`. A
-- person for whom `which` gives no text does not count.
abbrev pub differ_from : (Person → Option Text) → TextMap (Unit {0}) → List (Text × Person) → Bool
differ_from which seen [] = true
differ_from which seen (e ∷ es) = elim (which e.1) [
  | None ↦ differ_from which seen es
  | Some text ↦
      if map.contains_key seen text then false
      else differ_from which (map.insert seen text tt) es
]

-- whether a room is known and not shut. The argument is the room's entry in the table of rooms, or none.
abbrev pub is_unshut : Option Bool → Bool
is_unshut None = false
is_unshut (Some shut) = not shut

-- whether the person's home, if any, is a known room that is not shut
abbrev pub is_home_open : TextMap Bool → Person → Bool
is_home_open rooms person = elim person.home [
  | None ↦ true
  | Some home ↦ is_unshut (map.get rooms home)
]

-- whether the codes are a valid list of choices: at most `CHOICE_LIMIT` codes, and none twice
abbrev pub is_choices : List Text → Bool
is_choices codes =
    nat_le (length codes) CHOICE_LIMIT && not (is_some (first_repeated [] codes))

-- whether a list may be recorded: it is a valid list of choices, is not empty, and its rooms are known
abbrev pub is_recorded_list : TextMap Bool → List Text → Bool
is_recorded_list rooms codes =
    is_choices codes
    && (not (is_empty codes) && list_all (λ code. map.contains_key rooms code) codes)

-- whether the map `results` has the result `found` for a person
abbrev pub is_given : TextMap Assigned → Text → Assigned → Bool
is_given results person found = elim (map.get results person) [
  | None ↦ false
  | Some given ↦ is_same_text given.room found.room
]

-- whether a wave is wave 0, the wave of the people who leave the college
abbrev pub is_wave_0 : Wave → Bool
is_wave_0 Swap = false
is_wave_0 (Nth number) = eqb number 0

-- whether a move has a new room or has wave 0
abbrev pub is_recorded_move : Moved → Bool
is_recorded_move moved = is_some moved.to || is_wave_0 moved.wave

-- whether a round has at least one move, and each of its moves has a new room or has wave 0
abbrev pub is_recorded_round : RoundMoves → Bool
is_recorded_round kept =
    not (eqb (map.len kept.by_person) 0)
    && list_all (λ (e : Text × Moved). is_recorded_move e.1) (map.entries kept.by_person)

-- whether this grade of this person may be recorded: the person is known, and the grade is not 0
abbrev pub is_recorded_grade : TextMap Person → Text → ℕ → Bool
is_recorded_grade people person grade = map.contains_key people person && not (eqb grade 0)

-- whether this person may leave the college: the person is known, and has not withdrawn
abbrev pub is_leaver : TextMap Person → TextMap (Unit {0}) → Text → Bool
is_leaver people withdrawn person =
    map.contains_key people person && not (map.contains_key withdrawn person)

-- whether an imported list has at most `byte_limit` bytes and added at most `record_limit` records
abbrev pub is_short : StoredImport → Bool
is_short kept = nat_le (length kept.bytes) byte_limit && nat_le kept.count record_limit
