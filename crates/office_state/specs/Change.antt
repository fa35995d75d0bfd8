-- The effect of each change on an office, and what holds after each change of a command.
use Rattle.std.specs.Prelude.{◌≡◌, ℕ, zero, suc, eqb, Bool, true, false, not, List, [], ◌∷◌, Option, None, Some}
use Rattle.std.specs.Prelude.{if◌then◌else◌}
use Rattle.std.specs.FinMap as map
use Rattle.room_types.specs.Texts.{Text, TextMap}
use Rattle.office_state.specs.Empty.{is_empty}
use Rattle.office_state.specs.Office.Invariants.{HomesDiffer, IsLawful}
use Rattle.office_state.specs.Office.Moves.{moves_of, with_move}
use Rattle.office_state.specs.Office.{knows_room, knows_person, has_withdrawn, is_going}
use Rattle.office_state.specs.declared.office.Office.{Office}
use Rattle.office_state.specs.declared.change.Change.{Change}
use Rattle.office_state.specs.declared.change.Change.TheVariants.{PutRoom, PutPerson, DropPerson}
use Rattle.office_state.specs.declared.change.Change.TheVariants.{PutHome, PutNameAndKey, PutWithdrawn}
use Rattle.office_state.specs.declared.change.Change.TheVariants.{PutChoices, PutWord, PutResult}
use Rattle.office_state.specs.declared.change.Change.TheVariants.{AddMove}
use Rattle.office_state.specs.declared.change.Change.TheVariants.{PutRound, ClearRound}
use Rattle.office_state.specs.declared.change.Change.TheVariants.{KeepList, PutBytes, PutGrade, PutGoing}

-- the office after setting or clearing a person's home; the same office if the person is unknown
abbrev pub with_home : Office → Text → Option Text → Office
with_home office person home = elim (map.get office.people person) [
  | None ↦ office
  | Some kept ↦
      record office { people = map.insert office.people person (record kept { home = home }) }
]

-- the office after replacing a person's name and key; the same office if the person is unknown
abbrev pub with_name_and_key : Office → Text → Text → Text → Office
with_name_and_key office person name key = elim (map.get office.people person) [
  | None ↦ office
  | Some kept ↦
      record office {
        people = map.insert office.people person (record kept { name = name; key = key });
      }
]

-- the office after replacing the bytes of an imported list; the same office if there is no list with this label
abbrev pub with_bytes : Office → Text → List ℕ → Office
with_bytes office label bytes = elim (map.get office.lists label) [
  | None ↦ office
  | Some kept ↦
      record office { lists = map.insert office.lists label (record kept { bytes = bytes }) }
]

-- the office without a person and their grade
abbrev pub without_person : Office → Text → Office
without_person office person = record office {
  people = map.remove office.people person;
  grades = map.remove office.grades person;
}

-- the preference lists after setting a person's list. An empty list is not stored: it removes the person's list.
abbrev pub with_choice_list : TextMap (List Text) → Text → List Text → TextMap (List Text)
with_choice_list lists person [] = map.remove lists person
with_choice_list lists person (code ∷ codes) = map.insert lists person (code ∷ codes)

-- the grades after setting a person's grade. Grade 0 is not stored: it removes the person's grade.
abbrev pub with_grade : TextMap ℕ → Text → ℕ → TextMap ℕ
with_grade grades person zero = map.remove grades person
with_grade grades person (suc grade) = map.insert grades person (suc grade)

-- the office without the entries of a round: the preference lists, withdrawals, words and results, and the records of
-- who leaves the college
abbrev pub without_round : Office → Office
without_round office = record office {
  choices = map.empty;
  withdrawn = map.empty;
  words = map.empty;
  results = map.empty;
  going = map.empty;
}

-- the office after the change
abbrev pub applied : Office → Change → Office
applied office (PutRoom room shut) = record office { rooms = map.insert office.rooms room shut }
applied office (PutPerson person name key home) =
    record office {
      people = map.insert office.people person
          (record { name = name; key = key; home = home });
    }
applied office (DropPerson person) =
    if knows_person office person then without_person office person else office
applied office (PutHome person home) = with_home office person home
applied office (PutNameAndKey person name key) = with_name_and_key office person name key
applied office (PutWithdrawn person) =
    record office { withdrawn = map.insert office.withdrawn person tt }
applied office (PutChoices person choices) =
    record office { choices = with_choice_list office.choices person choices }
applied office (PutWord person word) = record office { words = map.insert office.words person word }
applied office (PutResult person room) =
    record office { results = map.insert office.results person (record { room = room }) }
applied office (AddMove move) = record office { moves = with_move office.moves move }
applied office (PutRound number phase) = record office { number = number; phase = phase }
applied office ClearRound = without_round office
applied office (KeepList label kind bytes count) =
    record office {
      lists = map.insert office.lists label
          (record { kind = kind; bytes = bytes; count = count });
    }
applied office (PutBytes label bytes) = with_bytes office label bytes
applied office (PutGrade person grade) =
    record office { grades = with_grade office.grades person grade }
applied office (PutGoing person) = record office { going = map.insert office.going person tt }

-- whether the change may allocate. These changes do not: `DropPerson`, `PutRound`, `ClearRound`, `PutChoices` of an
-- empty list, `PutGrade` of grade 0, `PutHome` and `PutNameAndKey` of an unknown person, and `PutBytes` of an unknown
-- label.
abbrev pub change_allocates : Office → Change → Bool
change_allocates office (PutRoom room shut) = true
change_allocates office (PutPerson person name key home) = true
change_allocates office (DropPerson person) = false
change_allocates office (PutHome person home) = knows_person office person
change_allocates office (PutNameAndKey person name key) = knows_person office person
change_allocates office (PutWithdrawn person) = true
change_allocates office (PutChoices person choices) = not (is_empty choices)
change_allocates office (PutWord person word) = true
change_allocates office (PutResult person room) = true
change_allocates office (AddMove move) = true
change_allocates office (PutRound number phase) = false
change_allocates office ClearRound = false
change_allocates office (KeepList label kind bytes count) = true
change_allocates office (PutBytes label bytes) = map.contains_key office.lists label
change_allocates office (PutGrade person grade) = not (eqb grade 0)
change_allocates office (PutGoing person) = true

-- the office after the changes, one after the other
abbrev pub applied_all : Office → List Change → Office
applied_all office [] = office
applied_all office (change ∷ changes) = applied_all (applied office change) changes

-- no two people share a home before the changes, between any two of them, and after them
abbrev pub HomesStayDistinct : Office → List Change → Type 0
HomesStayDistinct office [] = HomesDiffer office
HomesStayDistinct office (change ∷ changes) =
    HomesDiffer office × HomesStayDistinct (applied office change) changes

-- What code that stores changes in database rows may rely on at each change. `first` is the office before all
-- changes, and `office` is the office just before this change.
-- `PutRoom`: `office` knows the room if and only if `first` knows it.
-- `PutPerson`: the person is unknown and has not withdrawn.
-- `DropPerson`: the person has not withdrawn and does not leave the college. If the person has a grade, they are
-- known.
-- `PutWithdrawn`, `PutChoices`, `PutGrade`: the person is known.
-- `PutWord`: the person is known and has no word yet.
-- `PutResult`: the person is known and has no result yet.
-- `AddMove`: the person has no move in that round yet.
-- `KeepList`: no list is stored under the label yet.
-- `PutGoing`: the person is known and is not yet recorded as leaving the college.
-- For all other changes there is no condition.
abbrev pub Fits : Office → Office → Change → Type 0
Fits first office (PutRoom room shut) = knows_room office room ≡ knows_room first room
Fits first office (PutPerson person name key home) =
    (knows_person office person ≡ false) × (has_withdrawn office person ≡ false)
Fits first office (DropPerson person) =
    (has_withdrawn office person ≡ false) × (is_going office person ≡ false)
    × (map.contains_key office.grades person ≡ true → knows_person office person ≡ true)
Fits first office (PutWithdrawn person) = knows_person office person ≡ true
Fits first office (PutChoices person choices) = knows_person office person ≡ true
Fits first office (PutWord person word) =
    (knows_person office person ≡ true) × (map.contains_key office.words person ≡ false)
Fits first office (PutResult person room) =
    (knows_person office person ≡ true) × (map.contains_key office.results person ≡ false)
Fits first office (AddMove move) =
    map.contains_key (moves_of office.moves move.round) move.person ≡ false
Fits first office (KeepList label kind bytes count) =
    map.contains_key office.lists label ≡ false
Fits first office (PutGrade person grade) = knows_person office person ≡ true
Fits first office (PutGoing person) =
    (knows_person office person ≡ true) × (is_going office person ≡ false)
Fits first office _ = Unit {0}

abbrev pub AllFit : Office → Office → List Change → Type 0
AllFit first office [] = Unit {0}
AllFit first office (change ∷ changes) =
    Fits first office change × AllFit first (applied office change) changes

-- The changes turn `office` into `next`, and `next` is lawful. No two people share a home before or after any of the
-- changes, and each change satisfies `Fits`.
pub record LeadsTo (office next : Office) (changes : List Change) : Type 0 where
  pub leads : applied_all office changes ≡ next
  pub apart : HomesStayDistinct office changes
  pub fits : AllFit office office changes
  pub lawful : IsLawful next
