-- The settlement of a round: who moves, in which wave, and who lives where afterwards.
use Rattle.std.specs.Prelude.{◌≡◌, ℕ, Bool, true, ◌&&◌, ◌||◌, not, List, [], ◌∷◌, None}
use Rattle.std.specs.Prelude.{if◌then◌else◌, map as map_list}
use Rattle.std.specs.List.{All, filter, fold}
use Rattle.std.specs.Option.{is_some}
use Rattle.std.specs.FinMap as map
use Rattle.room_types.specs.Texts.{Text, TextMap}
use Rattle.room_types.specs.declared.moves.Move.{Move}
use Rattle.room_types.specs.declared.moves.Wave.{Wave}
use Rattle.office_lists.specs.Waves.{Relocation, waves_of}
use Rattle.office_state.specs.Office.Moves.{RoundMap, with_move}
use Rattle.office_state.specs.Office.{is_same_text, home_of, knows_person, has_withdrawn, is_going}
use Rattle.office_state.specs.Office.{people_not_withdrawn, recorded_result}
use Rattle.office_state.specs.declared.office.moves.RoundMoves.{RoundMoves}
use Rattle.office_state.specs.declared.office.Office.{Office}
use Rattle.office_state.specs.declared.office.person.Person.{Person}

-- whether the settlement sets a person's home to their recorded result: whether the person is known and has not
-- withdrawn. In a lawful office a person who leaves the college has no result, so the settlement leaves them without
-- a home.
abbrev pub is_settled : Office → Text → Bool
is_settled office person = knows_person office person && not (has_withdrawn office person)

-- whether a person has a home or a recorded room
abbrev pub has_room : Office → Text → Bool
has_room office person = is_some (home_of office person) || is_some (recorded_result office person)

-- whether a person's recorded result differs from their home. If it does, the settlement changes the home, unless the
-- person has withdrawn.
abbrev pub changes_home : Office → Text → Bool
changes_home office person = not (is_same_text (home_of office person) (recorded_result office person))

-- the people whose home the settlement changes, in order of identifier, each with the old and the new room. In a
-- lawful office a person who leaves the college has no new room.
abbrev pub relocations : Office → List Relocation
relocations office =
    map_list (λ person. (person, home_of office person, recorded_result office person))
    (filter (changes_home office) (people_not_withdrawn office))

-- each relocation without a new room is that of a person who leaves the college
abbrev pub OnlyLeaversMoveOut : Office → Type 0
OnlyLeaversMoveOut office =
    All (λ (relocation : Relocation). relocation.2 ≡ None → is_going office relocation.0 ≡ true) (relocations office)

-- the moves of a round: one move for each relocation, with the wave at the same place in the list of waves
abbrev pub moves_with : ℕ → List Relocation → List Wave → List Move
moves_with round (relocation ∷ others) (wave ∷ waves) =
    record { round = round; person = relocation.0; from = relocation.1; to = relocation.2; wave = wave }
    ∷ moves_with round others waves
moves_with round [] waves = []
moves_with round (relocation ∷ others) [] = []

-- the moves that settle the office's round: one for each relocation, with its wave
abbrev pub settled_moves : Office → List Move
settled_moves office = moves_with office.number (relocations office) (waves_of (relocations office))

-- the map of moves after recording these moves one by one
abbrev pub with_moves : RoundMap RoundMoves → List Move → RoundMap RoundMoves
with_moves = fold with_move

-- a person's entry after the settlement. The recorded result becomes the home, unless the person has withdrawn: then
-- they keep their home. In a lawful office a person who leaves the college has no result, and so has no home
-- afterwards.
abbrev pub settled_person : Office → Text × Person → Text × Person
settled_person office entry = (
  entry.0,
  if is_settled office entry.0 then record entry.1 { home = recorded_result office entry.0 }
      else entry.1,
)

-- the people after the settlement, with their new homes
abbrev pub settled_people : Office → TextMap Person
settled_people office =
    map.from_entries (map_list (settled_person office) (map.entries office.people))
