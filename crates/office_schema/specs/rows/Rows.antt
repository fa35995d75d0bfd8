-- The rows of each part of an office.
use Rattle.std.specs.Prelude.{◌≡◌, true, ℕ, ◌+◌, List, [], ◌∷◌, map, Some}
use Rattle.std.specs.List.{flat_map}
use Rattle.std.specs.FinMap as maps
use Rattle.room_types.specs.Choices.{IsChoices}
use Rattle.room_types.specs.Texts.{Text, TextMap}
use Rattle.room_types.specs.declared.moves.Move.{Move}
use Rattle.office_state.specs.Office.Moves.{RoundMap}
use Rattle.office_state.specs.declared.office.moves.Moved.{Moved}
use Rattle.office_state.specs.declared.office.moves.RoundMoves.{RoundMoves}
use Rattle.office_state.specs.declared.office.person.Person.{Person}
use Rattle.office_schema.specs.declared.rows.records.ChoiceRecord.{ChoiceRecord}
use Rattle.office_schema.specs.declared.rows.records.PersonRecord.{PersonRecord}
use Rattle.office_schema.specs.declared.rows.records.RoundRecord.{RoundRecord}

-- the row of a person
abbrev pub row_of_person : TextMap (Unit {0}) → Text × Person → PersonRecord
row_of_person withdrawn e =
    record { id = e.0; person = e.1; withdrawn = maps.contains_key withdrawn e.0 }

-- a row for each person
abbrev pub rows_of_people : TextMap Person → TextMap (Unit {0}) → List PersonRecord
rows_of_people people withdrawn = map (row_of_person withdrawn) (maps.entries people)

-- The row of the round holds this version.
abbrev pub IsOfVersion : ℕ → RoundRecord → Type 0
IsOfVersion version round = round.version ≡ version

-- the rows of table `round`: only the row of the round
abbrev pub only_row : RoundRecord → List RoundRecord
only_row round = round ∷ []

-- the rows of a person's list; the first room has this place, and each next room has the next place
abbrev pub choices_from : Text → ℕ → List Text → List ChoiceRecord
choices_from person place [] = []
choices_from person place (code ∷ codes) =
    record { person = person; place = place; room = code } ∷ choices_from person (place + 1) codes

-- the rows of a person's list
abbrev pub list_rows : Text × List Text → List ChoiceRecord
list_rows e = choices_from e.0 0 e.1

-- the rows of all lists
abbrev pub choice_rows : TextMap (List Text) → List ChoiceRecord
choice_rows lists = flat_map list_rows (maps.entries lists)

-- the row of a move
abbrev pub row_of_move : ℕ → Text × Moved → Move
row_of_move round e =
    record { round = round; person = e.0; from = e.1.from; to = e.1.to; wave = e.1.wave }

-- the rows of a round's moves
abbrev pub round_rows : ℕ × RoundMoves → List Move
round_rows e = map (row_of_move e.0) (maps.entries e.1.by_person)

-- a row for each move of all rounds
abbrev pub rows_of_moves : RoundMap RoundMoves → List Move
rows_of_moves moves = flat_map round_rows (maps.entries moves)

-- a row for each key of a set
abbrev pub key_rows : TextMap (Unit {0}) → List Text
key_rows keys = map (λ e. e.0) (maps.entries keys)

-- The maps that rows can represent: only known people have withdrawn, no list is empty, and each recorded round has a
-- move.

-- Each person who has withdrawn is in `people`.
pub record AreStorablePeople (people : TextMap Person) (withdrawn : TextMap (Unit {0})) : Type 0 where
  pub withdrawers : (p : Text) → maps.contains_key withdrawn p ≡ true
      → maps.contains_key people p ≡ true

-- No list is empty. Each list has at most forty rooms, and no room twice.
pub record AreStorableLists (lists : TextMap (List Text)) : Type 0 where
  pub none_empty : (p : Text) → maps.get lists p ≡ Some [] → ⊥
  pub chosen : (p : Text) (codes : List Text) → maps.get lists p ≡ Some codes → IsChoices codes

-- Each recorded round has a move.
pub record AreStorableMoves (moves : RoundMap RoundMoves) : Type 0 where
  pub none_empty : (round : ℕ) (recorded : RoundMoves) → maps.get moves round ≡ Some recorded
      → recorded.by_person ≡ maps.empty → ⊥
