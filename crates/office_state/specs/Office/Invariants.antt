-- The invariants of the office: what holds before and after each command.
use Rattle.std.specs.Prelude.{◌≡◌, ℕ, ◌≤◌, Bool, true, false, ◌&&◌, ◌||◌, not, List, [], Option, None, Some, length}
use Rattle.std.specs.List.{All}
use Rattle.std.specs.FinMap as map
use Rattle.room_types.specs.Choices.{IsChoices}
use Rattle.room_types.specs.Texts.{Text, TextMap}
use Rattle.room_types.specs.declared.moves.Wave.TheVariants.{Nth}
use Rattle.room_types.specs.declared.phase.Phase.{Phase}
use Rattle.office_state.specs.Office.Limits.{room_limit, people_limit, round_limit}
use Rattle.office_state.specs.Office.Limits.{label_limit, byte_limit}
use Rattle.office_lists.specs.Records.{record_limit}
use Rattle.office_state.specs.Office.Moves.{moves_of}
use Rattle.office_state.specs.Office.{had_by, is_over}
use Rattle.office_state.specs.Office.Phases.{is_idle, has_words, has_results}
use Rattle.office_state.specs.Round.{round_results}
use Rattle.office_state.specs.declared.office.stored_import.StoredImport.{StoredImport}
use Rattle.office_state.specs.declared.office.moves.Moved.{Moved}
use Rattle.office_state.specs.declared.office.moves.RoundMoves.{RoundMoves}
use Rattle.office_state.specs.declared.office.Office.{Office}
use Rattle.office_state.specs.declared.office.person.Person.{Person}

-- no two people share a text (a home or a key): `which` gives the text for a person
abbrev pub Unshared : (Person → Option Text) → TextMap Person → Type 0
Unshared which people =
    (p q text : Text) → had_by which people p ≡ Some text → had_by which people q ≡ Some text
    → p ≡ q

-- no room is the home of two people
abbrev pub HomesDiffer : Office → Type 0
HomesDiffer office = Unshared (λ p. p.home) office.people

-- each home is a known room that is not shut
abbrev pub HomesOpen : TextMap Bool → TextMap Person → Type 0
HomesOpen rooms people = (p room : Text) → had_by (λ p. p.home) people p ≡ Some room
    → map.get rooms room ≡ Some false

-- rooms and people: no two people share a key or a home, each home is a known room that is not shut, and the numbers
-- of rooms and of people are within their limits
pub record IsValidRegister (rooms : TextMap Bool) (people : TextMap Person) : Type 0 where
  pub keys : Unshared (λ p. Some p.key) people
  pub homes : Unshared (λ p. p.home) people
  pub homes_open : HomesOpen rooms people
  pub few_rooms : map.len rooms ≤ room_limit
  pub few_people : map.len people ≤ people_limit

-- preference lists and withdrawals: each person who has a list or has withdrawn is known, and each list has from one
-- to forty rooms, all known and none twice
pub record AreValidLists (rooms : TextMap Bool) (people : TextMap Person) (choices : TextMap (List Text))
    (withdrawn : TextMap (Unit {0})) : Type 0 where
  pub choosers : (p : Text) → map.contains_key choices p ≡ true → map.contains_key people p ≡ true
  pub listed : (p : Text) (codes : List Text) → map.get choices p ≡ Some codes
      → All (λ code. map.contains_key rooms code ≡ true) codes
  pub none_empty : (p : Text) → map.get choices p ≡ Some [] → ⊥
  pub chosen : (p : Text) (codes : List Text) → map.get choices p ≡ Some codes → IsChoices codes
  pub withdrawers : (p : Text) → map.contains_key withdrawn p ≡ true
      → map.contains_key people p ≡ true

-- the round: the round number is at most `round_limit`, and at least 1 while a round is under way; between rounds
-- there are no preference lists and no withdrawals
pub record IsValidRound (number : ℕ) (phase : Phase) (choices : TextMap (List Text))
    (withdrawn : TextMap (Unit {0})) : Type 0 where
  pub few_rounds : number ≤ round_limit
  pub numbered : is_idle phase ≡ false → 1 ≤ number
  pub idle_choices : is_idle phase ≡ true → choices ≡ map.empty
  pub idle_withdrawn : is_idle phase ≡ true → withdrawn ≡ map.empty

-- grades: each person with a grade is known, and grade 0 is not recorded
pub record AreValidGrades (people : TextMap Person) (grades : TextMap ℕ) : Type 0 where
  pub graded : (p : Text) → map.contains_key grades p ≡ true → map.contains_key people p ≡ true
  pub none_zero : (p : Text) → map.get grades p ≡ Some 0 → ⊥

-- those who leave the college: they are known and have not withdrawn, and there are none between rounds
pub record AreValidLeavers (phase : Phase) (people : TextMap Person) (withdrawn : TextMap (Unit {0}))
    (going : TextMap (Unit {0})) : Type 0 where
  pub leavers : (p : Text) → map.contains_key going p ≡ true → map.contains_key people p ≡ true
  pub apart : (p : Text) → map.contains_key going p ≡ true → map.contains_key withdrawn p ≡ false
  pub idle_going : is_idle phase ≡ true → going ≡ map.empty

-- words: before the draw there are none; from the draw on, each participant has a word and nobody else does
pub record AreValidWords (phase : Phase) (people : TextMap Person) (withdrawn : TextMap (Unit {0}))
    (going : TextMap (Unit {0})) (words : TextMap ℕ) : Type 0 where
  pub none : has_words phase ≡ false → words ≡ map.empty
  pub each : has_words phase ≡ true → (p : Text)
      → map.contains_key words p
      ≡ (map.contains_key people p && not (map.contains_key withdrawn p || map.contains_key going p))

-- results: before the rooms are traded there are none; afterwards they are what top trading cycles give for the
-- round's problem
pub record AreValidResults (office : Office) : Type 0 where
  pub none : has_results office.phase ≡ false → office.results ≡ map.empty
  pub given : has_results office.phase ≡ true → office.results ≡ round_results office

-- moves: each round in the table of moves is over and has at least one move, and each move without a new room has
-- wave 0
pub record AreValidMoves (office : Office) : Type 0 where
  pub over : (round : ℕ) → map.contains_key office.moves round ≡ true → is_over office round ≡ true
  pub none_empty : (round : ℕ) (kept : RoundMoves) → map.get office.moves round ≡ Some kept
      → kept.by_person ≡ map.empty → ⊥
  pub arrived : (round : ℕ) (p : Text) (moved : Moved)
      → map.get (moves_of office.moves round) p ≡ Some moved
      → moved.to ≡ None → moved.wave ≡ Nth 0

-- imported lists: there are at most `label_limit`, and each has at most `byte_limit` bytes and added at most
-- `record_limit` records
pub record AreValidImports (lists : TextMap StoredImport) : Type 0 where
  pub few : map.len lists ≤ label_limit
  pub short : (label : Text) (kept : StoredImport) → map.get lists label ≡ Some kept
      → length kept.bytes ≤ byte_limit
  pub counted : (label : Text) (kept : StoredImport) → map.get lists label ≡ Some kept
      → kept.count ≤ record_limit

-- the office satisfies all invariants, as it does before and after each command
pub record IsLawful (office : Office) : Type 0 where
  pub register : IsValidRegister office.rooms office.people
  pub lists : AreValidLists office.rooms office.people office.choices office.withdrawn
  pub round : IsValidRound office.number office.phase office.choices office.withdrawn
  pub grades : AreValidGrades office.people office.grades
  pub leavers : AreValidLeavers office.phase office.people office.withdrawn office.going
  pub words : AreValidWords office.phase office.people office.withdrawn office.going office.words
  pub results : AreValidResults office
  pub moves : AreValidMoves office
  pub kept : AreValidImports office.lists
