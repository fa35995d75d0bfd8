-- The office as finite maps, and queries on it.
pub mod Invariants
pub mod Limits
pub mod Moves
pub mod Phases
use Rattle.std.specs.Prelude.{ℕ, ◌+◌, Bool, true, false, ◌&&◌, ◌||◌, List, [], ◌∷◌, Option, None, Some}
use Rattle.std.specs.Prelude.{if◌then◌else◌, nat_le, eqb, not, map as map_list}
use Rattle.std.specs.Option.{is_some, unwrap_or, option_and_then}
use Rattle.std.specs.List.{filter, list_any}
use Rattle.std.specs.FinMap as map
use Rattle.room_types.specs.Texts.{Text, TextMap, text_eq}
use Rattle.room_types.specs.declared.phase.Phase.TheVariants.{Idle}
use Rattle.office_state.specs.Office.Phases.{is_idle, is_published}
use Rattle.office_state.specs.declared.office.Assigned.{Assigned}
use Rattle.office_state.specs.declared.office.Office.{Office}
use Rattle.office_state.specs.declared.office.person.Person.{Person}

-- the office with nothing in it, before the first round
abbrev pub empty_office : Office
empty_office = record {
  rooms = map.empty;
  people = map.empty;
  choices = map.empty;
  withdrawn = map.empty;
  words = map.empty;
  results = map.empty;
  moves = map.empty;
  lists = map.empty;
  grades = map.empty;
  going = map.empty;
  number = 0;
  phase = Idle;
}

-- the number of entries of all tables
abbrev pub entry_count : Office → ℕ
entry_count office =
    map.len office.rooms + map.len office.people + map.len office.choices
    + map.len office.withdrawn + map.len office.words + map.len office.results
    + map.len office.moves + map.len office.lists + map.len office.grades + map.len office.going

abbrev pub knows_room : Office → Text → Bool
knows_room office room = map.contains_key office.rooms room

abbrev pub knows_person : Office → Text → Bool
knows_person office person = map.contains_key office.people person

-- whether a room is known and shut
abbrev pub is_shut : Office → Text → Bool
is_shut office room = unwrap_or (map.get office.rooms room) false

-- the text (a home or a key) that `which` gives for a person; none if the person is unknown or has no home or key
abbrev pub had_by : (Person → Option Text) → TextMap Person → Text → Option Text
had_by which people person = option_and_then which (map.get people person)

abbrev pub is_text : Option Text → Text → Bool
is_text None text = false
is_text (Some other) text = text_eq other text

-- whether both are the same text, or both are none
abbrev pub is_same_text : Option Text → Option Text → Bool
is_same_text None None = true
is_same_text None (Some text) = false
is_same_text (Some text) other = is_text other text

-- the identifier of the first person in the list who passes the test, or none if nobody does
abbrev pub first_person : (Person → Bool) → List (Text × Person) → Option Text
first_person test [] = None
first_person test (e ∷ es) = if test e.1 then Some e.0 else first_person test es

-- the identifier of the first person, in order of identifier, for whom `which` gives this text; none if there is
-- nobody
abbrev pub holder : (Person → Option Text) → TextMap Person → Text → Option Text
holder which people text = first_person (λ p. is_text (which p) text) (map.entries people)

-- the home of a person, or none
abbrev pub home_of : Office → Text → Option Text
home_of office person = had_by (λ p. p.home) office.people person

abbrev pub lives_in : Text → Person → Bool
lives_in room person = is_text person.home room

-- the person who lives in a room, or none; if several do, the first by identifier
abbrev pub tenant : Office → Text → Option Text
tenant office room = holder (λ p. p.home) office.people room

-- the person who has this key, or none; if several do, the first by identifier
abbrev pub owner : Office → Text → Option Text
owner office key = holder (λ p. Some p.key) office.people key

-- whether at least one person has a home
abbrev pub has_tenants : Office → Bool
has_tenants office = list_any (λ e. is_some e.1.home) (map.entries office.people)

abbrev pub is_taken : Office → Text → Bool
is_taken office room = is_some (tenant office room)

abbrev pub key_in_use : Office → Text → Bool
key_in_use office key = is_some (owner office key)

-- whether a person has withdrawn from the round
abbrev pub has_withdrawn : Office → Text → Bool
has_withdrawn office person = map.contains_key office.withdrawn person

-- whether a person leaves the college after the round
abbrev pub is_going : Office → Text → Bool
is_going office person = map.contains_key office.going person

-- whether a person has withdrawn from the round or leaves the college
abbrev pub sits_out : Office → Text → Bool
sits_out office person = has_withdrawn office person || is_going office person

-- a person's recorded grade, or 0 if none is recorded
abbrev pub recorded_grade : Office → Text → ℕ
recorded_grade office person = unwrap_or (map.get office.grades person) 0

-- a person's recorded preference list, or the empty list if none is recorded
abbrev pub choices_of : Office → Text → List Text
choices_of office person = unwrap_or (map.get office.choices person) []

-- the room that is recorded as a person's result; none if no result is recorded, or if the result is no room
abbrev pub recorded_result : Office → Text → Option Text
recorded_result office person =
    option_and_then (λ (given : Assigned). given.room) (map.get office.results person)

-- the people who have not withdrawn and do not leave the college, in order of identifier
abbrev pub participants : Office → List Text
participants office =
    map_list (λ e. e.0) (filter (λ e. not (sits_out office e.0)) (map.entries office.people))

-- the people who have not withdrawn, in order of identifier: the participants, and those who leave the college
abbrev pub people_not_withdrawn : Office → List Text
people_not_withdrawn office =
    map_list (λ e. e.0) (filter (λ e. not (has_withdrawn office e.0)) (map.entries office.people))

-- whether a round has begun, and is neither settled nor cancelled
abbrev pub is_under_way : Office → ℕ → Bool
is_under_way office round = not (is_idle office.phase) && eqb round office.number

-- whether a round is settled or cancelled
abbrev pub is_over : Office → ℕ → Bool
is_over office round =
    nat_le 1 round && nat_le round office.number && not (is_under_way office round)

-- whether a person may see their result: the results are published, and the person has not withdrawn and does not
-- leave the college. The person need not be known.
abbrev pub is_shown : Office → Text → Bool
is_shown office person = is_published office.phase && not (sits_out office person)
