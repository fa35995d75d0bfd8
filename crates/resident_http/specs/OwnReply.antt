-- What a response to a resident depends on.
use Rattle.std.specs.Prelude.{◌≡◌, ℕ, true, List, Some}
use Rattle.std.specs.FinMap as map
use Rattle.room_types.specs.Texts.{Text}
use Rattle.office_state.specs.Office.{choices_of, has_withdrawn, is_going, is_taken, owner, recorded_result}
use Rattle.office_state.specs.Office.Phases.{is_published}
use Rattle.office_state.specs.declared.office.Office.{Office}
use Rattle.office_core.specs.Requests.{Handles}
use Rattle.resident_requests.specs.Answers.{Answer}
use Rattle.resident_requests.specs.Asks.{Asks, ask}
use Rattle.resident_http.specs.Serving.{Serves}

-- Two offices agree on what this person can learn about themselves: name, key, home, preference list, whether they
-- have withdrawn, and whether they leave the college. Once the round's results are published, the offices also agree
-- on this person's result. The grade may differ.
pub record AgreeOnPerson (a b : Office) (person : Text) : Type 0 where
  pub record_of : map.get a.people person ≡ map.get b.people person
  pub choices : choices_of a person ≡ choices_of b person
  pub withdrawn : has_withdrawn a person ≡ has_withdrawn b person
  pub going : is_going a person ≡ is_going b person
  pub result : is_published a.phase ≡ true → recorded_result a person ≡ recorded_result b person

-- The key has the same owner in both offices, or in both no owner. If it has an owner, the offices agree on that
-- person.
pub record AgreeOnKey (a b : Office) (key : Text) : Type 0 where
  pub whose : owner a key ≡ owner b key
  pub person : (person : Text) → owner a key ≡ Some person → AgreeOnPerson a b person

-- The offices agree on the rooms, on which rooms are occupied, and on the round and its phase. If the bytes are a
-- request with a key, `AgreeOnKey` also holds for this key.
pub record AgreeFor (bytes : List ℕ) (a b : Office) : Type 0 where
  pub rooms : a.rooms ≡ b.rooms
  pub occupied : (room : Text) → is_taken a room ≡ is_taken b room
  pub number : a.number ≡ b.number
  pub phase : a.phase ≡ b.phase
  pub own : (method path key body : List ℕ) (used : ℕ) → Asks bytes (ask method path (Some key) body used)
      → AgreeOnKey a b key

-- If `AgreeFor` holds for the bytes and two offices, each response that one office may serve to the bytes may also be
-- served by the other office.
abbrev pub RepliesByOwnRecord : Type 0
RepliesByOwnRecord =
    (a b : Office) (bytes : List ℕ) (answer : Answer) (next : Office) → AgreeFor bytes a b
    → Serves Handles bytes a answer next → (other : Office) × Serves Handles bytes b answer other

-- a response with status 503 leaves the office unchanged
abbrev pub KeepsWhereUnavailable : Type 0
KeepsWhereUnavailable =
    (office next : Office) (bytes : List ℕ) (answer : Answer) → Serves Handles bytes office answer next
    → answer.status ≡ 503 → next ≡ office
