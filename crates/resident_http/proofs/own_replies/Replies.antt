-- A response depends only on the owner of the key and on public facts.
use Rattle.std.proofs.Common.{◌≡◌, ℕ, List, [], ◌∷◌, Bool, true, false, Option, Some, None, Result, Ok, Err, inl, inr}
use Rattle.std.proofs.Common.{refl, sym, ap, ◌∙◌, subst, map}
use Rattle.std.specs.Prelude.{◌&&◌, ◌||◌, not, if◌then◌else◌}
use Rattle.std.specs.Option.{is_some}
use Rattle.std.specs.List.{flat_map}
use Rattle.std.specs.FinMap as maps
use Rattle.serde_json.specs.Data.{array, member, no_members, object, string}
use Rattle.serde_json.specs.View.{items_of}
use Rattle.serde_json.specs.Written.{compact_text}
use Rattle.std.specs.Prelude.{codes}
use Rattle.room_types.specs.Rows.{state_text}
use Rattle.room_types.specs.Texts.{Text}
use Rattle.room_types.specs.declared.phase.Phase.{Phase}
use Rattle.room_types.specs.declared.fault.TypeFault.{TypeFault}
use Rattle.room_types.specs.declared.rows.RoomRow.{RoomRow}
use Rattle.room_types.specs.declared.rows.State.TheVariants.{Free, Occupied, Shut}
use Rattle.office_state.specs.Office.{has_withdrawn, is_going, is_shown, is_taken, knows_person, owner, recorded_result}
use Rattle.office_state.specs.Office.{sits_out}
use Rattle.office_state.specs.Office.Phases.{is_open, is_published}
use Rattle.office_state.specs.declared.office.Office.{Office}
use Rattle.office_state.specs.declared.office.person.Person.{Person}
use Rattle.office_core.specs.Command.{accepts, next, reply_to}
use Rattle.office_core.specs.Query.Personal as me
use Rattle.office_core.specs.Query.Overview as rooms
use Rattle.office_core.specs.Refusal.Checks.{first_refusal, room_checks}
use Rattle.office_core.specs.declared.command.Command.{Command}
use Rattle.office_core.specs.declared.command.Command.TheVariants.{SetChoices, Withdraw}
use Rattle.office_core.specs.declared.refusal.Refusal.{Refusal}
use Rattle.office_core.specs.declared.refusal.Refusal.TheVariants.{BadPhase, Going, UnknownPerson, Withdrawn}
use Rattle.office_core.specs.declared.reply.Reply.{Reply}
use Rattle.office_core.specs.declared.reply.Reply.TheVariants as reply
use Rattle.office_core.specs.declared.reply.Standing.{Standing}
use Rattle.office_core.specs.Requests.{Handles, answer_unless, answer_from, office_unless}
use Rattle.office_core.specs.declared.requests.Answer.{Answer as DeskAnswer}
use Rattle.office_core.specs.declared.requests.Answer.TheVariants as desk
use Rattle.resident_requests.specs.Answers.{Answer}
use Rattle.resident_requests.specs.Asks.{Asks, ask, fault, more}
use Rattle.resident_requests.specs.Bodies.{choices_data, choices_of_body, room_data, withdrawn_data}
use Rattle.resident_requests.specs.Faults.{success_answer}
use Rattle.resident_requests.specs.Routes.{Wanted, forbidden, route_of, unknown, wanted, wanted_of, with_key}
use Rattle.resident_requests.specs.Routes.{wrong_method}
use Rattle.resident_requests.specs.declared.method.Method.{Method}
use Rattle.resident_requests.specs.declared.routes.Route.{Route}
use Rattle.resident_requests.specs.declared.routes.Route.TheVariants as route
use Rattle.resident_http.specs.DueResponses.{rooms_answer, unavailable_answer}
use Rattle.resident_http.specs.OwnReply.{AgreeOnKey, AgreeOnPerson, RepliesByOwnRecord}
use Rattle.resident_http.specs.Serving.{Authenticates, AnswersWanted, Executes, Dispatches, Authorizes, ListsRooms}
use Rattle.resident_http.specs.Serving.{Records}

-- ---- what the owner of a key sees

published_if_shown : (p s : Bool) → (p && not s) ≡ true → p ≡ true
published_if_shown true s e = refl
published_if_shown false s e = e

same_if_shown : (s : Bool) (x y : Option Text) → (s ≡ true → x ≡ y) → (if s then x else None) ≡ (if s then y else None)
same_if_shown true x y h = h refl
same_if_shown false x y h = refl

shown_same : (a b : Office) (person : Text) → a.phase ≡ b.phase → AgreeOnPerson a b person
    → is_shown a person ≡ is_shown b person
shown_same a b person phase agree =
    ap (λ p. is_published p && not (sits_out a person)) phase
    ∙ ap (λ w. is_published b.phase && not (w || is_going a person)) agree.withdrawn
    ∙ ap (λ g. is_published b.phase && not (has_withdrawn b person || g)) agree.going

result_same : (a b : Office) (person : Text) → a.phase ≡ b.phase → AgreeOnPerson a b person
    → me.shown_result a person ≡ me.shown_result b person
result_same a b person phase agree =
    same_if_shown (is_shown a person) (recorded_result a person) (recorded_result b person)
    (λ e. agree.result (published_if_shown (is_published a.phase) (sits_out a person) e))
    ∙ ap (λ s. if s then recorded_result b person else None) (shown_same a b person phase agree)

standing_same : (a b : Office) (person : Text) (kept : Person) → a.number ≡ b.number → a.phase ≡ b.phase
    → AgreeOnPerson a b person
    → me.standing_of a person kept ≡ me.standing_of b person kept
standing_same a b person kept number phase agree =
    let choices = agree.choices in
    let withdrawn = agree.withdrawn in
    let going = agree.going in
    let shown = shown_same a b person phase agree in
    let result = result_same a b person phase agree in
    cc

person_answer_same : (a b : Office) (person : Text) (kept : Option Person) → a.number ≡ b.number → a.phase ≡ b.phase
    → AgreeOnPerson a b person
    → me.person_answer a person kept ≡ me.person_answer b person kept
person_answer_same a b person None number phase agree = refl
person_answer_same a b person (Some kept) number phase agree =
    ap (λ s. Ok (reply.Me s)) (standing_same a b person kept number phase agree)

owner_answer_same : (a b : Office) (found : Option Text) → a.number ≡ b.number → a.phase ≡ b.phase
    → ((person : Text) → found ≡ Some person → AgreeOnPerson a b person)
    → me.owner_answer a found ≡ me.owner_answer b found
owner_answer_same a b None number phase agree = refl
owner_answer_same a b (Some person) number phase agree =
    let own = agree person refl in
    person_answer_same a b person (maps.get a.people person) number phase own
    ∙ ap (me.person_answer b person) own.record_of

answer_same : (a b : Office) (key : Text) → a.number ≡ b.number → a.phase ≡ b.phase → AgreeOnKey a b key
    → me.owner_answer a (owner a key) ≡ me.owner_answer b (owner b key)
answer_same a b key number phase agree =
    owner_answer_same a b (owner a key) number phase agree.person ∙ ap (me.owner_answer b) agree.whose

-- the standing that is returned belongs to the key's owner
standing_of_person : (office : Office) (person : Text) (kept : Option Person) (standing : Standing)
    → me.person_answer office person kept ≡ Ok (reply.Me standing) → standing.person ≡ person
standing_of_person office person None standing e = absurd (cc)
standing_of_person office person (Some kept) standing e = ap person_in (sym e)
  where
    person_in : Result Reply Refusal → Text
    person_in (Ok (reply.Me s)) = s.person
    person_in _ = person

standing_of_owner : (office : Office) (found : Option Text) (standing : Standing)
    → me.owner_answer office found ≡ Ok (reply.Me standing) → found ≡ Some standing.person
standing_of_owner office None standing e = absurd (cc)
standing_of_owner office (Some person) standing e =
    ap Some (sym (standing_of_person office person (maps.get office.people person) standing e))

-- ---- the rooms

row_same : (a b : Office) (entry : Text × Bool) → ((room : Text) → is_taken a room ≡ is_taken b room)
    → room_data (rooms.room_row a entry) ≡ room_data (rooms.room_row b entry)
row_same a b entry occupied =
    ap (λ taken. object
    (member (codes "room") (string entry.0)
    (member (codes "state") (string (state_text (if entry.1 then Shut else (if taken then Occupied else Free))))
    no_members)))
    (occupied entry.0)

rows_same : (a b : Office) (entries : List (Text × Bool)) → ((room : Text) → is_taken a room ≡ is_taken b room)
    → map room_data (map (rooms.room_row a) entries) ≡ map room_data (map (rooms.room_row b) entries)
rows_same a b [] occupied = refl
rows_same a b (entry ∷ entries) occupied =
    ap (λ row. row ∷ map room_data (map (rooms.room_row a) entries)) (row_same a b entry occupied)
    ∙ ap (λ rows. room_data (rooms.room_row b entry) ∷ rows) (rows_same a b entries occupied)

rooms_same : (a b : Office) → a.rooms ≡ b.rooms → ((room : Text) → is_taken a room ≡ is_taken b room)
    → rooms_answer (rooms.room_rows a) ≡ rooms_answer (rooms.room_rows b)
rooms_same a b same occupied =
    let rows : map room_data (rooms.room_rows a) ≡ map room_data (rooms.room_rows b) =
    rows_same a b (maps.entries a.rooms) occupied
    ∙ ap (λ r. map room_data (map (rooms.room_row b) (maps.entries r))) same in
    ap (λ r. success_answer (compact_text (array (items_of r)))) rows

-- ---- commands

-- whether a list is refused depends only on the rooms, the phase, and what is recorded of the person
choosing_same : (a b : Office) (person : Text) (choices : List Text) → a.rooms ≡ b.rooms → a.phase ≡ b.phase
    → AgreeOnPerson a b person
    → accepts a (SetChoices person choices) ≡ accepts b (SetChoices person choices)
choosing_same a b person choices same phase agree =
    ap (λ p. accepts (record a { phase = p }) (SetChoices person choices)) phase
    ∙ ap (λ r. accepts (record a { phase = b.phase; rooms = r }) (SetChoices person choices)) same
    ∙ ap (λ k. refused_by (not (is_some k)) (has_withdrawn a person) (is_going a person)) agree.record_of
    ∙ ap (λ w. refused_by (not (knows_person b person)) w (is_going a person)) agree.withdrawn
    ∙ ap (λ g. refused_by (not (knows_person b person)) (has_withdrawn b person) g) agree.going
  where
    refused_by : (stranger withdrawn going : Bool) → Option Refusal
    refused_by stranger withdrawn going =
        first_refusal ((not (is_open b.phase), BadPhase b.phase) ∷ (stranger, UnknownPerson) ∷ (withdrawn, Withdrawn)
        ∷ (going, Going) ∷ flat_map (room_checks b) choices)

withdrawing_same : (a b : Office) (person : Text) → a.phase ≡ b.phase → AgreeOnPerson a b person
    → accepts a (Withdraw person) ≡ accepts b (Withdraw person)
withdrawing_same a b person phase agree =
    ap (λ p. refused_by p (not (knows_person a person)) (is_going a person)) phase
    ∙ ap (λ k. refused_by b.phase (not (is_some k)) (is_going a person)) agree.record_of
    ∙ ap (λ g. refused_by b.phase (not (knows_person b person)) g) agree.going
  where
    refused_by : Phase → (stranger going : Bool) → Option Refusal
    refused_by phase stranger going =
        first_refusal ((not (is_open phase), BadPhase phase) ∷ (stranger, UnknownPerson) ∷ (going, Going) ∷ [])

-- ---- responses

-- the other office changes to some office
abbrev Also : (Office → Type 0) → Type 0
Also P = (other : Office) × P other

Executes-same : (a b next : Office) (command : Command) (success : List ℕ) (answer : Answer)
    → accepts a command ≡ accepts b command → reply_to a command ≡ reply_to b command
    → Executes Handles command success a answer next → Also (λ other. Executes Handles command success b answer other)
Executes-same a b next_a command success answer same_refusal same_reply (inl h) = elim h.1 [
  | inl done ↦ (
    office_unless (accepts b command) b (next b command),
    inl (
      h.0,
      inl (
        done.0 ∙ ap (λ r. answer_unless r (reply_to a command)) same_refusal
            ∙ ap (answer_unless (accepts b command)) same_reply,
        refl,
      ),
      h.2,
    ),
  )
  | inr want ↦ (b, inl (h.0, inr (want.0, refl), h.2))
]
Executes-same a b next_a command success answer same_refusal same_reply (inr h) = (b, inr (h.0, refl))

records_same : (a b next : Office) (person : Text) (read : Result (List Text) TypeFault) (answer : Answer)
    → a.rooms ≡ b.rooms → a.phase ≡ b.phase → AgreeOnPerson a b person
    → Records Handles person read a answer next → Also (λ other. Records Handles person read b answer other)
records_same a b next person (Ok choices) answer same phase agree h =
    Executes-same a b next (SetChoices person choices) (compact_text (choices_data choices)) answer
    (choosing_same a b person choices same phase agree) refl h
records_same a b next person (Err cause) answer same phase agree h = (b, (h.0, refl))

lists_same : (a b next : Office) (answer : Answer) → a.rooms ≡ b.rooms
    → ((room : Text) → is_taken a room ≡ is_taken b room)
    → ListsRooms Handles a answer next → Also (λ other. ListsRooms Handles b answer other)
lists_same a b next answer same occupied h = elim h.1 [
  | inl done ↦ elim h.2 [
    | inl returned ↦ (
      b,
      (
        desk.Reply (reply.Rooms (rooms.room_rows b)),
        inl (refl, refl),
        inl (
          rooms.room_rows b,
          refl,
          returned.2
              ∙ ap rooms_answer (rows_returned returned.0 (rooms.room_rows a) (sym returned.1 ∙ done.0))
              ∙ rooms_same a b same occupied,
        ),
      ),
    )
    | inr want ↦ (b, (desk.Unavailable, inr (refl, refl), inr want))
  ]
  | inr want ↦ elim h.2 [
    | inl returned ↦ absurd (let e = sym want.0 ∙ returned.1 in cc)
    | inr none ↦ (b, (desk.Unavailable, inr (refl, refl), inr none))
  ]
]
  where
    rows_returned : (r s : List RoomRow) → desk.Reply (reply.Rooms r) ≡ desk.Reply (reply.Rooms s) → r ≡ s
    rows_returned r s e = cc

module _ (a b : Office) (same : a.rooms ≡ b.rooms) (occupied : (room : Text) → is_taken a room ≡ is_taken b room)
    (number : a.number ≡ b.number) (phase : a.phase ≡ b.phase) where
  Dispatches-same : (route : Route) (standing : Standing) (body : List ℕ) (answer : Answer) (next : Office)
      → AgreeOnPerson a b standing.person
      → Dispatches Handles route standing body a answer next
      → Also (λ other. Dispatches Handles route standing body b answer other)
  Dispatches-same route.Standing standing body answer next agree h = (b, (h.0, refl))
  Dispatches-same route.Rooms standing body answer next agree h = lists_same a b next answer same occupied h
  Dispatches-same route.Withdrawal standing body answer next agree h =
      Executes-same a b next (Withdraw standing.person) (compact_text withdrawn_data) answer
      (withdrawing_same a b standing.person phase agree) refl h
  Dispatches-same route.Choices standing body answer next agree h =
      records_same a b next standing.person (choices_of_body body) answer same phase agree h

  -- after the desk's answer to whose the key is
  Authorizes-same : (route : Route) (key : Text) (body : List ℕ) (who : DeskAnswer) (answer : Answer) (next : Office)
      → AgreeOnKey a b key → who ≡ answer_from (me.owner_answer a (owner a key))
      → Authorizes Handles route body who a answer next
      → Also (λ other. Authorizes Handles route body who b answer other)
  Authorizes-same route key body who answer next agree returned (inl h) =
      let owner_is =
      standing_of_owner a (owner a key) h.0
      (reply_returned (me.owner_answer a (owner a key)) (reply.Me h.0) (sym returned ∙ h.1)) in
      let other = Dispatches-same route h.0 body answer next (agree.person h.0.person owner_is) h.2 in
      (other.0, inl (h.0, h.1, other.1))
    where
      reply_returned : (returned : Result Reply Refusal) (r : Reply) → answer_from returned ≡ desk.Reply r
          → returned ≡ Ok r
      reply_returned (Ok s) r e = cc
      reply_returned (Err cause) r e = absurd (cc)
  Authorizes-same route key body who answer next agree returned (inr (inl h)) = (b, inr (inl (h.0, h.1, refl)))
  Authorizes-same route key body who answer next agree returned (inr (inr h)) = (b, inr (inr (h.0, refl)))

  Authenticates-same : (route : Route) (key : Text) (body : List ℕ) (answer : Answer) (next : Office)
      → AgreeOnKey a b key
      → Authenticates Handles route key body a answer next
      → Also (λ other. Authenticates Handles route key body b answer other)
  Authenticates-same route key body answer next agree (inl h) = elim h.2 [
    | inl done ↦
        let here = subst (λ o. Authorizes Handles route body h.0 o answer next) done.1 h.3 in
        let other = Authorizes-same route key body h.0 answer next agree done.0 here in
        (other.0, inl (h.0, b, inl (done.0 ∙ ap answer_from (answer_same a b key number phase agree), refl), other.1))
    | inr want ↦ (
      b,
      inl (
        desk.Unavailable,
        b,
        inr (refl, refl),
        inr (inr (unserved route body h.0 answer h.1 next want.0 h.3, refl)),
      ),
    )
  ]
    where
      unserved : (route : Route) (body : List ℕ) (who : DeskAnswer) (answer : Answer) (old new : Office)
          → who ≡ desk.Unavailable → Authorizes Handles route body who old answer new → answer ≡ unavailable_answer
      unserved route body who answer old new e (inl g) = absurd (let d = sym e ∙ g.1 in cc)
      unserved route body who answer old new e (inr (inl g)) = absurd (let d = sym e ∙ g.0 in cc)
      unserved route body who answer old new e (inr (inr g)) = g.0
  Authenticates-same route key body answer next agree (inr h) = (b, inr (h.0, refl))

  wanted_same : (what : Wanted) (body : List ℕ) (answer : Answer) (next : Office)
      → ((route : Route) (key : Text) → what ≡ wanted route key → AgreeOnKey a b key)
      → AnswersWanted Handles what body a answer next → Also (λ other. AnswersWanted Handles what body b answer other)
  wanted_same unknown body answer next agree h = (b, (h.0, refl))
  wanted_same (wrong_method allow) body answer next agree h = (b, (h.0, refl))
  wanted_same forbidden body answer next agree h = (b, (h.0, refl))
  wanted_same (wanted route key) body answer next agree h =
      Authenticates-same route key body answer next (agree route key refl) h

-- a request that is routed has a key
keyed : (key : Option Text) (route r : Route) (k : Text) → with_key route key ≡ wanted r k → key ≡ Some k
keyed None route r k e = absurd (cc)
keyed (Some key) route r k e = cc

keyed_if : (t : Bool) (key : Option Text) (route r : Route) (allow : Method) (k : Text)
    → (if t then with_key route key else wrong_method allow) ≡ wanted r k → key ≡ Some k
keyed_if true key route r allow k e = keyed key route r k e
keyed_if false key route r allow k e = absurd (cc)

keyed_to : (method path : List ℕ) (key : Option Text) (found : Option Route) (r : Route) (k : Text)
    → route_of path ≡ found → wanted_of method path key ≡ wanted r k → key ≡ Some k
keyed_to method path key None r k found e = absurd (let d = rw found at e in cc)
keyed_to method path key (Some route) r k found e = keyed_if _ key route r _ k (rw found at e)

-- offices that agree serve the same responses
pub replies_by_own_record : RepliesByOwnRecord
replies_by_own_record a b bytes answer next agree (more, asks, h) = (b, (more, asks, (h.0, refl)))
replies_by_own_record a b bytes answer next agree (fault status, asks, h) = (b, (fault status, asks, (h.0, refl)))
replies_by_own_record a b bytes answer next agree (ask method path key body used, asks, h) =
    let own = λ (route : Route) (k : Text) (e : wanted_of method path key ≡ wanted route k).
    agree.own method path k body used
    (subst (λ o. Asks bytes (ask method path o body used))
    (keyed_to method path key (route_of path) route k refl e) asks) in
    let other =
    wanted_same a b agree.rooms agree.occupied agree.number agree.phase (wanted_of method path key) body answer
    next own h in
    (other.0, (ask method path key body used, asks, other.1))
