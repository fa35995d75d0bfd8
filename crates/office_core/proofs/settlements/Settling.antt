-- The changes of a settlement: the office that they lead to, that homes differ in between, and that they fit.
use Rattle.std.proofs.Common.{◌≡◌, ℕ, zero, suc, ◌<◌, true, false, List, [], ◌∷◌, ◌++◌, get_or}
use Rattle.std.proofs.Common.{map as map_list, Option, Some, None, cond, refl, ap, ◌∙◌, sym, subst, inl, inr, ◌⊎◌}
use Rattle.std.proofs.Common.{arith}
use Rattle.std.specs.Option.{option_map, option_and_then}
use Rattle.std.specs.List.{All}
use Rattle.std.specs.Ordering.{eq_by_cmp}
use Rattle.std.specs.FinMap as map
use Rattle.room_types.specs.Texts.{Text, TextMap, text_cmp}
use Rattle.room_types.proofs.maps.TextMaps.{unequal_texts, tied_text}
use Rattle.room_types.specs.declared.moves.Move.{Move}
use Rattle.office_state.specs.Change.{with_home, applied_all, HomesStayDistinct, AllFit}
use Rattle.office_state.specs.Office.Invariants.{HomesDiffer, Unshared}
use Rattle.office_state.specs.Office.Moves.{with_move}
use Rattle.office_state.specs.Round.Settlement.{with_moves}
use Rattle.office_state.specs.declared.change.Change.{Change}
use Rattle.office_state.specs.declared.change.Change.TheVariants.{AddMove}
use Rattle.office_state.specs.declared.office.Office.{Office}
use Rattle.office_state.specs.declared.office.person.Person.{Person}
use Rattle.office_state.proofs.offices.Homes.{moved}
use Rattle.office_state.proofs.moving_people.Relocations.{rehomed, rehomed_by, at_home, get-rehomed}
use Rattle.office_state.proofs.moving_people.Relocations.{left_people, arrived_people}
use Rattle.office_state.proofs.moving_people.Settling.{home_in, AreFresh}
use Rattle.office_core.specs.Command.Changes.{leaving, arriving}
use Rattle.office_core.proofs.settlements.Moving.{relocation_of, CameBefore, FindEmpty}

-- setting a home changes only the people
with_home-rehomed : (office : Office) (person : Text) (home : Option Text)
    → with_home office person home ≡ record office { people = rehomed office.people person home }
with_home-rehomed office person home =
    elim (map.get office.people person) as
    (λ o. moved office person home o
    ≡ record office { people = rehomed_by office.people person home o }) [
      | None ↦
          refl
      | Some kept ↦ refl
    ]

-- the office that the changes lead to
pub left-lead : (office : Office) (ms : List Move) (rest : List Change)
    → applied_all office (map_list leaving ms ++ rest)
    ≡ applied_all
    (record office { people = left_people office.people (map_list relocation_of ms) }) rest
left-lead office [] rest = refl
left-lead office (move ∷ others) rest =
    ap (λ o. applied_all o (map_list leaving others ++ rest))
    (with_home-rehomed office move.person None)
    ∙ left-lead (record office { people = rehomed office.people move.person None }) others rest

pub arrived-lead : (office : Office) (ms : List Move) (rest : List Change)
    → applied_all office (map_list arriving ms ++ rest)
    ≡ applied_all
    (record office { people = arrived_people office.people (map_list relocation_of ms) }) rest
arrived-lead office [] rest = refl
arrived-lead office (move ∷ others) rest =
    ap (λ o. applied_all o (map_list arriving others ++ rest))
    (with_home-rehomed office move.person move.to)
    ∙ arrived-lead (record office { people = rehomed office.people move.person move.to }) others rest

pub moves-lead : (office : Office) (moves : List Move) (rest : List Change)
    → applied_all office (map_list (λ move. AddMove move) moves ++ rest)
    ≡ applied_all (record office { moves = with_moves office.moves moves }) rest
moves-lead office [] rest = refl
moves-lead office (move ∷ moves) rest =
    moves-lead (record office { moves = with_move office.moves move }) moves rest

-- anyone who lives in a room after a person has moved is that person, or lived there before
lives_then : (people : TextMap Person) (person : Text) (home : Option Text) (q room : Text)
    → home_in (rehomed people person home) q ≡ Some room
    → ((q ≡ person) × (home ≡ Some room))
    ⊎ ((eq_by_cmp text_cmp q person ≡ false) × (home_in people q ≡ Some room))
lives_then people person home q room h =
    let at : option_and_then (λ (p : Person). p.home)
    (cond (eq_by_cmp text_cmp q person) (option_map (at_home home) (map.get people q))
    (map.get people q)) ≡ Some room = ap (option_and_then (λ p. p.home))
    (sym (get-rehomed people person home q)) ∙ h in
    elim (eq_by_cmp text_cmp q person) as
    (λ b. eq_by_cmp text_cmp q person ≡ b
    → option_and_then (λ (p : Person). p.home)
    (cond b (option_map (at_home home) (map.get people q)) (map.get people q)) ≡ Some room
    → ((q ≡ person) × (home ≡ Some room))
    ⊎ ((eq_by_cmp text_cmp q person ≡ false) × (home_in people q ≡ Some room))) [
      | true ↦ λ ties there. inl (tied_text q person ties, home_at (map.get people q) there)
      | false ↦ λ other there. inr (other, there)
    ] refl at
  where
    home_at : (o : Option Person)
        → option_and_then (λ p. p.home) (option_map (at_home home) o) ≡ Some room → home ≡ Some room
    home_at None h = cc
    home_at (Some kept) h = h

-- homes differ after a person has moved to a room where nobody else lives
rehomed-differ : (people : TextMap Person) (person : Text) (home : Option Text)
    → Unshared (λ p. p.home) people
    → ((q room : Text) → home ≡ Some room → home_in people q ≡ Some room → q ≡ person)
    → Unshared (λ p. p.home) (rehomed people person home)
rehomed-differ people person home apart own p q room hp hq =
    elim (lives_then people person home p room hp) as (λ _. p ≡ q) [
      | inl a ↦ elim (lives_then people person home q room hq) as (λ _. p ≡ q) [
        | inl b ↦ a.0 ∙ sym b.0
        | inr b ↦ a.0 ∙ sym (own q room a.1 b.1)
      ]
      | inr a ↦ elim (lives_then people person home q room hq) as (λ _. p ≡ q) [
        | inl b ↦ own p room b.1 a.1 ∙ sym b.0
        | inr b ↦ apart p q room a.1 b.1
      ]
    ]

stays_apart-along : (old new : Office) (changes : List Change) → old ≡ new → HomesStayDistinct new changes
    → HomesStayDistinct old changes
stays_apart-along old new changes same s = subst (λ o. HomesStayDistinct o changes) (sym same) s

pub left-apart : (office : Office) (ms : List Move) (rest : List Change) → HomesDiffer office
    → (HomesDiffer (record office { people = left_people office.people (map_list relocation_of ms) })
    → HomesStayDistinct (record office { people = left_people office.people (map_list relocation_of ms) }) rest)
    → HomesStayDistinct office (map_list leaving ms ++ rest)
left-apart office [] rest apart s = s apart
left-apart office (move ∷ others) rest apart s =
    let people : TextMap Person = rehomed office.people move.person None in (
      apart,
      stays_apart-along (with_home office move.person None) (record office { people = people })
          (map_list leaving others ++ rest) (with_home-rehomed office move.person None)
          (left-apart (record office { people = people }) others rest
          (rehomed-differ office.people move.person None apart (λ q room e. cc)) s),
    )

-- the new room of the move, if there is one, is the person's home among the outer people
abbrev pub Leads : TextMap Person → Move → Type 0
Leads outer move = (room : Text) → move.to ≡ Some room → home_in outer move.person ≡ Some room

-- after the first person has arrived, the others still find their rooms empty
others_find_empty : (people outer : TextMap Person) (move : Move) (others : List Move)
    → Unshared (λ p. p.home) outer → All (Leads outer) (move ∷ others)
    → FindEmpty (home_in people) (move ∷ others)
    → FindEmpty (home_in (rehomed people move.person move.to)) others
others_find_empty people outer move others apart lead empty k d within q room goes lives =
    elim (lives_then people move.person move.to q room lives) as (λ _. CameBefore others k d q) [
      | inl here ↦ inl (here.0 ∙ apart move.person (get_or others k d).person room
          (lead 0 d (omega arith) room here.1) (lead (suc k) d (omega (arith, within)) room goes))
      | inr there ↦ elim (empty (suc k) d (omega (arith, within)) q room goes there.1) as
          (λ _. CameBefore others k d q) [
            | inl own ↦ inl own
            | inr came ↦ earlier there.0 came.0 came.1 came.2
          ]
    ]
  where
    earlier : eq_by_cmp text_cmp q move.person ≡ false → (j : ℕ) → j < suc k
        → (get_or (move ∷ others) j d).person ≡ q → CameBefore others k d q
    earlier other zero low same = absurd (unequal_texts q move.person (sym same) other)
    earlier other (suc j) low same = inr (j, omega (arith, low), same)

pub arrived-apart : (office : Office) (outer : TextMap Person) (ms : List Move) (rest : List Change)
    → HomesDiffer office → Unshared (λ p. p.home) outer → All (Leads outer) ms
    → FindEmpty (home_in office.people) ms
    → HomesStayDistinct (record office { people = arrived_people office.people (map_list relocation_of ms) }) rest
    → HomesStayDistinct office (map_list arriving ms ++ rest)
arrived-apart office outer [] rest apart settled lead empty s = s
arrived-apart office outer (move ∷ others) rest apart settled lead empty s =
    let people : TextMap Person = rehomed office.people move.person move.to in (
      apart,
      stays_apart-along (with_home office move.person move.to) (record office { people = people })
          (map_list arriving others ++ rest) (with_home-rehomed office move.person move.to)
          (arrived-apart (record office { people = people }) outer others rest
          (rehomed-differ office.people move.person move.to apart
          (λ q room goes lives. elim (empty 0 move (omega arith) q room goes lives) as
          (λ _. q ≡ move.person)
          [ inl own ↦ own | inr came ↦ absurd (omega (arith, came.1)) ]))
          settled (λ k d within. lead (suc k) d (omega (arith, within)))
          (others_find_empty office.people outer move others settled lead empty) s),
    )

pub moves-apart : (office : Office) (moves : List Move) (rest : List Change) → HomesDiffer office
    → HomesStayDistinct (record office { moves = with_moves office.moves moves }) rest
    → HomesStayDistinct office (map_list (λ move. AddMove move) moves ++ rest)
moves-apart office [] rest unequal_texts s = s
moves-apart office (move ∷ moves) rest unequal_texts s = (
  unequal_texts,
  moves-apart (record office { moves = with_move office.moves move }) moves rest unequal_texts
      s,
)

-- the changes fit
pub left-fit : (first office : Office) (ms : List Move) (rest : List Change)
    → AllFit first
    (record office { people = left_people office.people (map_list relocation_of ms) }) rest
    → AllFit first office (map_list leaving ms ++ rest)
left-fit first office [] rest s = s
left-fit first office (move ∷ others) rest s = (
  tt,
  subst (λ o. AllFit first o (map_list leaving others ++ rest))
      (sym (with_home-rehomed office move.person None))
      (left-fit first (record office { people = rehomed office.people move.person None }) others
      rest s),
)

pub arrived-fit : (first office : Office) (ms : List Move) (rest : List Change)
    → AllFit first
    (record office { people = arrived_people office.people (map_list relocation_of ms) }) rest
    → AllFit first office (map_list arriving ms ++ rest)
arrived-fit first office [] rest s = s
arrived-fit first office (move ∷ others) rest s = (
  tt,
  subst (λ o. AllFit first o (map_list arriving others ++ rest))
      (sym (with_home-rehomed office move.person move.to))
      (arrived-fit first (record office { people = rehomed office.people move.person move.to })
      others rest s),
)

pub moves-fit : (first office : Office) (moves : List Move) (rest : List Change)
    → AreFresh office.moves moves → AllFit first
    (record office { moves = with_moves office.moves moves }) rest
    → AllFit first office (map_list (λ move. AddMove move) moves ++ rest)
moves-fit first office [] rest fresh s = s
moves-fit first office (move ∷ moves) rest fresh s = (
  fresh.0,
  moves-fit first (record office { moves = with_move office.moves move }) moves rest
      fresh.1 s,
)
