-- No group of a round's tenants has a better trade of its own rooms.
use Rattle.std.proofs.Common.{◌≡◌, ℕ, ◌<◌, ◌≤◌, Bool, true, ◌&&◌, [], Option, Some, ltb, ltb-true}
use Rattle.std.proofs.Common.{lt-ltb, sym, ap, ◌∙◌, subst}
use Rattle.std.specs.Option.{is_some, option_and_then}
use Rattle.std.proofs.lemmas.Bool.{and_parts, and_from}
use Rattle.room_types.specs.Texts.{Text}
use Rattle.room_types.proofs.options.Options.{some_of}
use Rattle.trade_line.specs.Market.{IsMarket, home}
use Rattle.trade_line.specs.Rank.{rank}
use Rattle.trade_line.specs.TopTradingCycles.{gets}
use Rattle.trade_line.specs.TradeApart.{TradesApart}
use Rattle.trade_line.proofs.welfare.Welfare.{gets_apart}
use Rattle.office_state.specs.Office.Invariants.{IsValidRegister}
use Rattle.office_state.specs.Office.{home_of}
use Rattle.office_state.specs.Round.{is_participant, round_people, round_rooms, round_market}
use Rattle.office_state.specs.Round.{round_home, round_room, round_rank, result_of, number_in}
use Rattle.office_state.specs.Round.Laws.{TradesOwnRooms, HasNoBetterTradeFor}
use Rattle.office_state.specs.declared.office.Office.{Office}
use Rattle.office_state.proofs.round_problems.Names.{number_in-below, number_in-name}
use Rattle.office_state.proofs.round_problems.People.{number_of_participant}
use Rattle.office_state.proofs.round_problems.Problem.{market_people, market_home}
use Rattle.office_state.proofs.round_problems.Rooms.{home_numbered}
use Rattle.office_state.proofs.round_outcomes.Ranks.{person_at, within_participants, number_at, named_again, rank-named}
use Rattle.office_state.proofs.round_outcomes.Ranks.{rank-result, result-numbered}

-- the number of a participant
record IsAt (office : Office) (person : Text) : Type 0 where
  number : ℕ
  numbered : number_in (round_people office) person ≡ Some number
  named : person_at office number ≡ person
  within : number < (round_market office).people

at : (office : Office) (person : Text) → is_participant office person ≡ true → IsAt office person
at office person part =
    let n : (n : ℕ) × (number_in (round_people office) person ≡ Some n) =
    number_of_participant office person part in
    record {
      number = n.0;
      numbered = n.1;
      named = number_in-name (round_people office) person n.0 [] n.1;
      within = subst (λ k. n.0 < k) (sym (market_people office))
          (number_in-below (round_people office) person n.0 n.1);
    }

module _ (office : Office) (l : IsValidRegister office.rooms office.people)
    (ok : IsMarket (round_market office)) (group : Text → Bool) (gives : Text → Option Text)
    (trade : TradesOwnRooms office group gives) where
  -- the group and its trade, by numbers
  abbrev members : ℕ → Bool
  members n = ltb n (round_market office).people && group (person_at office n)

  abbrev by_number : ℕ → Option ℕ
  by_number n = option_and_then (number_in (round_rooms office)) (gives (person_at office n))

  parts : (n : ℕ) → members n ≡ true
      → (n < (round_market office).people) × (group (person_at office n) ≡ true)
  parts n h =
      let b : (ltb n (round_market office).people ≡ true) × (group (person_at office n) ≡ true) =
      and_parts (ltb n (round_market office).people) (group (person_at office n)) h in
      (ltb-true n (round_market office).people b.0, b.1)

  member_by_number : (person : Text) → group person ≡ true → (place : IsAt office person)
      → members place.number ≡ true
  member_by_number person h place =
      and_from (ltb place.number (round_market office).people)
      (group (person_at office place.number))
      (lt-ltb place.number (round_market office).people place.within)
      (subst (λ z. group z ≡ true) (sym place.named) h)

  -- what a member gets is a room of the round
  known : (person : Text) → group person ≡ true → (room : Text) → gives person ≡ Some room
      → is_some (number_in (round_rooms office) room) ≡ true
  known person h room e =
      let other : (other : Text) × (group other ≡ true) × (gives person ≡ home_of office other) =
      trade.own person h in
      home_numbered office other.0 room l (trade.participants other.0 other.1) (sym other.2 ∙ e)

  house : (n : ℕ) → n < (round_market office).people
      → home (round_market office) n ≡ round_home office (person_at office n)
  house n h = market_home office n (within_participants office n h)

  trades : TradesApart (round_market office) members by_number
  trades = record {
    people = λ n h. (parts n h).0;
    tenants = λ n h.
        let b = parts n h in
        let room : (room : Text) × (home_of office (person_at office n) ≡ Some room) =
        trade.tenants (person_at office n) b.1 in
        let r : (r : ℕ) × (number_in (round_rooms office) room.0 ≡ Some r) =
        some_of (number_in (round_rooms office) room.0)
        (home_numbered office (person_at office n) room.0 l
        (trade.participants (person_at office n) b.1) room.1) in
        (r.0, house n b.0 ∙ ap (option_and_then (number_in (round_rooms office))) room.1 ∙ r.1);
    own = λ n h.
        let b = parts n h in
        let other : (other : Text) × (group other ≡ true)
        × (gives (person_at office n) ≡ home_of office other) =
        trade.own (person_at office n) b.1 in
        let place : IsAt office other.0 =
        at office other.0 (trade.participants other.0 other.1) in (
          place.number,
          member_by_number other.0 other.1 place,
          ap
              (option_and_then (number_in (round_rooms office))) other.2
              ∙ ap (round_home office) (sym place.named) ∙ sym (house place.number place.within),
        );
    differ = λ n k hn hk e.
        let one = parts n hn in
        let two = parts k hk in
        let same : gives (person_at office n) ≡ gives (person_at office k) =
        sym (named_again office (gives (person_at office n)) (known (person_at office n) one.1))
        ∙ ap (round_room office) e ∙ named_again office (gives (person_at office k))
        (known (person_at office k) two.1) in
        let person : person_at office n ≡ person_at office k =
        trade.differ (person_at office n) (person_at office k) one.1 two.1 same in
        cc (sym (number_at office n one.0) ∙ ap (number_in (round_people office)) person
        ∙ number_at office k two.0);
  }

  none_apart : ((person : Text) → group person ≡ true
      → round_rank office person (gives person) ≤ round_rank office person
      (result_of office person))
      → (person : Text) → group person ≡ true → gives person ≡ result_of office person
  none_apart better person h =
      let place : IsAt office person = at office person (trade.participants person h) in
      sym (named_again office (gives person) (known person h))
      ∙ ap (λ p. round_room office (option_and_then (number_in (round_rooms office)) (gives p)))
      (sym place.named)
      ∙ ap (round_room office) (gets_apart
      (round_market office) ok members by_number trades ranked place.number
      (member_by_number person h place))
      ∙ sym (result-numbered office ok person place.number place.numbered)
    where
      ranked : (n : ℕ) → members n ≡ true
          → rank (round_market office) n (by_number n) ≤ rank (round_market office) n
          (gets (round_market office) n)
      ranked n hn =
          let b = parts n hn in
          let numbered = number_at office n b.0 in
          subst (λ x. x ≤ rank (round_market office) n (gets (round_market office) n))
          (rank-named office ok (person_at office n) n numbered (gives (person_at office n))
          (known (person_at office n) b.1))
          (subst (λ x. round_rank office (person_at office n) (gives (person_at office n)) ≤ x)
          (rank-result office ok (person_at office n) n numbered)
          (better (person_at office n) b.1))

pub no_better_trade : (office : Office) → IsValidRegister office.rooms office.people
    → IsMarket (round_market office) → HasNoBetterTradeFor office (result_of office)
no_better_trade office l ok group gives trade better person h =
    none_apart office l ok group gives trade better person h
