-- What each participant gets, and its rank.
use Rattle.std.proofs.Common.{◌≡◌, ℕ, ◌<◌, ◌≤◌, ◌+◌, true, cond, is_none, le_refl, arith}
use Rattle.std.proofs.Common.{List, [], length, get_or, Option, Some, None, refl}
use Rattle.std.proofs.Common.{sym, ap, ◌∙◌, subst}
use Rattle.std.specs.Option.{option_map, option_and_then, is_some, unwrap_or}
use Rattle.std.proofs.Math.Nat.{le_trans}
use Rattle.std.proofs.lemmas.Option.{slice_get-get_or}
use Rattle.room_types.specs.Texts.{Text}
use Rattle.trade_line.specs.Assignment.{IsAssignment}
use Rattle.trade_line.specs.Market.{IsMarket, home, list_of}
use Rattle.trade_line.specs.OtherList.{with_list, IsListFor}
use Rattle.trade_line.specs.Rank.{rank}
use Rattle.trade_line.specs.TopTradingCycles.{gets}
use Rattle.trade_line.proofs.welfare.OtherLists.{with_list_market}
use Rattle.trade_line.proofs.welfare.Welfare.{gets_assignment, gets_rational, gets_efficient}
use Rattle.office_state.specs.Office.{home_of}
use Rattle.office_state.specs.Round.{is_participant, round_people, round_rooms, round_market}
use Rattle.office_state.specs.Round.{round_home, round_room, round_list, result_of, result_by}
use Rattle.office_state.specs.Round.{round_rank, rank_by_number, number_in}
use Rattle.office_state.specs.Round.Laws.{IsRationalFor, IsRoundAssignment, IsEfficientFor}
use Rattle.office_state.specs.declared.office.Office.{Office}
use Rattle.office_state.proofs.round_problems.Names.{number_in-below, number_in-name, number_in-at}
use Rattle.office_state.proofs.round_problems.Names.{slice_get-number}
use Rattle.office_state.proofs.round_problems.People.{participant_number, number_of_participant}
use Rattle.office_state.proofs.round_problems.People.{rooms_differ, people_differ}
use Rattle.office_state.proofs.round_problems.Problem.{market_people, market_rooms, market_home}
use Rattle.office_state.proofs.offices.Truths.{then_some}

-- a room of the round, from its number to its name and back
number-round_room : (office : Office) (o : Option ℕ)
    → ((r : ℕ) → o ≡ Some r → r < length (round_rooms office))
    → option_and_then (number_in (round_rooms office)) (round_room office o) ≡ o
number-round_room office None known = refl
number-round_room office (Some r) known =
    ap (option_and_then (number_in (round_rooms office)))
    (slice_get-get_or (round_rooms office) r [] (known r refl))
    ∙ number_in-at (round_rooms office) r [] (rooms_differ office) (known r refl)

-- the room of a number is a room of the round
round_room-known : (office : Office) (o : Option ℕ)
    → ((r : ℕ) → o ≡ Some r → r < length (round_rooms office))
    → (room : Text) → round_room office o ≡ Some room
    → is_some (number_in (round_rooms office) room) ≡ true
round_room-known office None known room e = absurd (cc)
round_room-known office (Some r) known room e =
    ap is_some (ap (option_and_then (number_in (round_rooms office))) (sym e)
    ∙ number-round_room office (Some r) known)

module _ (office : Office) (ok : IsMarket (round_market office)) (person : Text) (n : ℕ)
    (numbered : number_in (round_people office) person ≡ Some n) where
  pub within : n < (round_market office).people
  within = subst (λ k. n < k) (sym (market_people office))
      (number_in-below (round_people office) person n numbered)

  rank-numbered : (room : Option Text)
      → round_rank office person room ≡ rank_by_number office n room
  unfolding round_rank
  rank-numbered room =
      ap (λ o. rank_by_number office (unwrap_or o (length (round_people office))) room) numbered

  -- the rank of a room by name is its rank by number
  pub rank-named : (room : Option Text)
      → ((name : Text) → room ≡ Some name → is_some (number_in (round_rooms office) name) ≡ true)
      → round_rank office person room
      ≡ rank (round_market office) n (option_and_then (number_in (round_rooms office)) room)
  rank-named room known = rank-numbered room ∙ by_room room known
    where
      by_number : (o : Option ℕ) → is_some o ≡ true
          → unwrap_or (option_map (λ r. rank (round_market office) n (Some r)) o)
          (length (list_of (round_market office) n) + 1) ≡ rank (round_market office) n o
      by_number None h = absurd (cc)
      by_number (Some r) h = refl

      by_room : (o : Option Text) → ((name : Text) → o ≡ Some name
          → is_some (number_in (round_rooms office) name) ≡ true)
          → rank_by_number office n o ≡ rank (round_market office) n
          (option_and_then (number_in (round_rooms office)) o)
      by_room None known = refl
      by_room (Some name) known = by_number (number_in (round_rooms office) name) (known name refl)

  pub rank-given : (o : Option ℕ) → ((r : ℕ) → o ≡ Some r → r < (round_market office).rooms)
      → round_rank office person (round_room office o) ≡ rank (round_market office) n o
  rank-given o known =
      let within_participants : (r : ℕ) → o ≡ Some r → r < length (round_rooms office) =
      λ r e. subst (λ k. r < k) (market_rooms office) (known r e) in
      rank-named (round_room office o) (round_room-known office o within_participants)
      ∙ ap (rank (round_market office) n) (number-round_room office o within_participants)

  pub result-numbered : result_of office person ≡ round_room office (gets (round_market office) n)
  unfolding result_of
  result-numbered = ap (option_and_then
      (λ number. round_room office (gets (round_market office) number))) numbered

  pub result_by-numbered : (codes : List Text)
      → result_by office person codes
      ≡ round_room office (gets (with_list (round_market office) n (round_list office person codes))
      n)
  unfolding result_by
  result_by-numbered codes =
      ap (option_and_then (λ number. round_room office
      (gets (with_list (round_market office) number (round_list office person codes)) number)))
      numbered

  pub rank-result : round_rank office person (result_of office person)
      ≡ rank (round_market office) n (gets (round_market office) n)
  rank-result =
      ap (round_rank office person) result-numbered
      ∙ rank-given (gets (round_market office) n)
      (λ r e. (gets_assignment (round_market office) ok).known n r within e)

  -- the room with another list does not rank above the result
  pub no_gain-named : (codes : List Text)
      → IsListFor (round_market office) n (round_list office person codes)
      → rank (round_market office) n (gets (round_market office) n) ≤ rank (round_market office) n
      (gets (with_list (round_market office) n (round_list office person codes)) n)
      → (room : Option Text) → room ≡ round_room office
      (gets (with_list (round_market office) n (round_list office person codes)) n)
      → round_rank office person (result_of office person) ≤ round_rank office person room
  no_gain-named codes fits least room is =
      let other = with_list (round_market office) n (round_list office person codes) in
      let ranked : round_rank office person room ≡ rank (round_market office) n (gets other n) =
      ap (round_rank office person) is
      ∙ rank-given (gets other n) (λ r e.
      (gets_assignment other (with_list_market (round_market office) ok n
      (round_list office person codes) fits)).known n r within e) in
      subst (λ k. k ≤ round_rank office person room) (sym rank-result)
      (subst (λ k. rank (round_market office) n (gets (round_market office) n) ≤ k)
      (sym ranked) least)

  -- nobody ranks the result below the home
  pub rational-named : round_rank office person (result_of office person) ≤ round_rank office person
      (home_of office person)
  rational-named =
      let lives : home (round_market office) n ≡ round_home office person =
      market_home office n (subst (λ k. n < k) (market_people office) within)
      ∙ ap (round_home office) (number_in-name (round_people office) person n [] numbered) in
      subst (λ k. k ≤ round_rank office person (home_of office person)) (sym rank-result)
      (le_trans (gets_rational (round_market office) ok n within)
      (subst (λ k. rank (round_market office) n (home (round_market office) n) ≤ k)
      (sym (rank-numbered (home_of office person))) (least (home_of office person) lives)))
    where
      -- a home outside the round ranks below all else
      by_number : (o : Option ℕ) → home (round_market office) n ≡ o
          → rank (round_market office) n (home (round_market office) n) ≤ unwrap_or
          (option_map (λ r. rank (round_market office) n (Some r)) o)
          (length (list_of (round_market office) n) + 1)
      by_number (Some r) e =
          subst (λ k. rank (round_market office) n (home (round_market office) n) ≤ k)
          (ap (rank (round_market office) n) e)
          (le_refl (rank (round_market office) n (home (round_market office) n)))
      by_number None e =
          let floor : rank (round_market office) n (home (round_market office) n)
          ≡ length (list_of (round_market office) n) =
          ap (rank (round_market office) n) e
          ∙ ap (λ b. cond b (length (list_of (round_market office) n))
          (length (list_of (round_market office) n) + 1)) (ap is_none e) in
          omega (arith, floor)

      least : (o : Option Text) → home (round_market office) n
          ≡ option_and_then (number_in (round_rooms office)) o
          → rank (round_market office) n (home (round_market office) n) ≤ rank_by_number office n o
      least None e = subst (λ k. rank (round_market office) n (home (round_market office) n) ≤ k)
          (ap (rank (round_market office) n) e)
          (le_refl (rank (round_market office) n (home (round_market office) n)))
      least (Some room) e = by_number (number_in (round_rooms office) room) e

pub outcome_is_rational : (office : Office) → IsMarket (round_market office)
    → IsRationalFor office (result_of office)
outcome_is_rational office ok person part =
    let place = number_of_participant office person part in
    rational-named office ok person place.0 place.1

-- ---- no better assignment

module _ (office : Office) where
  abbrev pub person_at : ℕ → Text
  person_at n = get_or (round_people office) n []

  pub within_participants : (n : ℕ) → n < (round_market office).people → n < length (round_people office)
  within_participants n h = subst (λ k. n < k) (market_people office) h

  pub number_at : (n : ℕ) → n < (round_market office).people
      → number_in (round_people office) (person_at n) ≡ Some n
  number_at n h = number_in-at (round_people office) n [] (people_differ office) (within_participants n h)

  pub takes_part : (n : ℕ) → n < (round_market office).people
      → is_participant office (person_at n) ≡ true
  takes_part n h = sym (participant_number office (person_at n)) ∙ ap is_some (number_at n h)

  -- a room of the round, or nothing, from its name to its number and back
  pub named_again : (o : Option Text)
      → ((name : Text) → o ≡ Some name → is_some (number_in (round_rooms office) name) ≡ true)
      → round_room office (option_and_then (number_in (round_rooms office)) o) ≡ o
  named_again None known = refl
  named_again (Some name) known =
      by_number (number_in (round_rooms office) name) refl (known name refl)
    where
      by_number : (o : Option ℕ) → number_in (round_rooms office) name ≡ o → is_some o ≡ true
          → round_room office o ≡ Some name
      by_number None e h = absurd (cc)
      by_number (Some r) e h = slice_get-number (round_rooms office) name r e

module _ (office : Office) (ok : IsMarket (round_market office)) (gives : Text → Option Text)
    (fits : IsRoundAssignment office gives) where
  -- the assignment by numbers
  by_number : ℕ → Option ℕ
  by_number n = option_and_then (number_in (round_rooms office)) (gives (person_at office n))

  by_number-IsAssignment : IsAssignment (round_market office) by_number
  unfolding by_number
  by_number-IsAssignment = record {
    known = λ n r h e.
        let room = then_some (number_in (round_rooms office)) (gives (person_at office n)) r e in
        subst (λ k. r < k) (sym (market_rooms office))
        (number_in-below (round_rooms office) room.0 r room.2);
    differ = λ n k r hn hk en ek.
        let room = then_some (number_in (round_rooms office)) (gives (person_at office n)) r en in
        let other = then_some (number_in (round_rooms office)) (gives (person_at office k)) r ek in
        let same : other.0 ≡ room.0 = sym (number_in-name (round_rooms office) other.0 r [] other.2)
        ∙ number_in-name (round_rooms office) room.0 r [] room.2 in
        let one : person_at office n ≡ person_at office k =
        fits.differ (person_at office n) (person_at office k) room.0 (takes_part office n hn)
        (takes_part office k hk) room.1 (other.1 ∙ ap (λ t. Some t) same) in
        cc (sym (number_at office n hn) ∙ ap (number_in (round_people office)) one
        ∙ number_at office k hk);
  }

  same_by_number : ((person : Text) → is_participant office person ≡ true
      → round_rank office person (gives person) ≤ round_rank office person
      (result_of office person))
      → (n : ℕ) → n < (round_market office).people → by_number n ≡ gets (round_market office) n
  unfolding by_number
  same_by_number better n h =
      gets_efficient (round_market office) ok by_number by_number-IsAssignment (λ k hk.
      let ranked : round_rank office (person_at office k) (gives (person_at office k))
      ≡ rank (round_market office) k (by_number k) =
      rank-named office ok (person_at office k) k (number_at office k hk)
      (gives (person_at office k)) (λ room e. fits.known (person_at office k) room
      (takes_part office k hk) e) in
      subst (λ x. x ≤ rank (round_market office) k (gets (round_market office) k)) ranked
      (subst (λ x. round_rank office (person_at office k) (gives (person_at office k)) ≤ x)
      (rank-result office ok (person_at office k) k (number_at office k hk))
      (better (person_at office k) (takes_part office k hk)))) n h

  pub none_better : ((person : Text) → is_participant office person ≡ true
      → round_rank office person (gives person) ≤ round_rank office person
      (result_of office person))
      → (person : Text) → is_participant office person ≡ true
      → gives person ≡ result_of office person
  unfolding by_number
  none_better better person part =
      let place = number_of_participant office person part in
      let here : get_or (round_people office) place.0 [] ≡ person =
      number_in-name (round_people office) person place.0 [] place.1 in
      let h : place.0 < (round_market office).people =
      subst (λ k. place.0 < k) (sym (market_people office))
      (number_in-below (round_people office) person place.0 place.1) in
      sym (named_again office (gives person) (λ room e. fits.known person room part e))
      ∙ ap (λ p. round_room office (option_and_then (number_in (round_rooms office)) (gives p)))
      (sym here)
      ∙ ap (round_room office) (same_by_number better place.0 h)
      ∙ sym (result-numbered office ok person place.0 place.1)

pub outcome_is_efficient : (office : Office) → IsMarket (round_market office)
    → IsEfficientFor office (result_of office)
outcome_is_efficient office ok gives fits better person part =
    none_better office ok gives fits better person part
