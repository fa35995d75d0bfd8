-- Other lists of participants: none of them gains, one or several together, and nobody is bossy.
use Rattle.std.proofs.Common.{◌≡◌, ℕ, ◌<◌, ◌≤◌, Bool, true, false, List, [], Option, Some, None}
use Rattle.std.proofs.Common.{length, get_or, refl, sym, ap, ◌∙◌, subst, inl, inr, le_refl}
use Rattle.std.proofs.Common.{slice_set, get_or-set_same, get_or-set_other, length-set}
use Rattle.std.specs.Option.{option_and_then, unwrap_or}
use Rattle.std.specs.List.{filter_map, slice_get}
use Rattle.std.specs.FinMap as maps
use Rattle.std.proofs.lemmas.Bool.{cases_eq}
use Rattle.std.proofs.lemmas.List.{ext_get_or}
use Rattle.room_types.specs.Choices.{IsChoices}
use Rattle.room_types.specs.Repeats.{first_repeated}
use Rattle.room_types.specs.Texts.{Text, TextMap, text_eq}
use Rattle.room_types.proofs.maps.TextMaps.{text_cases, get-put_same, get-put_other}
use Rattle.trade_line.specs.Market.{Market, IsMarket, list_of}
use Rattle.trade_line.specs.OtherList.{with_lists, IsListFor}
use Rattle.trade_line.specs.Rank.{rank}
use Rattle.trade_line.specs.TopTradingCycles.{gets}
use Rattle.trade_line.proofs.welfare.Groups.{groups_gain_nothing}
use Rattle.trade_line.proofs.welfare.Manipulation.{list_proof}
use Rattle.trade_line.proofs.welfare.OtherLists.{with_list_market}
use Rattle.trade_line.proofs.welfare.Welfare.{gets_assignment}
use Rattle.office_state.specs.Office.Invariants.{IsLawful}
use Rattle.office_state.specs.Office.{home_of, choices_of, recorded_result}
use Rattle.office_state.specs.Office.Phases.{has_results}
use Rattle.office_state.specs.Round.{is_participant, round_people, round_rooms, round_market}
use Rattle.office_state.specs.Round.{round_list, round_room, round_rank, result_of, result_by}
use Rattle.office_state.specs.Round.{number_in, before_own}
use Rattle.office_state.specs.Round.Lists.{with_choices, AreChoices, IsStrategyproofFor, OthersKeepList}
use Rattle.office_state.specs.Round.Lists.{NoneLosesBy, IsGroupStrategyproofFor, IsNonbossyFor}
use Rattle.office_state.specs.declared.office.Office.{Office}
use Rattle.office_state.proofs.round_problems.Names.{number_in-below, number_in-name, same-text_eq}
use Rattle.office_state.proofs.round_problems.People.{number_of_participant}
use Rattle.office_state.proofs.round_problems.Problem.{market_people, market_list, market-IsMarket}
use Rattle.office_state.proofs.round_problems.Problem.{lawful-IsMarket, codes_differ, fits}
use Rattle.office_state.proofs.round_outcomes.WellTraded.{recorded}
use Rattle.office_state.proofs.offices.Truths.{text_eq-same}
use Rattle.office_state.proofs.round_outcomes.Ranks.{person_at, within_participants, number_at, rank-result}
use Rattle.office_state.proofs.round_outcomes.Ranks.{result-numbered, takes_part, rank-given, result_by-numbered}
use Rattle.office_state.proofs.round_outcomes.Ranks.{no_gain-named}

-- ---- other lists of any participants

module _ (office : Office) (l : IsLawful office) (lists : TextMap (List Text))
    (good : AreChoices lists) where
  same_people : round_people (with_choices office lists) ≡ round_people office
  unfolding round_people
  same_people = refl

  same_rooms : round_rooms (with_choices office lists) ≡ round_rooms office
  unfolding round_rooms
  same_rooms = refl

  unrepeated : (person : Text) → first_repeated [] (choices_of (with_choices office lists) person)
      ≡ None
  unrepeated person =
      elim (maps.get lists person) as
      (λ o. maps.get lists person ≡ o → first_repeated [] (unwrap_or o []) ≡ None) [
        | None ↦ λ e. refl
        | Some codes ↦ λ e. (good person codes e).1
      ] refl

  other_market : IsMarket (round_market (with_choices office lists))
  other_market = market-IsMarket (with_choices office lists) l.register.homes
      (λ k d within. unrepeated (get_or (round_people (with_choices office lists)) k d))

  abbrev new_lists : List (List ℕ)
  new_lists = (round_market (with_choices office lists)).lists

  same_market : round_market (with_choices office lists)
      ≡ with_lists (round_market office) new_lists
  unfolding round_market round_people round_rooms
  same_market = refl

  new_market : IsMarket (with_lists (round_market office) new_lists)
  new_market = subst IsMarket same_market other_market

  -- the list of a number is the new list of the participant
  list_at : (n : ℕ) → n < (round_market office).people
      → list_of (with_lists (round_market office) new_lists) n
      ≡ round_list office (person_at office n)
      (choices_of (with_choices office lists) (person_at office n))
  list_at n h =
      market_list (with_choices office lists) n
      (subst (λ names. n < length names) (sym same_people) (within_participants office n h))
      ∙ (λ i. filter_map (number_in (same_rooms i))
      (before_own (home_of office (get_or (same_people i) n []))
      (choices_of (with_choices office lists) (get_or (same_people i) n []))))

  module _ (person : Text) (n : ℕ)
      (numbered : number_in (round_people office) person ≡ Some n) where
    other_result : result_of (with_choices office lists) person
        ≡ round_room office (gets (with_lists (round_market office) new_lists) n)
    other_result =
        result-numbered (with_choices office lists) other_market person n
        (ap (λ names. number_in names person) same_people ∙ numbered)
        ∙ (λ i. option_and_then (slice_get (same_rooms i)) (gets (same_market i) n))

    other_rank : round_rank office person (result_of (with_choices office lists) person)
        ≡ rank (round_market office) n (gets (with_lists (round_market office) new_lists) n)
    other_rank =
        let within : n < (round_market office).people =
        subst (λ k. n < k) (sym (market_people office))
        (number_in-below (round_people office) person n numbered) in
        ap (round_rank office person) other_result
        ∙ rank-given office (lawful-IsMarket office l) person n numbered
        (gets (with_lists (round_market office) new_lists) n)
        (λ r e. (gets_assignment (with_lists (round_market office) new_lists) new_market).known n r
        within e)

  -- if none in the group loses, everybody gets the same
  all_same : (group : Text → Bool) → OthersKeepList office group lists
      → NoneLosesBy office (result_of office) group lists
      → (person : Text) → is_participant office person ≡ true
      → result_of (with_choices office lists) person ≡ result_of office person
  all_same group keep none person part =
      let place : (n : ℕ) × (number_in (round_people office) person ≡ Some n) =
      number_of_participant office person part in
      let within : place.0 < (round_market office).people =
      subst (λ k. place.0 < k) (sym (market_people office))
      (number_in-below (round_people office) person place.0 place.1) in
      other_result person place.0 place.1
      ∙ ap (round_room office) (groups_gain_nothing (round_market office) (lawful-IsMarket office l)
      (λ n. group (person_at office n)) new_lists new_market keeps loses place.0 within)
      ∙ sym (result-numbered office (lawful-IsMarket office l) person place.0 place.1)
    where
      keeps : (n : ℕ) → n < (round_market office).people → group (person_at office n) ≡ false
          → list_of (with_lists (round_market office) new_lists) n ≡ list_of (round_market office) n
      keeps n h out = list_at n h ∙ ap (round_list office (person_at office n))
          (keep (person_at office n) (takes_part office n h) out)
          ∙ sym (market_list office n (within_participants office n h))

      loses : (n : ℕ) → n < (round_market office).people → group (person_at office n) ≡ true
          → rank (round_market office) n
          (gets (with_lists (round_market office) new_lists) n) ≤ rank (round_market office) n
          (gets (round_market office) n)
      loses n h y =
          subst (λ x. x ≤ rank (round_market office) n (gets (round_market office) n))
          (other_rank (person_at office n) n (number_at office n h))
          (subst (λ x. round_rank office (person_at office n)
          (result_of (with_choices office lists) (person_at office n)) ≤ x)
          (rank-result office (lawful-IsMarket office l) (person_at office n) n
          (number_at office n h)) (none (person_at office n) (takes_part office n h) y))

-- ---- another list of one participant

module _ (office : Office) (l : IsLawful office) (person : Text) (codes : List Text)
    (part : is_participant office person ≡ true) (fine : IsChoices codes) where
  abbrev put : TextMap (List Text)
  put = maps.insert office.choices person codes

  put_good : AreChoices put
  put_good q others e =
      elim (text_cases q person) as (λ _. IsChoices others) [
        | inl same ↦
            let these : codes ≡ others =
            ap (λ (o : Option (List Text)). unwrap_or o codes)
            (sym (get-put_same office.choices person codes) ∙ ap (maps.get put) (sym same)
            ∙ e) in
            subst IsChoices these fine
        | inr other ↦
            l.lists.chosen q others (sym (get-put_other office.choices person codes q other) ∙ e)
      ]

  own_choices : choices_of (with_choices office put) person ≡ codes
  own_choices =
      ap (λ (o : Option (List Text)). unwrap_or o []) (get-put_same office.choices person codes)

  other_choices : (q : Text) → (q ≡ person → ⊥)
      → choices_of (with_choices office put) q ≡ choices_of office q
  other_choices q apart =
      elim (text_cases q person) as (λ _. choices_of (with_choices office put) q
      ≡ choices_of office q) [
        | inl same ↦ absurd (apart same)
        | inr other ↦ ap (λ (o : Option (List Text)). unwrap_or o [])
            (get-put_other office.choices person codes q other)
      ]

  abbrev m : Market
  m = round_market office

  is_market : IsMarket m
  is_market = lawful-IsMarket office l

  module _ (n : ℕ) (numbered : number_in (round_people office) person ≡ Some n) where
    within : n < m.people
    within = subst (λ k. n < k) (sym (market_people office))
        (number_in-below (round_people office) person n numbered)

    new_same : new_lists office l put put_good
        ≡ slice_set m.lists n (round_list office person codes)
    new_same =
        ext_get_or [] (new_lists office l put put_good)
        (slice_set m.lists n (round_list office person codes))
        ((new_market office l put put_good).indexed.lists_len
        ∙ sym (length-set m.lists n (round_list office person codes) ∙ is_market.indexed.lists_len))
        (λ i h. each i (subst (λ k. i < k) (new_market office l put put_good).indexed.lists_len h))
      where
        each : (i : ℕ) → i < m.people → get_or (new_lists office l put put_good) i []
            ≡ get_or (slice_set m.lists n (round_list office person codes)) i []
        each i h =
            elim (cases_eq i n) [
              | inl e ↦
                  let named : person_at office i ≡ person = ap (person_at office) e
                  ∙ number_in-name (round_people office) person n [] numbered in
                  list_at office l put put_good i h
                  ∙ ap (λ p. round_list office p (choices_of (with_choices office put) p)) named
                  ∙ ap (round_list office person) own_choices
                  ∙ sym (get_or-set_same m.lists n (round_list office person codes) []
                  (subst (λ k. n < k) (sym is_market.indexed.lists_len) within))
                  ∙ ap (λ k. get_or (slice_set m.lists n (round_list office person codes)) k [])
                  (sym e)
              | inr d ↦
                  list_at office l put put_good i h
                  ∙ ap (round_list office (person_at office i))
                  (other_choices (person_at office i)
                  (λ same. d (let z : Some i ≡ Some n = sym (number_at office i h)
                  ∙ ap (number_in (round_people office)) same ∙ numbered in cc)))
                  ∙ sym (market_list office i (within_participants office i h))
                  ∙ sym (get_or-set_other m.lists n i (round_list office person codes) [] d)
            ]

  -- what another list gives is what the round gives if that list is recorded
  pub by_list : result_by office person codes ≡ result_of (with_choices office put) person
  by_list =
      let place : (n : ℕ) × (number_in (round_people office) person ≡ Some n) =
      number_of_participant office person part in
      result_by-numbered office is_market person place.0 place.1 codes
      ∙ ap (λ xs. round_room office (gets (with_lists m xs) place.0))
      (sym (new_same place.0 place.1))
      ∙ sym (other_result office l put put_good person place.0 place.1)

  own_best : round_rank office person (result_of office person) ≤ round_rank office person
      (result_by office person codes)
  own_best =
      let place : (n : ℕ) × (number_in (round_people office) person ≡ Some n) =
      number_of_participant office person part in
      let may : IsListFor m place.0 (round_list office person codes) =
      fits office person place.0 codes place.1 (codes_differ codes fine.1) in
      no_gain-named office is_market person place.0 place.1 codes may
      (list_proof m is_market place.0 (round_list office person codes) may.0.0
      (with_list_market m is_market place.0 (round_list office person codes) may))
      (result_by office person codes) (result_by-numbered office is_market person place.0 place.1 codes)

  unbossy : result_by office person codes ≡ result_of office person → (other : Text)
      → is_participant office other ≡ true
      → result_of (with_choices office put) other ≡ result_of office other
  unbossy same =
      all_same office l put put_good (λ q. text_eq q person)
      (λ q takes out. other_choices q
      (λ e. let z : text_eq q person ≡ true = ap (λ p. text_eq p person) e
      ∙ text_eq-same person in cc))
      (λ q takes y.
      let e : q ≡ person = same-text_eq q person y in
      let gets_same : result_of (with_choices office put) q ≡ result_of office q =
      ap (result_of (with_choices office put)) e ∙ sym by_list ∙ same
      ∙ ap (result_of office) (sym e) in
      subst (λ room. round_rank office q room ≤ round_rank office q (result_of office q))
      (sym gets_same) (le_refl (round_rank office q (result_of office q))))

-- ---- the recorded results

module _ (office : Office) (l : IsLawful office) (there : has_results office.phase ≡ true) where
  pub own_list_best : IsStrategyproofFor office (recorded_result office)
  own_list_best person codes part fine =
      subst (λ room. round_rank office person room ≤ round_rank office person
      (result_by office person codes)) (sym (recorded office l there person part))
      (own_best office l person codes part fine)

  pub none_gain : IsGroupStrategyproofFor office (recorded_result office)
  none_gain group lists good keep none person part =
      all_same office l lists good group keep
      (λ q takes y. subst (λ room. round_rank office q
      (result_of (with_choices office lists) q) ≤ round_rank office q room)
      (recorded office l there q takes) (none q takes y)) person part
      ∙ sym (recorded office l there person part)

  pub none_bossy : IsNonbossyFor office (recorded_result office)
  none_bossy person codes part fine same other takes =
      unbossy office l person codes part fine
      (same ∙ recorded office l there person part) other takes
      ∙ sym (recorded office l there other takes)
