-- The rooms that participants get: they are not shut, are not the home of anybody who has withdrawn, and none
-- is given twice.
use Rattle.std.proofs.Common.{◌≡◌, ℕ, ◌+◌, ◌<◌, Bool, true, false, not, ◌&&◌, ◌||◌, List, []}
use Rattle.std.proofs.Common.{◌∷◌, length, get_or, map as map_list, Some, None, cond, refl, ap, ◌∙◌}
use Rattle.std.proofs.Common.{sym, subst, inl, inr, arith, T}
use Rattle.std.specs.Prelude.{unwrap_or}
use Rattle.std.specs.Option.{is_some, is_none, option_and_then}
use Rattle.std.specs.List.{All, filter, list_any}
use Rattle.std.specs.Ordering.{eq_by_cmp, is_eq, ordering_reverse}
use Rattle.std.specs.Cmp.{tied_itself}
use Rattle.std.specs.Cmp.Lexicographic.{nat_list_cmp_total}
use Rattle.std.specs.FinMap as map
use Rattle.std.specs.FinMap.{find, is_sorted, get-entries, entries_sorted}
use Rattle.std.proofs.lemmas.List.Elements.{All-nil, All-cons, All-map}
use Rattle.std.proofs.lemmas.List.Elements.{All-filter, All-get_or, filter_passes}
use Rattle.std.proofs.lemmas.Option.{slice_get-get_or}
use Rattle.std.proofs.lemmas.List.Folds.{list_any_none}
use Rattle.std.proofs.lemmas.Bool.{or_parts}
use Rattle.room_types.specs.Texts.{Text, text_cmp}
use Rattle.room_types.proofs.maps.TextMaps.{text_cases, first_holds, second_holds}
use Rattle.trade_line.specs.Market.{Market, IsMarket, home, list_of}
use Rattle.trade_line.specs.Rank.{rank}
use Rattle.trade_line.specs.TopTradingCycles.{gets}
use Rattle.trade_line.proofs.welfare.Ranks.{rank_home}
use Rattle.trade_line.proofs.welfare.Welfare.{gets_assignment, gets_rational}
use Rattle.office_state.specs.Office.Invariants.{IsValidRegister}
use Rattle.office_state.specs.Office.{home_of, has_withdrawn, lives_in, is_text}
use Rattle.office_state.specs.Round.{is_participant, round_people, round_rooms, round_market}
use Rattle.office_state.specs.Round.{round_home, round_room, result_of, number_in, is_kept_back}
use Rattle.office_state.specs.declared.office.Office.{Office}
use Rattle.office_state.specs.declared.office.person.Person.{Person}
use Rattle.office_state.proofs.round_problems.Names.{number_in-below, number_in-name, number_in-at}
use Rattle.office_state.proofs.round_problems.People.{number_of_participant, rooms_differ}
use Rattle.office_state.proofs.round_problems.People.{is_some-number_in}
use Rattle.office_state.proofs.offices.People.{found_above, held-is_text}
use Rattle.office_state.proofs.round_problems.Problem.{market_people, market_rooms, market_home}
use Rattle.office_state.proofs.offices.Truths.{text_eq-same}
use Rattle.office_state.proofs.round_outcomes.Ranks.{result-numbered, within}

-- each entry is what its key gives
pub found_each : {X : Type 0} (P : Text → X → Type 0) (es : List (Text × X))
    → T (is_sorted text_cmp es) → ((q : Text) (v : X) → find text_cmp q es ≡ Some v → P q v)
    → All (λ e. P e.0 e.1) es
found_each P [] s all = All-nil (λ e. P e.0 e.1)
found_each P (e ∷ es) s all =
    All-cons (λ e. P e.0 e.1) e es
    (all e.0 e.1 (ap (λ o. cond (is_eq o) (Some e.1) (find text_cmp e.0 es))
    (tied_itself nat_list_cmp_total e.0)))
    (found_each P es (second_holds _ _ s)
    (λ q v h. all q v (ap (λ o. cond (is_eq o) (Some e.1) (find text_cmp q es))
    (nat_list_cmp_total.antisymm q e.0
    ∙ ap ordering_reverse (found_above e.0 q es v (first_holds _ _ s) h)) ∙ h)))

both_not : (a b : Bool) → (not a && not b) ≡ true → (a ≡ false) × (b ≡ false)
both_not true b h = cc
both_not false true h = cc
both_not false false h = (refl, refl)

-- a room of the round is not shut, and nobody who has withdrawn lives there
pub rooms_open : (office : Office)
    → All (λ r. (map.get office.rooms r ≡ Some false) × (is_kept_back office r ≡ false))
    (round_rooms office)
unfolding round_rooms
rooms_open office =
    let test : Text × Bool → Bool = λ e. not e.1 && not (is_kept_back office e.0) in
    let P : Text → Type 0 =
    λ r. (map.get office.rooms r ≡ Some false) × (is_kept_back office r ≡ false) in
    let found : All (λ (e : Text × Bool). map.get office.rooms e.0 ≡ Some e.1)
    (map.entries office.rooms) =
    found_each (λ q v. map.get office.rooms q ≡ Some v) (map.entries office.rooms)
    (entries_sorted office.rooms) (λ q v h. get-entries office.rooms q ∙ h) in
    let kept = All-filter test (λ e. map.get office.rooms e.0 ≡ Some e.1)
    (map.entries office.rooms) found in
    let passed = filter_passes test (map.entries office.rooms) in
    All-map P (λ e. e.0) (filter test (map.entries office.rooms)) (λ k d b.
    let e = get_or (filter test (map.entries office.rooms)) k d in
    let parts = both_not e.1 (is_kept_back office e.0) (passed k d b) in
    (kept k d b ∙ ap (λ shut. Some shut) parts.0, parts.1))

module _ {X : Type 0} (test : Text × X → Bool) where
  -- an entry that is found and passes is among those that pass
  found_passes : (es : List (Text × X)) (q : Text) (v : X) → find text_cmp q es ≡ Some v
      → test (q, v) ≡ true → list_any (eq_by_cmp text_cmp q) (map_list (λ e. e.0) (filter test es))
      ≡ true
  found_passes [] q v h t = cc
  found_passes (e ∷ es) q v h t =
      let others : List Text = map_list (λ e. e.0) (filter test es) in
      elim (eq_by_cmp text_cmp q e.0) as
      (λ b. eq_by_cmp text_cmp q e.0 ≡ b → cond b (Some e.1) (find text_cmp q es) ≡ Some v
      → list_any (eq_by_cmp text_cmp q)
      (map_list (λ e. e.0) (cond (test e) (e ∷ filter test es) (filter test es))) ≡ true) [
        | true ↦ λ ties here.
            let same : q ≡ e.0 =
            elim (text_cases q e.0) as (λ _. q ≡ e.0) [ inl same ↦ same | inr other ↦ cc ] in
            let value : e.1 ≡ v = ap (λ o. unwrap_or o e.1) here in
            let passes : test e ≡ true = (λ i. test (sym same i, value i)) ∙ t in
            ap (λ b. list_any (eq_by_cmp text_cmp q)
            (map_list (λ e. e.0) (cond b (e ∷ filter test es) (filter test es)))) passes
            ∙ ap (λ b. b || list_any (eq_by_cmp text_cmp q) others) ties
        | false ↦ λ apart there.
            let rest = found_passes es q v there t in
            elim (test e) as (λ b. list_any (eq_by_cmp text_cmp q)
            (map_list (λ e. e.0) (cond b (e ∷ filter test es) (filter test es))) ≡ true) [
              | true ↦ ap (λ b. b || list_any (eq_by_cmp text_cmp q) others) apart ∙ rest
              | false ↦ rest
            ]
      ] refl h

kept_false : (left : Text → Bool) (lives : Person → Bool) (es : List (Text × Person)) (q : Text)
    (v : Person) → list_any (λ e. left e.0 && lives e.1) es ≡ false → find text_cmp q es ≡ Some v
    → (left q && lives v) ≡ false
kept_false left lives [] q v none h = cc
kept_false left lives (e ∷ es) q v none h =
    let parts =
    or_parts (left e.0 && lives e.1) (list_any (λ x. left x.0 && lives x.1) es) none in
    elim (eq_by_cmp text_cmp q e.0) as
    (λ b. eq_by_cmp text_cmp q e.0 ≡ b → cond b (Some e.1) (find text_cmp q es) ≡ Some v
    → (left q && lives v) ≡ false) [
      | true ↦ λ ties here.
          let same : q ≡ e.0 =
          elim (text_cases q e.0) as (λ _. q ≡ e.0) [ inl same ↦ same | inr other ↦ cc ] in
          let value : e.1 ≡ v = ap (λ o. unwrap_or o e.1) here in
          (λ i. left (same i) && lives (sym value i)) ∙ parts.0
      | false ↦ λ apart there. kept_false left lives es q v parts.1 there
    ] refl h

-- nobody who has withdrawn lives in a room that is not kept back
pub not_kept_back : (office : Office) (room q : Text) (v : Person)
    → is_kept_back office room ≡ false → map.get office.people q ≡ Some v
    → has_withdrawn office q ≡ true → v.home ≡ Some room → ⊥
not_kept_back office room q v free known left lives =
    let at : (has_withdrawn office q && lives_in room v) ≡ false =
    kept_false (has_withdrawn office) (lives_in room) (map.entries office.people) q v free
    (sym (get-entries office.people q) ∙ known) in
    let there : (has_withdrawn office q && lives_in room v) ≡ true =
    ap (λ b. b && lives_in room v) left ∙ ap (λ o. is_text o room) lives ∙ text_eq-same room in
    cc

-- the home of a participant is not kept back
home_free : (office : Office) (person room : Text) → IsValidRegister office.rooms office.people
    → has_withdrawn office person ≡ false → home_of office person ≡ Some room
    → is_kept_back office room ≡ false
home_free office person room l stays lives =
    list_any_none (λ e. has_withdrawn office e.0 && lives_in room e.1) (map.entries office.people)
    (found_each (λ q v. (has_withdrawn office q && lives_in room v) ≡ false)
    (map.entries office.people) (entries_sorted office.people) (λ q v h.
    elim (has_withdrawn office q) as
    (λ b. has_withdrawn office q ≡ b → (b && lives_in room v) ≡ false) [
      | true ↦ λ left. elim (lives_in room v) as (λ b. lives_in room v ≡ b → b ≡ false) [
        | true ↦ λ there.
            let known : map.get office.people q ≡ Some v = get-entries office.people q ∙ h in
            let same : q ≡ person =
            l.homes q person room (ap (option_and_then (λ p. p.home)) known
            ∙ held-is_text v.home room there) lives in
            let left_too : has_withdrawn office person ≡ true = ap (has_withdrawn office) (sym same)
            ∙ left in
            cc
        | false ↦ λ _. refl
      ] refl
      | false ↦ λ _. refl
    ] refl))

both_true : (a b : Bool) → (a && not b) ≡ true → (a ≡ true) × (b ≡ false)
both_true true true h = cc
both_true true false h = (refl, refl)
both_true false b h = cc

-- the home of a participant is a room of the round
pub home_numbered : (office : Office) (person room : Text) → IsValidRegister office.rooms office.people
    → is_participant office person ≡ true → home_of office person ≡ Some room
    → is_some (number_in (round_rooms office) room) ≡ true
unfolding round_rooms
home_numbered office person room l part lives =
    let free = home_free office person room l (or_parts _ _ (both_true _ _ part).1).0 lives in
    is_some-number_in (round_rooms office) room
    ∙ found_passes (λ e. not e.1 && not (is_kept_back office e.0))
    (map.entries office.rooms) room false
    (sym (get-entries office.rooms room) ∙ l.homes_open person room lives)
    (ap (λ b. not false && not b) free)

-- how a participant gets a room
pub record IsGiven (office : Office) (person room : Text) : Type 0 where
  pub person_number : ℕ
  pub room_number : ℕ
  pub is_person : number_in (round_people office) person ≡ Some person_number
  pub is_got : gets (round_market office) person_number ≡ Some room_number
  pub is_below : room_number < length (round_rooms office)
  pub is_room : get_or (round_rooms office) room_number [] ≡ room

module _ (office : Office) (ok : IsMarket (round_market office)) where
  room_at : (n r : ℕ) → n < (round_market office).people → gets (round_market office) n ≡ Some r
      → (r < length (round_rooms office))
      × (round_room office (Some r) ≡ Some (get_or (round_rooms office) r []))
  room_at n r below e =
      let known : r < length (round_rooms office) =
      subst (λ k. r < k) (market_rooms office)
      ((gets_assignment (round_market office) ok).known n r below e) in
      (known, slice_get-get_or (round_rooms office) r [] known)

  pub participant_is_given : (person room : Text) → is_participant office person ≡ true
      → result_of office person ≡ Some room → IsGiven office person room
  participant_is_given person room part result_is =
      let numbered = number_of_participant office person part in
      elim (gets (round_market office) numbered.0) as
      (λ o. gets (round_market office) numbered.0 ≡ o → round_room office o ≡ Some room
      → IsGiven office person room) [
        | None ↦ λ _ none. absurd (cc)
        | Some r ↦ λ got named.
            let at = room_at numbered.0 r (within office ok person numbered.0 numbered.1) got in
            record {
              person_number = numbered.0;
              room_number = r;
              is_person = numbered.1;
              is_got = got;
              is_below = at.0;
              is_room = ap (λ o. unwrap_or o (get_or (round_rooms office) r [])) (sym at.1 ∙ named);
            }
      ] refl (sym (result-numbered office ok person numbered.0 numbered.1) ∙ result_is)

  -- it is a room of the round
  pub given_numbered : (person room : Text) → is_participant office person ≡ true
      → result_of office person ≡ Some room → is_some (number_in (round_rooms office) room) ≡ true
  given_numbered person room part result_is =
      let g = participant_is_given person room part result_is in
      ap is_some (ap (number_in (round_rooms office)) (sym g.is_room)
      ∙ number_in-at (round_rooms office) g.room_number [] (rooms_differ office) g.is_below)

  -- the room is open, and nobody who has withdrawn lives there
  pub given_room_is_open : (person room : Text) → is_participant office person ≡ true
      → result_of office person ≡ Some room
      → (map.get office.rooms room ≡ Some false) × (is_kept_back office room ≡ false)
  given_room_is_open person room part result_is =
      let g = participant_is_given person room part result_is in
      let P : Text → Type 0 =
      λ r. (map.get office.rooms r ≡ Some false) × (is_kept_back office r ≡ false) in
      subst P g.is_room (All-get_or P (round_rooms office) g.room_number [] g.is_below
      (rooms_open office))

  -- nobody else gets it
  pub given_once : (p q room : Text) → is_participant office p ≡ true
      → is_participant office q ≡ true → result_of office p ≡ Some room
      → result_of office q ≡ Some room → p ≡ q
  given_once p q room part_p part_q is_p is_q =
      let a = participant_is_given p room part_p is_p in
      let b = participant_is_given q room part_q is_q in
      let same_room : a.room_number ≡ b.room_number =
      ap (λ o. unwrap_or o 0)
      (sym (number_in-at (round_rooms office) a.room_number [] (rooms_differ office) a.is_below)
      ∙ ap (number_in (round_rooms office)) (a.is_room ∙ sym b.is_room)
      ∙ number_in-at (round_rooms office) b.room_number [] (rooms_differ office) b.is_below) in
      let same_person : a.person_number ≡ b.person_number =
      (gets_assignment (round_market office) ok).differ a.person_number b.person_number
      a.room_number (within office ok p a.person_number a.is_person)
      (within office ok q b.person_number b.is_person)
      a.is_got (b.is_got ∙ ap (λ r. Some r) (sym same_room)) in
      sym (number_in-name (round_people office) p a.person_number [] a.is_person)
      ∙ ap (λ n. get_or (round_people office) n []) same_person
      ∙ number_in-name (round_people office) q b.person_number [] b.is_person

module _ (m : Market) (ok : IsMarket m) (p h : ℕ) (below : p < m.people)
    (lives : home m p ≡ Some h) where
  rank_nothing : rank m p None ≡ length (list_of m p) + 1
  rank_nothing = ap (λ o. cond (is_none o) (length (list_of m p)) (length (list_of m p) + 1)) lives

  -- a tenant gets some room
  tenant_served : gets m p ≡ None → ⊥
  tenant_served none =
      let least = gets_rational m ok p below in
      let got : rank m p (gets m p) ≡ length (list_of m p) + 1 =
      ap (rank m p) none ∙ rank_nothing in
      let floor : rank m p (home m p) ≡ length (list_of m p) = rank_home m ok p below in
      omega (arith, least, got, floor)

-- a tenant who takes part gets some room
pub tenant_gets : (office : Office) → IsMarket (round_market office) → (person room : Text)
    → IsValidRegister office.rooms office.people → is_participant office person ≡ true
    → home_of office person ≡ Some room
    → result_of office person ≡ None → ⊥
tenant_gets office ok person room l part lives none =
    let numbered = number_of_participant office person part in
    let n : ℕ = numbered.0 in
    let below : n < (round_market office).people =
    subst (λ k. n < k) (sym (market_people office))
    (number_in-below (round_people office) person n numbered.1) in
    let there : is_some (number_in (round_rooms office) room) ≡ true =
    home_numbered office person room l part lives in
    let house : home (round_market office) n ≡ number_in (round_rooms office) room =
    market_home office n (number_in-below (round_people office) person n numbered.1)
    ∙ ap (round_home office) (number_in-name (round_people office) person n [] numbered.1)
    ∙ ap (option_and_then (number_in (round_rooms office))) lives in
    let nothing : round_room office (gets (round_market office) n) ≡ None =
    sym (result-numbered office ok person n numbered.1) ∙ none in
    elim (number_in (round_rooms office) room) as
    (λ o. number_in (round_rooms office) room ≡ o → is_some o ≡ true → ⊥) [
      | None ↦ λ _ h. cc
      | Some h ↦ λ at _. tenant_served (round_market office) ok n h below (house ∙ at)
          (elim (gets (round_market office) n) as
          (λ o. gets (round_market office) n ≡ o → round_room office o ≡ None → o ≡ None) [
            | None ↦ λ _ _. refl
            | Some r ↦ λ got named. absurd
                (let named_too = (room_at office ok n r below got).1 in cc)
          ] refl nothing)
    ] refl there
