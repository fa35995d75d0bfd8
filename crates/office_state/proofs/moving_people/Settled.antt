-- The office after a settlement: who moves where, and that the register and the moves obey the invariants.
use Rattle.std.proofs.Common.{◌≡◌, ◌≢◌, ℕ, suc, ◌+◌, ◌≤◌, ◌<◌, Bool, true, false, not, ◌&&◌, List, [], ◌∷◌, get_or}
use Rattle.std.proofs.Common.{length, map as map_list, Option, Some, None, cond, refl, ap, ◌∙◌, sym}
use Rattle.std.proofs.Common.{subst, inl, inr, arith}
use Rattle.std.specs.Prelude.{unwrap_or}
use Rattle.std.specs.Option.{is_some, option_map, option_and_then}
use Rattle.std.specs.List.{All, AllByRecursion, AllPairs, filter, range_with_len}
use Rattle.std.specs.declared.cmp.Ordering.TheVariants.{Less, Equal, Greater}
use Rattle.std.specs.Ordering.{nat_cmp, is_eq}
use Rattle.std.specs.Cmp.{nat_cmp_total}
use Rattle.std.specs.FinMap as map
use Rattle.std.specs.FinMap.{get-insert, get-empty, len-entries, get-entries, entries_sorted}
use Rattle.std.specs.FinMap.{nat_cmp-IsAntisymmetric}
use Rattle.std.proofs.lemmas.List.Elements.{All-map, All-filter, filter_passes, recursion_from_All}
use Rattle.std.proofs.lemmas.List.{length-map}
use Rattle.std.proofs.lemmas.List.Kept.{AllPairs-filter, AllPairs-cons}
use Rattle.std.proofs.lemmas.Bool.{and_parts}
use Rattle.room_types.specs.Texts.{Text, TextMap, text_cmp}
use Rattle.room_types.proofs.maps.TextMaps.{text_cases, get-put_same, get-put_other}
use Rattle.room_types.proofs.maps.TextMaps.{contains_key-put_same}
use Rattle.room_types.proofs.options.Options.{none_some}
use Rattle.room_types.specs.declared.moves.Move.{Move}
use Rattle.room_types.specs.declared.moves.Wave.{Wave}
use Rattle.room_types.specs.declared.moves.Wave.TheVariants.{Nth}
use Rattle.trade_line.specs.Market.{IsMarket}
use Rattle.office_lists.specs.Waves.{Relocation, NewRoomsDiffer, end_numbers, leavers, wave_of, waves_of}
use Rattle.office_lists.proofs.move_days.Leavers.{departing_wave}
use Rattle.office_state.specs.Office.Invariants.{IsValidRegister, Unshared}
use Rattle.office_state.specs.Office.Limits.{people_limit}
use Rattle.office_state.specs.Office.Moves.{RoundMap, moves_of, with_move}
use Rattle.office_state.specs.Office.{home_of, has_withdrawn, knows_person, people_not_withdrawn}
use Rattle.office_state.specs.Office.{recorded_result}
use Rattle.office_state.specs.Round.{is_participant, round_market, round_results, result_of}
use Rattle.office_state.specs.Round.{is_kept_back}
use Rattle.office_state.specs.Round.Settlement.{is_settled, changes_home, relocations, moves_with}
use Rattle.office_state.specs.Round.Settlement.{settled_people, with_moves}
use Rattle.office_state.specs.declared.office.moves.Moved.{Moved}
use Rattle.office_state.specs.declared.office.moves.RoundMoves.{RoundMoves}
use Rattle.office_state.specs.declared.office.Assigned.{Assigned}
use Rattle.office_state.specs.declared.office.Office.{Office}
use Rattle.office_state.specs.declared.office.person.Person.{Person}
use Rattle.office_state.proofs.moving_people.Relocations.{get-settled, home_settled, key_settled}
use Rattle.office_state.proofs.moving_people.Relocations.{len-settled}
use Rattle.office_state.proofs.round_problems.People.{not_withdrawn_differ}
use Rattle.office_state.proofs.round_outcomes.Results.{get-round_results}
use Rattle.office_state.proofs.round_problems.Rooms.{found_each, given_room_is_open, given_once, not_kept_back}
use Rattle.office_state.proofs.moving_people.Settling.{AreFresh, home_in, moves_of-with_move}
use Rattle.office_state.proofs.offices.Moves.{kept_moves}

abbrev Some_home : Person → Option Text
Some_home v = v.home

gone_then : (a b : Bool) → a ≡ true → (a && not b) ≡ false → b ≡ true
gone_then true true e h = refl
gone_then true false e h = cc
gone_then false b e h = cc

AllPairs-map : {X Y : Type 0} (R : Y → Y → Type 0) (f : X → Y) (xs : List X)
    → AllPairs (λ a b. R (f a) (f b)) xs → AllPairs R (map_list f xs)
AllPairs-map R f [] h = λ i j d before within. absurd (omega (arith, within))
AllPairs-map R f (x ∷ xs) h =
    AllPairs-cons R (f x) (map_list f xs)
    (All-map (R (f x)) f xs (λ k d b. h 0 (suc k) d (omega arith) (omega (arith, b))))
    (AllPairs-map R f xs (λ i j d before within. h (suc i) (suc j) d (omega (arith, before))
    (omega (arith, within))))

-- the settlement sets the homes of those who have not withdrawn
not_withdrawn_settled : (office : Office)
    → All (λ p. is_settled office p ≡ true) (people_not_withdrawn office)
not_withdrawn_settled office =
    let test : Text × Person → Bool = λ e. not (has_withdrawn office e.0) in
    let found : All (λ (e : Text × Person). knows_person office e.0 ≡ true)
    (map.entries office.people) =
    found_each (λ q v. knows_person office q ≡ true) (map.entries office.people)
    (entries_sorted office.people) (λ q v h. ap is_some (get-entries office.people q ∙ h)) in
    let kept =
    All-filter test (λ e. knows_person office e.0 ≡ true) (map.entries office.people) found in
    let passed = filter_passes test (map.entries office.people) in
    All-map (λ p. is_settled office p ≡ true) (λ e. e.0)
    (filter test (map.entries office.people)) (λ k d b. (λ i. kept k d b i && passed k d b i))

module _ (office : Office) (l : IsValidRegister office.rooms office.people)
    (ok : IsMarket (round_market office)) (results : office.results ≡ round_results office) where
  -- the recorded result is that of top trading cycles
  pub recorded_is : (p : Text) → is_participant office p ≡ true
      → recorded_result office p ≡ result_of office p
  recorded_is p part =
      ap (option_and_then (λ (given : Assigned). given.room))
      (ap (λ kept. map.get kept p) results ∙ get-round_results office p
      ∙ ap (λ b. cond b (Some (record { room = result_of office p })) None) part)

  -- a person with a room as the recorded result takes part, and top trading cycles give that room
  given_part : (p room : Text) → recorded_result office p ≡ Some room
      → (is_participant office p ≡ true) × (result_of office p ≡ Some room)
  given_part p room e =
      elim (is_participant office p) as
      (λ b. is_participant office p ≡ b
      → (is_participant office p ≡ true) × (result_of office p ≡ Some room)) [
        | true ↦ λ part. (part, sym (recorded_is p part) ∙ e)
        | false ↦ λ apart.
            let none : recorded_result office p ≡ None =
            ap (option_and_then (λ (given : Assigned). given.room))
            (ap (λ kept. map.get kept p) results ∙ get-round_results office p
            ∙ ap (λ b. cond b (Some (record { room = result_of office p })) None) apart) in
            absurd (none_some (recorded_result office p) room none e)
      ] refl

  -- those who move, with all that is known of them
  pub moving : All (λ p. is_settled office p ≡ true)
      (filter (changes_home office) (people_not_withdrawn office))
  moving =
      All-filter (changes_home office) (λ p. is_settled office p ≡ true) (people_not_withdrawn office)
      (not_withdrawn_settled office)

  -- each person who moves comes to their home after the settlement
  pub relocations_lead : All (λ (m : Relocation). (room : Text) → m.2 ≡ Some room
      → home_in (settled_people office) m.0 ≡ Some room) (relocations office)
  relocations_lead =
      All-map (λ (m : Relocation). (room : Text) → m.2 ≡ Some room
      → home_in (settled_people office) m.0 ≡ Some room)
      (λ p. (p, home_of office p, recorded_result office p))
      (filter (changes_home office) (people_not_withdrawn office))
      (λ k d b room e. comes _ (moving k d b) room e)
    where
      known : (p : Text) → is_settled office p ≡ true → knows_person office p ≡ true
      known p part = (and_parts (knows_person office p) (not (has_withdrawn office p)) part).0

      comes : (p : Text) → is_settled office p ≡ true → (room : Text)
          → recorded_result office p ≡ Some room
          → option_and_then (λ (v : Person). v.home) (map.get (settled_people office) p) ≡ Some room
      comes p part room e =
          ap (option_and_then (λ (v : Person). v.home)) (get-settled office p)
          ∙ elim (map.get office.people p) as
          (λ o. is_some o ≡ true → option_and_then (λ (v : Person). v.home)
          (option_map (λ kept. cond (is_settled office p)
          (record kept { home = recorded_result office p }) kept) o) ≡ Some room) [
            | None ↦ λ h. cc
            | Some kept ↦ λ _. ap (λ b. Some_home
                (cond b (record kept { home = recorded_result office p }) kept)) part ∙ e
          ] (known p part)

  -- those who move are different people, and no two of them get one room
  names_differ : AllPairs ◌≢◌ (filter (changes_home office) (people_not_withdrawn office))
  names_differ =
      AllPairs-filter ◌≢◌ (changes_home office) (people_not_withdrawn office) (not_withdrawn_differ office)

  pub relocations_differ : AllPairs (λ (a b : Relocation). a.0 ≢ b.0) (relocations office)
  relocations_differ = AllPairs-map (λ (a b : Relocation). a.0 ≢ b.0)
      (λ p. (p, home_of office p, recorded_result office p))
      (filter (changes_home office) (people_not_withdrawn office)) names_differ

  pub new_rooms_differ : NewRoomsDiffer (relocations office)
  new_rooms_differ =
      AllPairs-map (λ (a b : Relocation). (room : Text) → a.2 ≡ Some room → b.2 ≡ Some room → ⊥)
      (λ p. (p, home_of office p, recorded_result office p))
      (filter (changes_home office) (people_not_withdrawn office))
      (λ i j d before within room ea eb.
      let names : List Text = filter (changes_home office) (people_not_withdrawn office) in
      let first = given_part (get_or names i d) room ea in
      let second = given_part (get_or names j d) room eb in
      names_differ i j d before within
      (given_once office ok (get_or names i d) (get_or names j d) room first.0 second.0
      first.1 second.1))

  -- a room that is given is not shut, and nobody who has withdrawn lives there
  given_open : (p room : Text) → recorded_result office p ≡ Some room
      → (map.get office.rooms room ≡ Some false) × (is_kept_back office room ≡ false)
  given_open p room e =
      let part = given_part p room e in
      given_room_is_open office ok p room part.0 part.1

  -- homes differ after the settlement
  settled_homes : Unshared (λ p. p.home) (settled_people office)
  settled_homes p q room hp hq =
      elim (home_settled office p room hp) as (λ _. p ≡ q) [
        | inl a ↦ elim (home_settled office q room hq) as (λ _. p ≡ q) [
          | inl b ↦
              let first = given_part p room a.1 in
              let second = given_part q room b.1 in
              given_once office ok p q room first.0 second.0 first.1 second.1
          | inr b ↦ absurd (taken_twice p q room a b)
        ]
        | inr a ↦ elim (home_settled office q room hq) as (λ _. p ≡ q) [
          | inl b ↦ absurd (taken_twice q p room b a)
          | inr b ↦ l.homes p q room a.1 b.1
        ]
      ]
    where
      taken_twice : (p q room : Text)
          → (is_settled office p ≡ true) × (recorded_result office p ≡ Some room)
          → (is_settled office q ≡ false) × (home_of office q ≡ Some room) → ⊥
      taken_twice p q room a b =
          let free : is_kept_back office room ≡ false =
          (given_open p room a.1).1 in
          elim (map.get office.people q) as
          (λ o. map.get office.people q ≡ o
          → option_and_then (λ (v : Person). v.home) o ≡ Some room → ⊥) [
            | None ↦ λ _ h. cc
            | Some v ↦ λ known lives. not_kept_back office room q v free known
                (gone_then (knows_person office q) (has_withdrawn office q) (ap is_some known) b.0)
                lives
          ] refl b.1

  pub settled_register : IsValidRegister office.rooms (settled_people office)
  settled_register = record {
    keys = λ p q key hp hq. l.keys p q key (sym (key_settled office p) ∙ hp)
        (sym (key_settled office q) ∙ hq);
    homes = settled_homes;
    homes_open = λ p room h. elim (home_settled office p room h) as
        (λ _. map.get office.rooms room ≡ Some false) [
          | inl a ↦ (given_open p room a.1).0
          | inr a ↦ l.homes_open p room a.1
        ];
    few_rooms = l.few_rooms;
    few_people = subst (λ n. n ≤ people_limit) (sym (len-settled office)) l.few_people;
  }

both_by : {X : Type 0} (P Q R : X → Type 0) → ((x : X) → P x → Q x → R x) → (xs : List X)
    → AllByRecursion P xs → AllByRecursion Q xs → AllByRecursion R xs
both_by P Q R f [] p q = tt
both_by P Q R f (x ∷ xs) p q = (f x p.0 q.0, both_by P Q R f xs p.1 q.1)

-- moves of different people who have none in the round yet
pub fresh : (kept : RoundMap RoundMoves) (round : ℕ) (ms : List Relocation) (waves : List Wave)
    → AllByRecursion (λ (m : Relocation). map.contains_key (moves_of kept round) m.0 ≡ false) ms
    → AllPairs (λ (a b : Relocation). a.0 ≢ b.0) ms → AreFresh kept (moves_with round ms waves)
fresh kept round [] waves none pairs = tt
fresh kept round (m ∷ ms) [] none pairs = tt
fresh kept round (m ∷ ms) (wave ∷ waves) none pairs =
    let move : Move = record { round = round; person = m.0; from = m.1; to = m.2; wave = wave } in
    let value : Moved = record { from = m.1; to = m.2; wave = wave } in
    let others : AllByRecursion (λ (b : Relocation). m.0 ≢ b.0) ms =
    recursion_from_All (λ (b : Relocation). m.0 ≢ b.0) ms
    (λ k d b. pairs 0 (suc k) d (omega arith) (omega (arith, b))) in (
      none.0,
      fresh (with_move kept move) round ms waves
          (both_by (λ (b : Relocation). m.0 ≢ b.0)
          (λ (b : Relocation). map.contains_key (moves_of kept round) b.0 ≡ false)
          (λ (b : Relocation). map.contains_key (moves_of (with_move kept move) round) b.0 ≡ false)
          (λ b apart absent.
          ap (λ moves. map.contains_key moves b.0) (moves_of-with_move kept move)
          ∙ elim (text_cases b.0 m.0) as
          (λ _. map.contains_key (map.insert (moves_of kept round) m.0 value) b.0 ≡ false) [
            | inl same ↦ absurd (apart (sym same))
            | inr other ↦ ap is_some (get-put_other (moves_of kept round) m.0 value b.0 other)
                ∙ absent
          ])
          ms others none.1)
          (λ i j d before within. pairs (suc i) (suc j) d (omega (arith, before))
          (omega (arith, within))),
    )

-- the invariants on moves, for the rounds that may have any
pub record KeepsMoves (ok : ℕ → Bool) (moves : RoundMap RoundMoves) : Type 0 where
  pub over : (round : ℕ) → map.contains_key moves round ≡ true → ok round ≡ true
  pub none_empty : (round : ℕ) (kept : RoundMoves) → map.get moves round ≡ Some kept
      → kept.by_person ≡ map.empty → ⊥
  pub arrived : (round : ℕ) (p : Text) (moved : Moved)
      → map.get (moves_of moves round) p ≡ Some moved → moved.to ≡ None → moved.wave ≡ Nth 0

not_empty : (m : TextMap Moved) (p : Text) (v : Moved) → map.insert m p v ≡ map.empty → ⊥
not_empty m p v e =
    let there : map.contains_key (map.insert m p v) p ≡ true = contains_key-put_same m p v in
    let nowhere : map.contains_key (map.insert m p v) p ≡ false =
    ap (λ k. map.contains_key k p) e ∙ ap is_some (get-empty text_cmp p) in
    cc

with_move-keeps : (ok : ℕ → Bool) (moves : RoundMap RoundMoves) (move : Move) → KeepsMoves ok moves
    → ok move.round ≡ true → (move.to ≡ None → move.wave ≡ Nth 0) → KeepsMoves ok (with_move moves move)
with_move-keeps ok moves move l fine goes =
    let value : Moved = record { from = move.from; to = move.to; wave = move.wave } in
    let kept_now : RoundMoves =
    record { by_person = map.insert (moves_of moves move.round) move.person value } in
    record {
      over = λ round h. elim (nat_cmp round move.round) as
          (λ o. nat_cmp round move.round ≡ o
          → is_some (cond (is_eq o) (Some kept_now) (map.get moves round)) ≡ true
          → ok round ≡ true) [
            | Less ↦ λ _ there. l.over round there
            | Equal ↦ λ ties _. ap ok (nat_cmp-IsAntisymmetric round move.round ties) ∙ fine
            | Greater ↦ λ _ there. l.over round there
          ] refl (ap is_some (sym (get-insert nat_cmp_total moves move.round kept_now round)) ∙ h);
      none_empty = λ round kept h none. elim (nat_cmp round move.round) as
          (λ o. cond (is_eq o) (Some kept_now) (map.get moves round) ≡ Some kept → ⊥) [
            | Less ↦ λ there. l.none_empty round kept there none
            | Equal ↦ λ here.
                let same : kept_now ≡ kept = ap (λ o. unwrap_or o kept_now) here in
                not_empty (moves_of moves move.round) move.person value
                (ap (λ (k : RoundMoves). k.by_person) same ∙ none)
            | Greater ↦ λ there. l.none_empty round kept there none
          ] (sym (get-insert nat_cmp_total moves move.round kept_now round) ∙ h);
      arrived =
          λ round p moved h. elim (nat_cmp round move.round) as (λ o. nat_cmp round move.round ≡ o
          → map.get (kept_moves (cond (is_eq o) (Some kept_now) (map.get moves round))) p ≡ Some moved
          → moved.to ≡ None → moved.wave ≡ Nth 0) [
            | Less ↦ λ _ there. l.arrived round p moved there
            | Equal ↦ λ ties here. elim (text_cases p move.person) as
                (λ _. moved.to ≡ None → moved.wave ≡ Nth 0) [
                  | inl same ↦
                      let is : value ≡ moved =
                      ap (λ o. unwrap_or o value) (sym
                      (ap (map.get (map.insert (moves_of moves move.round) move.person value)) same
                      ∙ get-put_same (moves_of moves move.round) move.person value) ∙ here) in
                      λ nowhere. ap (λ (m : Moved). m.wave) (sym is)
                      ∙ goes (ap (λ (m : Moved). m.to) is ∙ nowhere)
                  | inr other ↦ l.arrived move.round p moved
                      (sym (get-put_other (moves_of moves move.round) move.person value p other)
                      ∙ here)
                ]
            | Greater ↦ λ _ there. l.arrived round p moved there
          ] refl (ap (λ o. map.get (kept_moves o) p)
          (sym (get-insert nat_cmp_total moves move.round kept_now round)) ∙ h);
    }

-- each person who moves without a new room has wave 0
abbrev pub LeaveFirst : List Relocation → List Wave → Type 0
LeaveFirst [] waves = Unit {0}
LeaveFirst (m ∷ ms) [] = Unit {0}
LeaveFirst (m ∷ ms) (wave ∷ waves) = (m.2 ≡ None → wave ≡ Nth 0) × LeaveFirst ms waves

leave_first_from : (wave : ℕ → Wave) (k : ℕ) (ms : List Relocation)
    → ((i : ℕ) (d : Relocation) → i < length ms → (get_or ms i d).2 ≡ None → wave (k + i) ≡ Nth 0)
    → LeaveFirst ms (map_list wave (range_with_len k (length ms)))
leave_first_from wave k [] h = tt
leave_first_from wave k (m ∷ ms) h =
    let here : k + 0 ≡ k = omega arith in (
      λ nowhere. ap wave (sym here) ∙ h 0 m (omega arith) nowhere,
      leave_first_from wave (k + 1) ms (λ i d low nowhere.
          let there : (k + 1) + i ≡ k + suc i = omega arith in
          ap wave there ∙ h (suc i) d (omega (arith, low)) nowhere),
    )

-- a person who gets no new room has wave 0
pub leave_first : (ms : List Relocation) → LeaveFirst ms (waves_of ms)
leave_first ms =
    leave_first_from (wave_of (end_numbers ms) (leavers ms)) 0 ms
    (λ i d low nowhere.
    let same : 0 + i ≡ i = omega arith in
    ap (wave_of (end_numbers ms) (leavers ms)) same ∙ departing_wave ms i d low nowhere)

pub with_moves-keeps : (ok : ℕ → Bool) (moves : RoundMap RoundMoves) (round : ℕ) (ms : List Relocation)
    (waves : List Wave) → KeepsMoves ok moves → ok round ≡ true
    → LeaveFirst ms waves
    → KeepsMoves ok (with_moves moves (moves_with round ms waves))
with_moves-keeps ok moves round [] waves l fine goes = l
with_moves-keeps ok moves round (m ∷ ms) [] l fine goes = l
with_moves-keeps ok moves round (m ∷ ms) (wave ∷ waves) l fine goes =
    let move : Move = record { round = round; person = m.0; from = m.1; to = m.2; wave = wave } in
    with_moves-keeps ok (with_move moves move) round ms waves
    (with_move-keeps ok moves move l fine goes.0) fine goes.1

fewer : {X : Type 0} (p : X → Bool) (xs : List X) → length (filter p xs) ≤ length xs
fewer p [] = omega arith
fewer p (x ∷ xs) =
    let rest = fewer p xs in
    elim (p x) as (λ b. length (cond b (x ∷ filter p xs) (filter p xs)) ≤ length (x ∷ xs)) [
      | true ↦ omega (arith, rest)
      | false ↦ omega (arith, rest)
    ]

-- at most all people move
pub few_relocations : (office : Office) → IsValidRegister office.rooms office.people
    → length (relocations office) ≤ people_limit
few_relocations office l =
    let few = l.few_people in
    let entries : length (map.entries office.people) ≡ map.len office.people =
    sym (len-entries office.people) in
    let part : length (people_not_withdrawn office)
    ≡ length (filter (λ e. not (has_withdrawn office e.0)) (map.entries office.people)) =
    length-map (filter (λ e. not (has_withdrawn office e.0)) (map.entries office.people))
    (λ e. e.0) in
    let out : length (relocations office) ≡ length (filter (changes_home office) (people_not_withdrawn office)) =
    length-map (filter (changes_home office) (people_not_withdrawn office))
    (λ p. (p, home_of office p, recorded_result office p)) in
    let a = fewer (λ (e : Text × Person). not (has_withdrawn office e.0))
    (map.entries office.people) in
    let b = fewer (changes_home office) (people_not_withdrawn office) in
    omega (arith, few, entries, part, out, a, b)
