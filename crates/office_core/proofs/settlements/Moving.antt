-- The moves in the order of the day. They move the same people, and each person finds the new room empty, once those
-- who swap have left.
use Rattle.std.proofs.Common.{◌≡◌, ℕ, zero, suc, ◌<◌, true, false, Bool, not, ◌||◌, ◌++◌, List, [], ◌∷◌, length, get_or}
use Rattle.std.proofs.Common.{map as map_list, Option, Some, None, cond, refl, ap, ◌∙◌, sym, subst, inl, inr, ◌⊎◌}
use Rattle.std.proofs.Common.{arith}
use Rattle.std.specs.Option.{is_some, option_and_then}
use Rattle.std.specs.List.{All, Contains, filter, list_any, position_or_len}
use Rattle.std.specs.Ordering.{eq_by_cmp, is_eq, is_lt, ordering_then}
use Rattle.std.specs.Cmp.{nat_cmp_is, tied_itself}
use Rattle.std.specs.Cmp.Lexicographic.{nat_list_cmp_total}
use Rattle.std.specs.declared.cmp.Ordering.TheVariants.{Less}
use Rattle.std.proofs.lemmas.Bool.{false≢true, cases_lt, or_parts, or_right}
use Rattle.std.proofs.lemmas.List.{get_or_default, get_or-map, length-map}
use Rattle.std.proofs.lemmas.List.Folds.{Any-from_list_any}
use Rattle.std.proofs.lemmas.List.FromFn.{get_or-map-range_with_len}
use Rattle.std.proofs.lemmas.List.Sorted.{All-permutation, Contains-permutation, list_any-IsPermutation, ranks_by}
use Rattle.std.proofs.lemmas.List.Sorted.{sorted_far}
use Rattle.std.proofs.lemmas.List.Sums.{passes_at_first}
use Rattle.room_types.specs.Ascending.{ascending}
use Rattle.room_types.proofs.maps.TextMaps.{tied_text}
use Rattle.room_types.specs.Texts.{Text, text_cmp}
use Rattle.room_types.specs.declared.moves.Move.{Move}
use Rattle.room_types.specs.declared.moves.Wave.{Wave}
use Rattle.room_types.specs.declared.moves.Wave.TheVariants.{Swap, Nth}
use Rattle.room_types.proofs.arranged.Arrangements.{arrangements_agree}
use Rattle.office_lists.specs.MoveDay.{is_swap, move_cmp, wave_cmp}
use Rattle.office_lists.specs.Waves.{Relocation, NewRoomsDiffer, leaver, leavers, end_numbers}
use Rattle.office_lists.specs.Waves.{next_entry, wave_of, waves_of}
use Rattle.office_lists.specs.Waves.{IsWave}
use Rattle.office_lists.proofs.move_days.Following.{number-later}
use Rattle.office_lists.proofs.move_days.Leavers.{length-waves_of, has_left, has_left_room, left_room, waves_agree}
use Rattle.office_lists.proofs.move_days.Leavers.{position_found}
use Rattle.office_lists.proofs.move_days.MoveDayLists.{move_total}
use Rattle.office_state.specs.Round.Settlement.{moves_with}
use Rattle.office_state.proofs.moving_people.Relocations.{relocates}
use Rattle.office_core.specs.Command.Changes.{first_out, departures, swaps}

-- a move as a relocation, without its round and wave
abbrev pub relocation_of : Move → Relocation
relocation_of move = (move.person, move.from, move.to)

-- ---- the same people

any_relocation : (ms : List Move) (q : Text)
    → relocates (map_list relocation_of ms) q ≡ list_any (λ (m : Move). eq_by_cmp text_cmp q m.person) ms
any_relocation [] q = refl
any_relocation (m ∷ ms) q = ap (λ b. eq_by_cmp text_cmp q m.person || b) (any_relocation ms q)

pub relocates-ascending : (ms : List Move) (q : Text)
    → relocates (map_list relocation_of (ascending move_cmp ms)) q ≡ relocates (map_list relocation_of ms) q
relocates-ascending ms q =
    any_relocation (ascending move_cmp ms) q
    ∙ sym (list_any-IsPermutation (λ (m : Move). eq_by_cmp text_cmp q m.person) ms
    (ascending move_cmp ms) (arrangements_agree move_cmp move_total ms).some.same_items)
    ∙ sym (any_relocation ms q)

-- a person of one of the moves that pass a test is a person of one of all moves
relocates-some : (test : Move → Bool) (ms : List Move) (q : Text)
    → relocates (map_list relocation_of (filter test ms)) q ≡ true → relocates (map_list relocation_of ms) q ≡ true
relocates-some test [] q h = h
relocates-some test (m ∷ ms) q h =
    elim (test m) as
    (λ b. relocates (map_list relocation_of (cond b (m ∷ filter test ms) (filter test ms))) q ≡ true
    → relocates (map_list relocation_of (m ∷ ms)) q ≡ true) [
      | true ↦ λ there. elim (eq_by_cmp text_cmp q m.person) as
          (λ b. (b || relocates (map_list relocation_of (filter test ms)) q) ≡ true
          → (b || relocates (map_list relocation_of ms) q) ≡ true) [
            | true ↦ λ _. refl
            | false ↦ relocates-some test ms q
          ] there
      | false ↦ λ there. or_right (eq_by_cmp text_cmp q m.person) _ (relocates-some test ms q there)
    ] h

relocates-append : (ms others : List Move) (q : Text)
    → relocates (map_list relocation_of (ms ++ others)) q
    ≡ (relocates (map_list relocation_of ms) q || relocates (map_list relocation_of others) q)
relocates-append [] others q = refl
relocates-append (m ∷ ms) others q =
    ap (λ b. eq_by_cmp text_cmp q m.person || b) (relocates-append ms others q)
    ∙ either (eq_by_cmp text_cmp q m.person) _ _
  where
    either : (a b c : Bool) → (a || (b || c)) ≡ ((a || b) || c)
    either true b c = refl
    either false b c = refl

-- a person who leaves before anybody arrives is a person of one of the moves
pub relocates-first_out : (ms : List Move) (q : Text)
    → relocates (map_list relocation_of (first_out ms)) q ≡ true → relocates (map_list relocation_of ms) q ≡ true
relocates-first_out ms q h =
    by (relocates (map_list relocation_of (departures ms)) q) (relocates (map_list relocation_of (swaps ms)) q)
    (relocates-some (λ move. not (is_some move.to)) ms q)
    (relocates-some (λ move. is_swap move.wave) ms q)
    (sym (relocates-append (departures ms) (swaps ms) q) ∙ h)
  where
    by : (a b : Bool) → (a ≡ true → relocates (map_list relocation_of ms) q ≡ true)
        → (b ≡ true → relocates (map_list relocation_of ms) q ≡ true) → (a || b) ≡ true
        → relocates (map_list relocation_of ms) q ≡ true
    by true b f g e = f refl
    by false b f g e = g e

-- a person who does not leave before anybody arrives does not swap
pub no_swap : (ms : List Move) (q : Text)
    → relocates (map_list relocation_of (first_out ms)) q ≡ false
    → relocates (map_list relocation_of (swaps ms)) q ≡ false
no_swap ms q h =
    (or_parts (relocates (map_list relocation_of (departures ms)) q) (relocates (map_list relocation_of (swaps ms)) q)
    (sym (relocates-append (departures ms) (swaps ms) q) ∙ h)).1

-- the person of a move whose wave is a swap is among those who swap
swap_at : (ms : List Move) (k : ℕ) (d : Move) → k < length ms → is_swap (get_or ms k d).wave ≡ true
    → relocates (map_list relocation_of (swaps ms)) (get_or ms k d).person ≡ true
swap_at [] k d within h = absurd (omega arith)
swap_at (m ∷ ms) zero d within h =
    ap (λ b. relocates (map_list relocation_of (cond b (m ∷ swaps ms) (swaps ms))) m.person) h
    ∙ ap (λ o. is_eq o || relocates (map_list relocation_of (swaps ms)) m.person)
    (tied_itself nat_list_cmp_total m.person)
swap_at (m ∷ ms) (suc k) d within h =
    let there = swap_at ms k d (omega (arith, within)) h in
    elim (is_swap m.wave) as
    (λ b. relocates (map_list relocation_of (cond b (m ∷ swaps ms) (swaps ms))) (get_or ms k d).person ≡ true) [
      | true ↦ or_right (eq_by_cmp text_cmp (get_or ms k d).person m.person) _ there
      | false ↦ there
    ]

-- a person who relocates has a position in the list
relocation_at : (ms : List Relocation) (q : Text) → relocates ms q ≡ true
    → (j : ℕ) × (j < length ms) × ((d : Relocation) → (get_or ms j d).0 ≡ q)
relocation_at ms q h =
    let there = Any-from_list_any (λ (m : Relocation). eq_by_cmp text_cmp q m.0) ms h in (
      there.0,
      there.2,
      λ d. ap (λ (m : Relocation). m.0) (get_or_default ms there.0 d there.1 there.2 ∙ there.3)
          ∙ sym (tied_text q there.1.0 there.4),
    )

-- ---- the moves of the relocations

pub relocations_of : (n : ℕ) (ms : List Relocation) (ws : List Wave) → length ws ≡ length ms
    → map_list relocation_of (moves_with n ms ws) ≡ ms
relocations_of n [] [] h = refl
relocations_of n [] (w ∷ ws) h = absurd (omega (arith, h))
relocations_of n (m ∷ ms) [] h = absurd (omega (arith, h))
relocations_of n (m ∷ ms) (w ∷ ws) h = ap (λ others. m ∷ others) (relocations_of n ms ws (omega (arith, h)))

pub length-moves_with : (n : ℕ) (ms : List Relocation) (ws : List Wave) → length ws ≡ length ms
    → length (moves_with n ms ws) ≡ length ms
length-moves_with n ms ws h =
    sym (length-map (moves_with n ms ws) relocation_of) ∙ ap length (relocations_of n ms ws h)

-- the move of relocation `k`
abbrev move_at : ℕ → List Relocation → List Wave → ℕ → Move
move_at n ms ws k =
    let m : Relocation = get_or ms k ([], None, None) in
    record { round = n; person = m.0; from = m.1; to = m.2; wave = get_or ws k Swap }

moves_with-at : (n : ℕ) (ms : List Relocation) (ws : List Wave) (k : ℕ) (d : Move) → length ws ≡ length ms
    → k < length ms → get_or (moves_with n ms ws) k d ≡ move_at n ms ws k
moves_with-at n [] ws k d h within = absurd (omega arith)
moves_with-at n (m ∷ ms) [] k d h within = absurd (omega (arith, h))
moves_with-at n (m ∷ ms) (w ∷ ws) zero d h within = refl
moves_with-at n (m ∷ ms) (w ∷ ws) (suc k) d h within =
    moves_with-at n ms ws k d (omega (arith, h)) (omega (arith, within))

pub all_moves : (P : Move → Type 0) (n : ℕ) (ms : List Relocation) (ws : List Wave) → length ws ≡ length ms
    → ((k : ℕ) → k < length ms → P (move_at n ms ws k)) → All P (moves_with n ms ws)
all_moves P n ms ws many h = λ k d within.
    let in' : k < length ms = omega (arith, within, length-moves_with n ms ws many) in
    subst P (sym (moves_with-at n ms ws k d many in')) (h k in')

-- ---- who comes before

-- `q` is the person of move `k`, or of one before it
abbrev pub CameBefore : List Move → ℕ → Move → Text → Type 0
CameBefore rows k d q =
    (q ≡ (get_or rows k d).person) ⊎ ((j : ℕ) × (j < k) × ((get_or rows j d).person ≡ q))

-- each person finds the new room empty: anyone who lives there is that person, or one who comes before
abbrev pub FindEmpty : (Text → Option Text) → List Move → Type 0
FindEmpty home rows = (k : ℕ) (d : Move) → k < length rows → (q room : Text)
    → (get_or rows k d).to ≡ Some room → home q ≡ Some room → CameBefore rows k d q

-- anyone who lives in the new room of this move is its person, or the person of a move below it
abbrev IsCleared : (Text → Option Text) → List Move → Move → Type 0
IsCleared home moves m = (q room : Text) → m.to ≡ Some room → home q ≡ Some room
    → (q ≡ m.person)
    ⊎ ((b : Move) × Contains moves b × (b.person ≡ q) × (is_lt (move_cmp b m) ≡ true))

pub empty_in_order : (home : Text → Option Text) (moves : List Move)
    → All (IsCleared home moves) moves → FindEmpty home (ascending move_cmp moves)
empty_in_order home moves h =
    let rows = ascending move_cmp moves in
    let so = (arrangements_agree move_cmp move_total moves).some in
    let each : All (IsCleared home moves) rows =
    All-permutation (IsCleared home moves) moves rows so.same_items h in
    λ k d within q room goes lives. elim (each k d within q room goes lives) as
    (λ _. CameBefore rows k d q) [
      | inl own ↦ inl own
      | inr below ↦
          let there : Contains rows below.0 =
          Contains-permutation moves rows below.0 so.same_items below.1 in
          let at : get_or rows there.0 d ≡ below.0 =
          get_or_default rows there.0 d below.0 there.1 ∙ there.2 in
          elim (cases_lt there.0 k) as
          (λ _. CameBefore rows k d q) [
            | inl before ↦ inr (there.0, before, ap (λ (m : Move). m.person) at ∙ below.2)
            | inr after ↦
                let far : is_lt (move_cmp (get_or rows there.0 d) (get_or rows k d)) ≡ false =
                sorted_far (λ x y. is_lt (move_cmp x y)) (ranks_by move_total (λ x. x)) rows so.ascends k there.0 d
                (omega (arith, after)) there.1 in
                absurd (false≢true (sym far ∙ ap (λ b. is_lt (move_cmp b (get_or rows k d))) at ∙ below.3))
          ]
    ]

-- a move of a wave is below any move of the next wave
next_wave : (n : ℕ) (a b : Move) → a.wave ≡ Nth n → b.wave ≡ Nth (suc n) → is_lt (move_cmp a b) ≡ true
next_wave n a b p q =
    (λ i. is_lt (ordering_then (wave_cmp (p i) (q i)) (text_cmp a.person b.person)))
    ∙ ap (λ c. is_lt (ordering_then c (text_cmp a.person b.person)))
    (sym (nat_cmp_is n (suc n) Less (omega arith)))

-- `before` gives the homes before the day, no two in one room, and `now` the homes once those who swap have left. The
-- old room of a relocation is the person's home, and anyone who lived in its new room is its person, or relocates too.
module _ (n : ℕ) (ms : List Relocation) (differ : NewRoomsDiffer ms) (before now : Text → Option Text)
    (apart : (p q room : Text) → before p ≡ Some room → before q ≡ Some room → p ≡ q)
    (from : (k : ℕ) → k < length ms → (get_or ms k ([], None, None)).1 ≡ before (get_or ms k ([], None, None)).0)
    (kept : (q room : Text) → now q ≡ Some room → (before q ≡ Some room)
    × (relocates (map_list relocation_of (swaps (moves_with n ms (waves_of ms)))) q ≡ false))
    (known : (k : ℕ) (q room : Text) → k < length ms → (get_or ms k ([], None, None)).2 ≡ Some room
    → before q ≡ Some room → (q ≡ (get_or ms k ([], None, None)).0) ⊎ (relocates ms q ≡ true)) where
  abbrev nobody : Relocation
  nobody = ([], None, None)

  abbrev moves : List Move
  moves = moves_with n ms (waves_of ms)

  abbrev wave : ℕ → Wave
  wave = wave_of (end_numbers ms) (leavers ms)

  wave_is : (k : ℕ) → k < length ms → get_or (waves_of ms) k Swap ≡ wave k
  wave_is k within = get_or-map-range_with_len wave 0 (length ms) k k Swap within (omega arith)

  -- the relocation of the person who lives in the new room of relocation `i`, if that person relocates
  holder : (i : ℕ) (q room : Text) → i < length ms → (get_or ms i nobody).2 ≡ Some room
      → before q ≡ Some room → relocates ms q ≡ true
      → (k : ℕ) × (k < length ms) × ((get_or ms k nobody).0 ≡ q) × (next_entry (leavers ms) i ≡ Some k)
  holder i q room within goes lives relocation =
      let at = relocation_at ms q relocation in
      let old : (get_or ms at.0 nobody).1 ≡ Some room =
      from at.0 at.1 ∙ ap before (at.2 nobody) ∙ lives in
      let found = position_found (has_left room) ms at.0 nobody at.1 (has_left_room room (get_or ms at.0 nobody) old) in
      let k : ℕ = position_or_len (has_left room) ms in
      let there : (get_or ms k nobody).1 ≡ Some room =
      left_room room (get_or ms k nobody) (passes_at_first (has_left room) ms nobody found.0) in (
        k,
        found.0,
        apart _ q room (sym (from k found.0) ∙ there) lives,
        get_or-map (λ (entry : Relocation). option_and_then (leaver ms) entry.2) ms i nobody None within
            ∙ ap (option_and_then (leaver ms)) goes ∙ found.1,
      )

  pub all_cleared : All (IsCleared now moves) moves
  all_cleared = all_moves (IsCleared now moves) n ms (waves_of ms) (length-waves_of ms) (λ i within q room goes lives.
      let lived = kept q room lives in
      elim (known i q room within goes lived.0) as
      (λ _. (q ≡ (get_or ms i nobody).0) ⊎ ((b : Move) × Contains moves b × (b.person ≡ q)
      × (is_lt (move_cmp b (move_at n ms (waves_of ms) i)) ≡ true))) [
        | inl own ↦ inl own
        | inr relocation ↦
            let one = waves_agree ms differ in
            let h = holder i q room within goes lived.0 relocation in
            let b : Move = move_at n ms (waves_of ms) h.0 in
            let is : get_or moves h.0 b ≡ b = moves_with-at n ms (waves_of ms) h.0 b (length-waves_of ms) h.1 in
            let in' : h.0 < length moves =
            omega (arith, h.1, length-moves_with n ms (waves_of ms) (length-waves_of ms)) in
            inr (
              b,
              (h.0, in', is),
              h.2,
              elim (wave h.0) as
                  (λ w. wave h.0 ≡ w → is_lt (move_cmp b (move_at n ms (waves_of ms) i)) ≡ true) [
                    | Swap ↦ λ swap.
                        let gone = swap_at moves h.0 b in'
                        (ap (λ (m : Move). is_swap m.wave) is ∙ ap is_swap (wave_is h.0 h.1 ∙ swap)) in
                        absurd (false≢true (sym lived.1
                        ∙ ap (relocates (map_list relocation_of (swaps moves)))
                        (sym (ap (λ (m : Move). m.person) is ∙ h.2))
                        ∙ gone))
                    | Nth number ↦ λ numbered.
                        let later : IsWave (end_numbers ms) (leavers ms) i (Nth (suc number)) =
                        number-later (end_numbers ms) (leavers ms) number i h.0 h.3
                        (subst (IsWave (end_numbers ms) (leavers ms) h.0) numbered (one.some h.0 h.1)) in
                        next_wave number b (move_at n ms (waves_of ms) i) (wave_is h.0 h.1 ∙ numbered)
                        (wave_is i within ∙ sym (one.one i (Nth (suc number)) within later))
                  ] refl,
            )
      ])
