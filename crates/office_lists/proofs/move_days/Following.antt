-- Each entry has exactly one wave.
use Rattle.std.proofs.Common.{◌≡◌, ℕ, zero, suc, ◌+◌, ◌<◌, ◌≤◌, true, false, ◌||◌, List, [], ◌∷◌, length, map, get_or}
use Rattle.std.proofs.Common.{Option, None, Some, MatchOption, refl, sym, ap, ◌∙◌, subst, inl, inr, ◌⊎◌, arith, eqb}
use Rattle.std.proofs.Common.{eqb-true, eq-eqb, ne_eqb}
use Rattle.std.specs.Prelude.{option_and_then, unwrap_or}
use Rattle.std.specs.Option.{option_map, option_map_or}
use Rattle.std.specs.List.{AllByRecursion, IsDistinct, list_any, range_with_len}
use Rattle.std.proofs.lemmas.Bool.{false≢true, cases_lt}
use Rattle.std.proofs.lemmas.Option.{same_Some}
use Rattle.std.proofs.lemmas.List.Elements.{recursion_from_All}
use Rattle.std.proofs.lemmas.List.FromFn.{get_or-map-range_with_len, length-map-range_with_len}
use Rattle.std.proofs.lemmas.Map.Keys.{IsDistinct-from_apart}
use Rattle.std.proofs.lemmas.Map.Steps.{length-le_from_distinct_below}
use Rattle.room_types.specs.declared.moves.Wave.{Wave}
use Rattle.room_types.specs.declared.moves.Wave.TheVariants.{Swap, Nth}
use Rattle.office_lists.specs.Waves.{next_entry, end_number_at, followed, Returns, HasNumber, IsWave}
use Rattle.office_lists.specs.Waves.{chain_number, wave_of}
use Rattle.office_lists.specs.Inner.Successors.{AreInjective}

any_below : (q n : ℕ) (xs : List ℕ) → AllByRecursion (λ x. x < n) xs → list_any (eqb q) xs ≡ true → q < n
any_below q n [] h e = absurd (false≢true e)
any_below q n (x ∷ xs) h e =
    elim (eqb q x) as (λ b. eqb q x ≡ b → (b || list_any (eqb q) xs) ≡ true → q < n) [
      | true ↦ λ is f. subst (λ y. y < n) (sym (eqb-true q x is)) h.0
      | false ↦ λ is f. any_below q n xs h.1 f
    ] refl e

-- m different numbers below n: m is at most n
pigeonhole : (f : ℕ → ℕ) (m n : ℕ) → ((k : ℕ) → k < m → f k < n) → ((a b : ℕ) → a < b → b < m → f a ≡ f b → ⊥) → m ≤ n
pigeonhole f m n into apart =
    let xs = map f (range_with_len 0 m) in
    let many : length xs ≡ m = length-map-range_with_len f 0 m in
    let at : (k d : ℕ) → k < m → get_or xs k d ≡ f k =
    λ k d small. get_or-map-range_with_len f 0 m k k d small (omega arith) in
    let distinct : IsDistinct eqb xs = IsDistinct-from_apart eqb xs (λ i j d before within.
    ne_eqb (get_or xs i d) (get_or xs j d)
    (λ same. apart i j before (omega arith) (sym (at i d (omega arith)) ∙ same ∙ at j d (omega arith)))) in
    let below : AllByRecursion (λ x. x < n) xs =
    recursion_from_All (λ x. x < n) xs
    (λ k d within. subst (λ x. x < n) (sym (at k d (omega arith))) (into k (omega arith))) in
    let few : length xs ≤ n = length-le_from_distinct_below xs n distinct (λ q among. any_below q n xs below among) in
    omega arith

module _ (ls : List (Option ℕ)) where
  -- following the leavers from i is following them from the leaver of i, one step less
  followed-next : (c i j : ℕ) → next_entry ls i ≡ Some j → followed ls (suc c) i ≡ followed ls c j
  followed-next zero i j e = e
  followed-next (suc c) i j e = ap (option_and_then (next_entry ls)) (followed-next c i j e)

  followed-end : (c i : ℕ) → next_entry ls i ≡ None → followed ls (suc c) i ≡ None
  followed-end zero i e = e
  followed-end (suc c) i e = ap (option_and_then (next_entry ls)) (followed-end c i e)

  pub followed-beyond : (c k i : ℕ) → followed ls c i ≡ None → c ≤ k → followed ls k i ≡ None
  followed-beyond zero k i e low = cc
  followed-beyond (suc c) zero i e low = absurd (omega arith)
  followed-beyond (suc c) (suc k) i e low =
      elim (cases_lt c k) [
        | inl less ↦ ap (option_and_then (next_entry ls)) (followed-beyond (suc c) k i e (omega arith))
        | inr more ↦ let same : c ≡ k = omega arith in subst (λ m. followed ls (suc m) i ≡ None) same e
      ]

module _ (ends : List ℕ) (ls : List (Option ℕ)) where
  -- an entry at the end of its chain has its end number, and no other
  pub number-end : (n i : ℕ) → next_entry ls i ≡ None → n ≡ end_number_at ends i → HasNumber ends ls n i
  number-end zero i e is = subst (λ o. MatchOption o (0 ≡ end_number_at ends i) (λ j. ⊥)) (sym e) is
  number-end (suc n) i e is = subst (λ o. MatchOption o (suc n ≡ end_number_at ends i) (HasNumber ends ls n)) (sym e) is

  number-only : (n i : ℕ) → next_entry ls i ≡ None → HasNumber ends ls n i → n ≡ end_number_at ends i
  number-only zero i e h = subst (λ o. MatchOption o (0 ≡ end_number_at ends i) (λ j. ⊥)) e h
  number-only (suc n) i e h = subst (λ o. MatchOption o (suc n ≡ end_number_at ends i) (HasNumber ends ls n)) e h

  pub number-later : (n i j : ℕ) → next_entry ls i ≡ Some j → HasNumber ends ls n j → HasNumber ends ls (suc n) i
  number-later n i j e h = subst (λ o. MatchOption o (suc n ≡ end_number_at ends i) (HasNumber ends ls n)) (sym e) h

  pub number-back : (n i j : ℕ) → next_entry ls i ≡ Some j → HasNumber ends ls (suc n) i → HasNumber ends ls n j
  number-back n i j e h = subst (λ o. MatchOption o (suc n ≡ end_number_at ends i) (HasNumber ends ls n)) e h

  -- an entry with a leaver does not have the number 0
  pub number-none : (i j : ℕ) → next_entry ls i ≡ Some j → HasNumber ends ls 0 i → ⊥
  number-none i j e h = subst (λ o. MatchOption o (0 ≡ end_number_at ends i) (λ j. ⊥)) e h

  at_end : (m n i : ℕ) → next_entry ls i ≡ None → HasNumber ends ls m i → HasNumber ends ls n i → m ≡ n
  at_end m n i e h g = number-only m i e h ∙ sym (number-only n i e g)

  one_number : (m n i : ℕ) → HasNumber ends ls m i → HasNumber ends ls n i → m ≡ n
  one_number zero n i h g =
      elim (next_entry ls i) as (λ o. next_entry ls i ≡ o → zero ≡ n) [
        | None ↦ λ e. at_end zero n i e h g
        | Some j ↦ λ e. absurd (number-none i j e h)
      ] refl
  one_number (suc m) zero i h g =
      elim (next_entry ls i) as (λ o. next_entry ls i ≡ o → suc m ≡ zero) [
        | None ↦ λ e. at_end (suc m) zero i e h g
        | Some j ↦ λ e. absurd (number-none i j e g)
      ] refl
  one_number (suc m) (suc n) i h g =
      elim (next_entry ls i) as (λ o. next_entry ls i ≡ o → suc m ≡ suc n) [
        | None ↦ λ e. at_end (suc m) (suc n) i e h g
        | Some j ↦ λ e. ap suc (one_number m n j (number-back m i j e h) (number-back n i j e g))
      ] refl

  -- following the leavers from an entry with a number does not return to it
  no_return : (n c i : ℕ) → HasNumber ends ls n i → followed ls (suc c) i ≡ Some i → ⊥
  no_return zero c i h r =
      elim (next_entry ls i) as (λ o. next_entry ls i ≡ o → ⊥) [
        | None ↦ λ e. cc (sym (followed-end ls c i e) ∙ r)
        | Some j ↦ λ e. number-none i j e h
      ] refl
  no_return (suc n) c i h r =
      elim (next_entry ls i) as (λ o. next_entry ls i ≡ o → ⊥) [
        | None ↦ λ e. cc (sym (followed-end ls c i e) ∙ r)
        | Some j ↦ λ e.
            no_return n c j (number-back n i j e h)
            (ap (option_and_then (next_entry ls)) (sym (followed-next ls c i j e) ∙ r) ∙ e)
      ] refl

  -- an entry has at most one wave
  pub one_wave : (i : ℕ) (v w : Wave) → IsWave ends ls i v → IsWave ends ls i w → v ≡ w
  one_wave i Swap Swap p q = refl
  one_wave i Swap (Nth n) p q = absurd (no_return n p.0 i q p.1)
  one_wave i (Nth m) Swap p q = absurd (no_return m q.0 i p q.1)
  one_wave i (Nth m) (Nth n) p q = ap (λ number. Nth number) (one_number m n i p q)

  number-from_length : (k n i : ℕ) → chain_number ends ls k i ≡ Some n → HasNumber ends ls n i
  number-from_length zero n i e = cc
  number-from_length (suc k) n i e =
      elim (next_entry ls i) as
      (λ o. next_entry ls i ≡ o → option_map_or (λ j. option_map (λ number. suc number) (chain_number ends ls k j)) o
      (Some (end_number_at ends i)) ≡ Some n → HasNumber ends ls n i) [
        | None ↦ λ none f. number-end n i none (sym (same_Some (end_number_at ends i) n f))
        | Some j ↦ λ some f. elim (chain_number ends ls k j) as (λ o. chain_number ends ls k j ≡ o
            → option_map (λ number. suc number) o ≡ Some n → HasNumber ends ls n i) [
              | None ↦ λ g h. cc
              | Some m ↦ λ g h. subst (λ number. HasNumber ends ls number i) (same_Some (suc m) n h)
                  (number-later m i j some (number-from_length k m j g))
            ] refl f
      ] refl e

  module _ (apart : AreInjective ls) (low : (i : ℕ) → end_number_at ends i ≤ 1) where
    -- the numbers fall by one with each leaver
    number-after : (c n i : ℕ) → i < length ls → c < n → HasNumber ends ls n i → (x : ℕ) × (m : ℕ)
        × (followed ls c i ≡ Some x) × (x < length ls) × HasNumber ends ls m x × (m + c ≡ n)
    number-after zero n i in' below h = (i, n, refl, in', h, omega arith)
    number-after (suc c) zero i in' below h = absurd (omega arith)
    number-after (suc c) (suc n) i in' below h =
        elim (next_entry ls i) as (λ o. next_entry ls i ≡ o → (x : ℕ) × (m : ℕ) × (followed ls (suc c) i ≡ Some x)
        × (x < length ls)
        × HasNumber ends ls m x × (m + suc c ≡ suc n)) [
          | None ↦ λ e. let is = number-only (suc n) i e h in absurd (omega (arith, low i))
          | Some j ↦ λ e.
              let rest = number-after c n j (apart.within i j e) (omega arith) (number-back n i j e h) in
              (rest.0, rest.1, followed-next ls c i j e ∙ rest.2, rest.3, rest.4, omega (arith, rest.5))
        ] refl

    -- a number is at most the number of entries
    pub number-le : (n i : ℕ) → i < length ls → HasNumber ends ls n i → n ≤ length ls
    number-le n i in' h =
        pigeonhole (λ c. unwrap_or (followed ls c i) 0) n (length ls)
        (λ k low. let at = number-after k n i in' low h in
        subst (λ x. x < length ls) (sym (ap (λ o. unwrap_or o 0) at.2)) at.3)
        (λ a b before low same.
        let first = number-after a n i in' (omega arith) h in
        let second = number-after b n i in' low h in
        let one : first.0 ≡ second.0 =
        sym (ap (λ o. unwrap_or o 0) first.2) ∙ same ∙ ap (λ o. unwrap_or o 0) second.2 in
        let number : first.1 ≡ second.1 =
        one_number first.1 second.1 second.0 (subst (HasNumber ends ls first.1) one first.4) second.4 in
        absurd (omega (arith, first.5, second.5)))

    -- if two different numbers of steps lead to the same entry, following the leavers returns to the start
    cycle_from_meeting : (a b i x : ℕ) → a < b → followed ls a i ≡ Some x → followed ls b i ≡ Some x → (c : ℕ) × (c < b)
        × (followed ls (suc c) i ≡ Some i)
    cycle_from_meeting a zero i x low p q = absurd (omega arith)
    cycle_from_meeting zero (suc b) i x low p q = (b, omega arith, q ∙ sym p)
    cycle_from_meeting (suc a) (suc b) i x low p q =
        elim (followed ls a i) as (λ o. followed ls a i ≡ o → option_and_then (next_entry ls) o ≡ Some x → (c : ℕ)
        × (c < suc b) × (followed ls (suc c) i ≡ Some i)) [
          | None ↦ λ e f. cc
          | Some y ↦ λ e f. elim (followed ls b i) as (λ o. followed ls b i ≡ o → option_and_then (next_entry ls) o
              ≡ Some x
              → (c : ℕ) × (c < suc b) × (followed ls (suc c) i ≡ Some i)) [
                | None ↦ λ g h. cc
                | Some z ↦ λ g h.
                    let before =
                    cycle_from_meeting a b i y (omega arith) e (g ∙ ap (λ k. Some k) (apart.one z y x h f)) in
                    (before.0, omega (arith, before.1), before.2)
              ] refl q
        ] refl p

    -- if the chain does not end within k steps, each of these steps leads to an entry
    goes_on : (c k i : ℕ) → i < length ls → c ≤ k → chain_number ends ls k i ≡ None → (x : ℕ)
        × (followed ls c i ≡ Some x) × (x < length ls)
    goes_on zero k i in' low e = (i, refl, in')
    goes_on (suc c) zero i in' low e = absurd (omega arith)
    goes_on (suc c) (suc k) i in' low e =
        elim (next_entry ls i) as
        (λ o. next_entry ls i ≡ o → option_map_or (λ j. option_map (λ number. suc number) (chain_number ends ls k j)) o
        (Some (end_number_at ends i)) ≡ None → (x : ℕ) × (followed ls (suc c) i ≡ Some x) × (x < length ls)) [
          | None ↦ λ none f. cc
          | Some j ↦ λ some f.
              let endless : chain_number ends ls k j ≡ None =
              elim (chain_number ends ls k j) as (λ o. option_map (λ number. suc number) o ≡ None → o ≡ None)
              [ None ↦ λ g. refl | Some m ↦ λ g. cc ] f in
              let rest = goes_on c k j (apart.within i j some) (omega arith) endless in
              (rest.0, followed-next ls c i j some ∙ rest.1, rest.2)
        ] refl e

    -- following the leavers returns to the start, or it does not within m steps
    return_cases : (m i : ℕ) → Returns ls i ⊎ ((c : ℕ) → c < m → followed ls (suc c) i ≡ Some i → ⊥)
    return_cases zero i = inr (λ c low e. absurd (omega arith))
    return_cases (suc m) i =
        elim (return_cases m i) [
          | inl comes ↦ inl comes
          | inr never ↦
              elim (followed ls (suc m) i) as
              (λ o. followed ls (suc m) i ≡ o → Returns ls i
              ⊎ ((c : ℕ) → c < suc m → followed ls (suc c) i ≡ Some i → ⊥)) [
                | None ↦ λ e. inr
                    (λ c low f. elim (cases_lt c m) [
                      | inl less ↦ never c less f
                      | inr more ↦ let last : c ≡ m =
                          omega arith in cc (sym e ∙ subst (λ k. followed ls (suc k) i ≡ Some i) last f)
                    ])
                | Some x ↦ λ e. elim (eqb x i) as
                    (λ b. eqb x i ≡ b → Returns ls i ⊎ ((c : ℕ) → c < suc m → followed ls (suc c) i ≡ Some i → ⊥)) [
                      | true ↦ λ same. inl (m, e ∙ ap (λ k. Some k) (eqb-true x i same))
                      | false ↦ λ other. inr (λ c low f. elim (cases_lt c m) [
                        | inl less ↦ never c less f
                        | inr more ↦
                            let last : c ≡ m = omega arith in
                            let same : x ≡ i =
                            same_Some x i (sym e ∙ subst (λ k. followed ls (suc k) i ≡ Some i) last f) in
                            cc (sym other ∙ eq-eqb x i same)
                      ])
                    ] refl
              ] refl
        ]

    -- if the chain does not end within as many steps as there are entries, following the leavers returns to the start
    endless_returns : (i : ℕ) → i < length ls → chain_number ends ls (length ls) i ≡ None → Returns ls i
    endless_returns i in' endless =
        elim (return_cases (suc (length ls)) i) [
          | inl comes ↦ comes
          | inr never ↦
              let few : suc (length ls) ≤ length ls =
              pigeonhole (λ c. unwrap_or (followed ls c i) 0) (suc (length ls)) (length ls)
              (λ k low. let at = goes_on k (length ls) i in' (omega arith) endless in
              subst (λ x. x < length ls) (sym (ap (λ o. unwrap_or o 0) at.1)) at.2)
              (λ a b before low same.
              let first = goes_on a (length ls) i in' (omega arith) endless in
              let second = goes_on b (length ls) i in' (omega arith) endless in
              let one : second.0 ≡ first.0 = sym (ap (λ o. unwrap_or o 0) second.1) ∙ sym same
              ∙ ap (λ o. unwrap_or o 0) first.1 in
              let round = cycle_from_meeting a b i first.0 before first.1 (second.1 ∙ ap (λ k. Some k) one) in
              never round.0 (omega (arith, round.1)) round.2) in
              absurd (omega arith)
        ]

    -- each entry has the wave that is computed
    pub some_wave : (i : ℕ) → i < length ls → IsWave ends ls i (wave_of ends ls i)
    some_wave i in' =
        elim (chain_number ends ls (length ls) i) as (λ o. chain_number ends ls (length ls) i ≡ o
        → IsWave ends ls i (option_map_or (λ number. Nth number) o Swap)) [
          | None ↦ λ e. endless_returns i in' e
          | Some n ↦ λ e. number-from_length (length ls) n i e
        ] refl
