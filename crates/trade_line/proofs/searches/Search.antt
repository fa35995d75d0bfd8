-- Lemmas on searches: `find`, `first_below`, `some_below`, and tests that agree on what they search.
use Rattle.std.proofs.Common.{◌≡◌, ℕ, zero, suc, ◌<◌, ◌≤◌, Bool, true, false, cond, not, ◌&&◌, ◌||◌, List, [], ◌∷◌}
use Rattle.std.proofs.Common.{Option, Some, None, find, refl, sym, ap, ◌∙◌, subst, inl, inr, arith, eqb-true, eq-eqb}
use Rattle.std.proofs.lemmas.Bool.{cases_lt, cases_Bool, or_cases, or_left, or_right, false_from_ne_true, both_ways}
use Rattle.trade_line.specs.Below.{some_below, first_below, or_else}
use Rattle.trade_line.specs.Market.{is_room}

pub clash : {A : Type 0} → (b : Bool) → b ≡ true → b ≡ false → A
clash b t f = absurd (both_ways b f t)

pub and_nots : (a b c : Bool) → ((a && not b) && not c) ≡ (a && not (b || c))
and_nots true true c = refl
and_nots true false c = refl
and_nots false b c = refl

pub find_passes : (q : ℕ → Bool) (xs : List ℕ) (x : ℕ) → find q xs ≡ Some x → q x ≡ true
find_passes q [] x h = absurd (cc)
find_passes q (y ∷ ys) x h =
    elim (cases_Bool (q y)) [
      | inl t ↦
          let e : Some y ≡ Some x = sym (rw t refl) ∙ h in
          let ey : y ≡ x = cc in
          subst (λ z. q z ≡ true) ey t
      | inr f ↦ find_passes q ys x (sym (rw f refl) ∙ h)
    ]

-- a narrower test finds the same if it passes what was found
pub find_keeps : (q r : ℕ → Bool) (xs : List ℕ) → ((y : ℕ) → r y ≡ true → q y ≡ true)
    → ((x : ℕ) → find q xs ≡ Some x → r x ≡ true) → find r xs ≡ find q xs
find_keeps q r [] only same = refl
find_keeps q r (y ∷ ys) only same =
    elim (cases_Bool (q y)) [
      | inl t ↦
          let e : find q (y ∷ ys) ≡ Some y = rw t refl in
          let u : r y ≡ true = same y e in
          rw (t, u) refl
      | inr f ↦
          let u : r y ≡ false = false_from_ne_true (r y) (λ h. both_ways (q y) f (only y h)) in
          rw (f, u) (find_keeps q r ys only (λ x h. same x (rw f h)))
    ]

pub first_passes : (n : ℕ) (q : ℕ → Bool) (x : ℕ) → first_below n q ≡ Some x → (q x ≡ true) × (x < n)
first_passes zero q x h = absurd (cc)
first_passes (suc n) q x h = first_passes_by (first_passes n q x) (first_below n q) refl h
  where
    first_passes_by : (first_below n q ≡ Some x → (q x ≡ true) × (x < n)) → (o : Option ℕ) → first_below n q ≡ o
        → or_else o (cond (q n) (Some n) None) ≡ Some x → (q x ≡ true) × (x < suc n)
    first_passes_by ih None e h =
        elim (cases_Bool (q n)) [
          | inl t ↦
              let e2 : Some n ≡ Some x = sym (rw t refl) ∙ h in
              let ex : n ≡ x = cc in
              (subst (λ z. q z ≡ true) ex t, omega arith)
          | inr f ↦
              let e2 : None ≡ Some x = sym (rw f refl) ∙ h in
              absurd (cc)
        ]
    first_passes_by ih (Some y) e h =
        let r : (q x ≡ true) × (x < n) = ih (e ∙ h) in
        (r.0, omega (arith, r.1))

pub first_keeps : (n : ℕ) (q r : ℕ → Bool) → ((y : ℕ) → r y ≡ true → q y ≡ true)
    → ((x : ℕ) → first_below n q ≡ Some x → r x ≡ true) → first_below n r ≡ first_below n q
first_keeps zero q r only same = refl
first_keeps (suc n) q r only same =
    let ih : first_below n r ≡ first_below n q = first_keeps n q r only (λ x h. same x (rw h refl)) in
    rw ih (by_found (first_below n q) refl)
  where
    by_found : (o : Option ℕ) → first_below n q ≡ o → or_else o (cond (r n) (Some n) None) ≡ or_else o
        (cond (q n) (Some n) None)
    by_found (Some y) e = refl
    by_found None e =
        elim (cases_Bool (q n)) [
          | inl t ↦
              let u : r n ≡ true = same n (rw (e, t) refl) in
              rw (t, u) refl
          | inr f ↦
              let u : r n ≡ false = false_from_ne_true (r n) (λ h. both_ways (q n) f (only n h)) in
              rw (f, u) refl
        ]

-- the least number that passes is found
pub first_finds : (n : ℕ) (q : ℕ → Bool) (x : ℕ) → x < n → q x ≡ true → (y : ℕ) × (first_below n q ≡ Some y)
first_finds zero q x h t = absurd (omega arith)
first_finds (suc n) q x h t = by_found (first_finds n q x) (first_below n q) refl
  where
    by_found : (x < n → q x ≡ true → (y : ℕ) × (first_below n q ≡ Some y)) → (o : Option ℕ) → first_below n q ≡ o
        → (y : ℕ) × (or_else o (cond (q n) (Some n) None) ≡ Some y)
    by_found ih (Some y) e = (y, refl)
    by_found ih None e =
        elim (cases_Bool (q n)) [
          | inl u ↦ (n, rw u refl)
          | inr f ↦
              elim (cases_lt x n) [
                | inl l ↦
                    let r : (y : ℕ) × (first_below n q ≡ Some y) = ih l t in
                    let z : None ≡ Some r.0 = sym e ∙ r.1 in
                    absurd (cc)
                | inr g ↦
                    let ex : x ≡ n = omega arith in
                    absurd (both_ways (q n) f (subst (λ z. q z ≡ true) ex t))
              ]
        ]

pub some_gives : (n : ℕ) (q : ℕ → Bool) → some_below n q ≡ true → (x : ℕ) × (x < n) × (q x ≡ true)
some_gives zero q h = absurd (cc)
some_gives (suc n) q h =
    elim (or_cases (some_below n q) (q n) h) [
      | inl l ↦
          let r : (x : ℕ) × (x < n) × (q x ≡ true) = some_gives n q l in
          (r.0, omega (arith, r.1), r.2)
      | inr t ↦ (n, omega arith, t)
    ]

pub some_from : (n : ℕ) (q : ℕ → Bool) (x : ℕ) → x < n → q x ≡ true → some_below n q ≡ true
some_from zero q x h t = absurd (omega arith)
some_from (suc n) q x h t =
    elim (cases_lt x n) [
      | inl l ↦ or_left (some_below n q) (q n) (some_from n q x l t)
      | inr g ↦
          let ex : x ≡ n = omega arith in
          or_right (some_below n q) (q n) (subst (λ z. q z ≡ true) ex t)
    ]

pub is_room_gives : (r : ℕ) (o : Option ℕ) → is_room r o ≡ true → o ≡ Some r
is_room_gives r None h = absurd (cc)
is_room_gives r (Some x) h = ap Some (eqb-true x r h)

pub is_room_from : (r : ℕ) (o : Option ℕ) → o ≡ Some r → is_room r o ≡ true
is_room_from r o h = rw h (eq-eqb r r refl)

-- no number below the one found passes
pub first_is_least : (n : ℕ) (q : ℕ → Bool) (y x : ℕ) → first_below n q ≡ Some y → x < n → q x ≡ true → y ≤ x
first_is_least zero q y x e l t = absurd (omega arith)
first_is_least (suc n) q y x e l t = by_found (first_is_least n q y x) (first_below n q) refl e
  where
    by_found : (first_below n q ≡ Some y → x < n → q x ≡ true → y ≤ x) → (o : Option ℕ) → first_below n q ≡ o
        → or_else o (cond (q n) (Some n) None) ≡ Some y → y ≤ x
    by_found ih (Some z) f e =
        elim (cases_lt x n) [
          | inl b ↦ ih (f ∙ e) b t
          | inr b ↦ let u : y < n = (first_passes n q y (f ∙ e)).1 in omega arith
        ]
    by_found ih None f e =
        elim (cases_lt x n) [
          | inl b ↦
              let r : (y : ℕ) × (first_below n q ≡ Some y) = first_finds n q x b t in
              let z : None ≡ Some r.0 = sym f ∙ r.1 in
              absurd (cc)
          | inr b ↦
              let u : y < suc n = (first_passes (suc n) q y (rw f e)).1 in
              let xn : x ≡ n = omega arith in
              omega arith
        ]
