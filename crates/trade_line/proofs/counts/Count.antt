-- Counts below a bound, the pigeonhole principle, and repeated steps of a function.
use Rattle.std.proofs.Common.{◌≡◌, ℕ, zero, suc, ◌+◌, ◌<◌, ◌≤◌, Bool, true, false, cond, not, ◌&&◌, ◌==◌, refl, sym, ap}
use Rattle.std.proofs.Common.{ap₂, ◌∙◌, subst, inl, inr, arith, eqb-true, eq-eqb, ne_eqb, zero-add, suc-add}
use Rattle.std.proofs.lemmas.Bool.{cases_Bool, cases_lt, and_from, and_right, false_from_ne_true, both_ways}
use Rattle.std.proofs.lemmas.Bool.{not_from_false}
use Rattle.std.specs.Fn.{iterate}
use Rattle.std.proofs.Math.Bool.{and-true}
use Rattle.trade_line.specs.Below.{some_below, count_below}
use Rattle.trade_line.specs.Inner.Removal.{Reach}
use Rattle.trade_line.specs.Inner.Removal.Reach.{here, there}
use Rattle.trade_line.proofs.searches.Search.{some_gives, some_from}

pub count_agree : (n : ℕ) (p q : ℕ → Bool) → ((y : ℕ) → y < n → p y ≡ q y) → count_below n p ≡ count_below n q
count_agree zero p q e = refl
count_agree (suc n) p q e =
    ap₂ (λ a b. a + cond b 1 0) (count_agree n p q (λ y h. e y (omega (arith, h)))) (e n (omega arith))

pub bit_le : (a b : Bool) → (a ≡ true → b ≡ true) → cond a 1 0 ≤ cond b 1 0
bit_le true b h = rw (h refl) (omega arith)
bit_le false b h = omega arith

pub count_le : (n : ℕ) (r q : ℕ → Bool) → ((y : ℕ) → r y ≡ true → q y ≡ true) → count_below n r ≤ count_below n q
count_le zero r q h = omega arith
count_le (suc n) r q h = omega (arith, count_le n r q h, bit_le (r n) (q n) (h n))

pub count_most : (n : ℕ) (q : ℕ → Bool) → count_below n q ≤ n
count_most zero q = omega arith
count_most (suc n) q = omega (arith, count_most n q, bit_le (q n) true (λ _. refl))

pub count_some : (n : ℕ) (q : ℕ → Bool) → 0 < count_below n q → (x : ℕ) × (x < n) × (q x ≡ true)
count_some zero q h = absurd (omega arith)
count_some (suc n) q h =
    elim (cases_Bool (q n)) [
      | inl t ↦ (n, omega arith, t)
      | inr f ↦
          let e : count_below n q + cond (q n) 1 0 ≡ count_below n q = rw f (omega arith) in
          let r : (x : ℕ) × (x < n) × (q x ≡ true) = count_some n q (omega arith) in
          (r.0, omega (arith, r.1), r.2)
    ]

abbrev pub without : (ℕ → Bool) → ℕ → ℕ → Bool
without q x y = q y && not (y == x)

without_other : (q : ℕ → Bool) (x y : ℕ) → (y ≡ x → ⊥) → without q x y ≡ q y
without_other q x y ne = rw (ne_eqb y x ne) (and-true (q y))

pub count_without : (n : ℕ) (q : ℕ → Bool) (x : ℕ) → x < n → q x ≡ true
    → suc (count_below n (without q x)) ≡ count_below n q
count_without zero q x h t = absurd (omega arith)
count_without (suc n) q x h t =
    elim (cases_lt x n) [
      | inl l ↦
          let ih : suc (count_below n (without q x)) ≡ count_below n q = count_without n q x l t in
          let e : without q x n ≡ q n = without_other q x n (λ e. omega arith) in
          rw e (omega arith)
      | inr g ↦
          let ex : x ≡ n = omega arith in
          let here_true : q n ≡ true = subst (λ z. q z ≡ true) ex t in
          let gone : without q x n ≡ false = and_right (q n) (not (n == x)) (rw (eq-eqb n x (sym ex)) refl) in
          let front : count_below n (without q x) ≡ count_below n q =
          count_agree n (without q x) q (λ y l. without_other q x y (λ e. omega arith)) in
          rw (gone, here_true) (omega arith)
    ]

pub count_less : (n : ℕ) (r q : ℕ → Bool) (x : ℕ) → ((y : ℕ) → r y ≡ true → q y ≡ true) → x < n → q x ≡ true
    → r x ≡ false → count_below n r < count_below n q
count_less n r q x only h t f =
    let a : count_below n r ≤ count_below n (without q x) =
    count_le n r (without q x)
    (λ y ry. and_from (q y) (not (y == x)) (only y ry)
    (not_from_false (y == x) (ne_eqb y x (λ e. both_ways (r x) f (subst (λ z. r z ≡ true) e ry))))) in
    let b : suc (count_below n (without q x)) ≡ count_below n q = count_without n q x h t in
    omega arith

-- among more values than there are numbers that pass, two are equal
pub pigeonhole : (c n : ℕ) (q : ℕ → Bool) (x : ℕ → ℕ) → ((i : ℕ) → i < suc c → (x i < n) × (q (x i) ≡ true))
    → count_below n q ≤ c → (i : ℕ) × (j : ℕ) × (i < j) × (j < suc c) × (x i ≡ x j)
pigeonhole zero n q x inside few =
    let a : (x 0 < n) × (q (x 0) ≡ true) = inside 0 (omega arith) in
    let b : suc (count_below n (without q (x 0))) ≡ count_below n q = count_without n q (x 0) a.0 a.1 in
    absurd (omega arith)
pigeonhole (suc c) n q x inside few =
    elim (cases_Bool (some_below (suc c) (λ i. x i == x (suc c)))) [
      | inl t ↦
          let g : (i : ℕ) × (i < suc c) × ((x i == x (suc c)) ≡ true) = some_gives (suc c) (λ i. x i == x (suc c)) t in
          (g.0, suc c, g.1, omega arith, eqb-true (x g.0) (x (suc c)) g.2)
      | inr f ↦
          let a : (x (suc c) < n) × (q (x (suc c)) ≡ true) = inside (suc c) (omega arith) in
          let b : suc (count_below n (without q (x (suc c)))) ≡ count_below n q =
          count_without n q (x (suc c)) a.0 a.1 in
          let r : (i : ℕ) × (j : ℕ) × (i < j) × (j < suc c) × (x i ≡ x j) =
          pigeonhole c n (without q (x (suc c))) x (λ i h.
          let d : (x i < n) × (q (x i) ≡ true) = inside i (omega (arith, h)) in (
            d.0,
            and_from (q (x i)) (not (x i == x (suc c))) d.1
                (not_from_false (x i == x (suc c))
                (false_from_ne_true (x i == x (suc c))
                (λ y. both_ways (some_below (suc c) (λ i. x i == x (suc c))) f
                (some_from (suc c) (λ i. x i == x (suc c)) i h y)))),
          ))
          (omega arith) in
          (r.0, r.1, r.2, omega (arith, r.3), r.4)
    ]

pub times_reach : (g : ℕ → ℕ) (k x y : ℕ) → iterate g k x ≡ y → Reach g x y
times_reach g zero x y e = subst (λ z. Reach g x z) e here
times_reach g (suc k) x y e = there (times_reach g k (g x) y e)

pub reach_times : (g : ℕ → ℕ) {x y : ℕ} → Reach g x y → (k : ℕ) × (iterate g k x ≡ y)
reach_times g here = (0, refl)
reach_times g (there r) = let t = reach_times g r in (suc t.0, t.1)

pub times_after : (g : ℕ → ℕ) (k x : ℕ) → iterate g k (g x) ≡ g (iterate g k x)
times_after g zero x = refl
times_after g (suc k) x = times_after g k (g x)

pub times_sum : (g : ℕ → ℕ) (a b x : ℕ) → iterate g b (iterate g a x) ≡ iterate g (a + b) x
times_sum g zero b x = rw (zero-add b) refl
times_sum g (suc a) b x = times_sum g a b (g x) ∙ sym (ap (λ k. iterate g k x) (suc-add a b))

pub times_stays : (g : ℕ → ℕ) (q : ℕ → Bool) → ((y : ℕ) → q y ≡ true → q (g y) ≡ true) → (k x : ℕ) → q x ≡ true
    → q (iterate g k x) ≡ true
times_stays g q closed zero x h = h
times_stays g q closed (suc k) x h = times_stays g q closed k (g x) (closed x h)
