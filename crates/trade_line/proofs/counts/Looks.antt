-- Sums over people, and what an ask reads of a list.
use Rattle.std.proofs.Common.{◌≡◌, ℕ, zero, suc, ◌+◌, ◌<◌, ◌≤◌, Bool, true, false, ◌==◌, List, [], ◌∷◌, length, Some}
use Rattle.std.proofs.Common.{None, find, get_or, drop, refl, sym, ap, ◌∙◌, inl, inr, arith, eq-eqb, ne_eqb, le_refl}
use Rattle.std.proofs.Common.{AllPairs, ◌≢◌}
use Rattle.std.proofs.lemmas.Bool.{cases_Bool, cases_eq, or_left, or_right}
use Rattle.trade_line.specs.Below.{sum_below}
use Rattle.trade_line.specs.Member.{among}
use Rattle.trade_line.specs.Rank.{place}
use Rattle.trade_line.specs.Inner.Reads.{reads, skipped}

-- sums
pub sum_le : (n : ℕ) (f g : ℕ → ℕ) → ((y : ℕ) → y < n → g y ≤ f y) → sum_below n g ≤ sum_below n f
sum_le zero f g h = le_refl 0
sum_le (suc n) f g h =
    let ih : sum_below n g ≤ sum_below n f = sum_le n f g (λ y l. h y (omega arith)) in
    let last : g n ≤ f n = h n (omega arith) in
    omega arith

pub sum_none : (n : ℕ) (f : ℕ → ℕ) → ((y : ℕ) → y < n → f y ≡ 0) → sum_below n f ≡ 0
sum_none zero f h = refl
sum_none (suc n) f h =
    let ih : sum_below n f ≡ 0 = sum_none n f (λ y l. h y (omega arith)) in
    let last : f n ≡ 0 = h n (omega arith) in
    omega arith

-- one of the summands is another
pub sum_point : (n : ℕ) (f g : ℕ → ℕ) (a : ℕ) → a < n → ((y : ℕ) → y < n → (y ≡ a → ⊥) → g y ≡ f y)
    → sum_below n g + f a ≡ sum_below n f + g a
sum_point zero f g a l others = absurd (omega arith)
sum_point (suc n) f g a l others =
    elim (cases_eq a n) [
      | inl e ↦
          let ih : sum_below n g ≤ sum_below n f =
          sum_le n f g (λ y yl. let z : g y ≡ f y = others y (omega arith) (λ q. omega arith) in omega arith) in
          let ih2 : sum_below n f ≤ sum_below n g =
          sum_le n g f (λ y yl. let z : g y ≡ f y = others y (omega arith) (λ q. omega arith) in omega arith) in
          let at_f : f a ≡ f n = ap f e in
          let at_g : g a ≡ g n = ap g e in
          omega arith
      | inr d ↦
          let ih : sum_below n g + f a ≡ sum_below n f + g a =
          sum_point n f g a (omega arith) (λ y yl ne. others y (omega arith) ne) in
          let last : g n ≡ f n = others n (omega arith) (λ z. d (sym z)) in
          omega arith
    ]

-- two summands are one more than a third
pub sum_two : (n : ℕ) (f g h : ℕ → ℕ) → ((y : ℕ) → y < n → f y + g y ≡ suc (h y))
    → sum_below n f + sum_below n g ≡ n + sum_below n h
sum_two zero f g h each = refl
sum_two (suc n) f g h each =
    let ih : sum_below n f + sum_below n g ≡ n + sum_below n h = sum_two n f g h (λ y l. each y (omega arith)) in
    let last : f n + g n ≡ suc (h n) = each n (omega arith) in
    omega arith

-- an ask reads a list up to the first entry that passes
pub skipped_gone : (q : ℕ → Bool) (xs : List ℕ) (k : ℕ) → k < skipped q xs → q (get_or xs k 0) ≡ false
skipped_gone q [] k l = absurd (omega arith)
skipped_gone q (x ∷ xs) zero l =
    elim (cases_Bool (q x)) [
      | inl t ↦ let z : skipped q (x ∷ xs) ≡ 0 = rw t refl in absurd (omega arith)
      | inr f ↦ f
    ]
skipped_gone q (x ∷ xs) (suc k) l =
    elim (cases_Bool (q x)) [
      | inl t ↦ let z : skipped q (x ∷ xs) ≡ 0 = rw t refl in absurd (omega arith)
      | inr f ↦ let z : skipped q (x ∷ xs) ≡ suc (skipped q xs) = rw f refl in skipped_gone q xs k (omega arith)
    ]

pub skipped_most : (q : ℕ → Bool) (xs : List ℕ) → skipped q xs ≤ length xs
skipped_most q [] = le_refl 0
skipped_most q (x ∷ xs) =
    elim (cases_Bool (q x)) [
      | inl t ↦ rw t (omega arith)
      | inr f ↦ rw f (let ih : skipped q xs ≤ length xs = skipped_most q xs in omega arith)
    ]

-- what was found: its place, and how many entries were read
pub found_at : (q : ℕ → Bool) (xs : List ℕ) (x : ℕ) → find q xs ≡ Some x
    → (skipped q xs < length xs) × (get_or xs (skipped q xs) 0 ≡ x) × (reads q xs ≡ suc (skipped q xs))
found_at q [] x e = absurd (cc)
found_at q (y ∷ ys) x e =
    elim (cases_Bool (q y)) [
      | inl t ↦
          let z : Some y ≡ Some x = sym (rw t refl) ∙ e in
          let zz : y ≡ x = cc in
          rw t (omega arith, zz, refl)
      | inr f ↦
          let ih : (skipped q ys < length ys) × (get_or ys (skipped q ys) 0 ≡ x) × (reads q ys ≡ suc (skipped q ys)) =
          found_at q ys x (sym (rw f refl) ∙ e) in
          rw f (omega (arith, ih.0), ih.1, ap suc ih.2)
    ]

-- if nothing was found, the whole list was read
pub none_at : (q : ℕ → Bool) (xs : List ℕ) → find q xs ≡ None
    → (skipped q xs ≡ length xs) × (reads q xs ≡ length xs)
none_at q [] e = (refl, refl)
none_at q (y ∷ ys) e =
    elim (cases_Bool (q y)) [
      | inl t ↦ let z : Some y ≡ None = sym (rw t refl) ∙ e in absurd (cc)
      | inr f ↦
          let ih : (skipped q ys ≡ length ys) × (reads q ys ≡ length ys) = none_at q ys (sym (rw f refl) ∙ e) in
          rw f (ap suc ih.0, ap suc ih.1)
    ]

-- if the first c entries don't pass, the search may begin after them
pub find_on : (q : ℕ → Bool) (xs : List ℕ) (c : ℕ) → ((k : ℕ) → k < c → q (get_or xs k 0) ≡ false)
    → find q xs ≡ find q (drop c xs)
find_on q xs zero h = refl
find_on q [] (suc c) h = refl
find_on q (x ∷ xs) (suc c) h =
    let f : q x ≡ false = h 0 (omega arith) in
    rw f (find_on q xs c (λ k l. h (suc k) (omega arith)))

-- in a list without repeats each entry has its own place
pub place_is : (xs : List ℕ) (i x : ℕ) → AllPairs ◌≢◌ xs → i < length xs → get_or xs i 0 ≡ x
    → place x xs ≡ i
place_is [] i x h l e = absurd (omega arith)
place_is (y ∷ ys) zero x h l e = rw (eq-eqb y x e) refl
place_is (y ∷ ys) (suc i) x h l e =
    let ne : (y == x) ≡ false = ne_eqb y x (λ z. h 0 (suc i) 0 (omega arith) l (z ∙ sym e)) in
    rw ne (ap suc (place_is ys i x (λ j k d jk kl. h (suc j) (suc k) d (omega arith) (omega arith)) (omega arith) e))

pub among_at : (xs : List ℕ) (i x : ℕ) → i < length xs → get_or xs i 0 ≡ x → among xs x ≡ true
among_at [] i x l e = absurd (omega arith)
among_at (y ∷ ys) zero x l e = or_left (y == x) (among ys x) (eq-eqb y x e)
among_at (y ∷ ys) (suc i) x l e = or_right (y == x) (among ys x) (among_at ys i x (omega arith) e)
