-- Lists that are tested element by element.
use Rattle.std.proofs.Common.{◌≡◌, ◌≢◌, ◌<◌, ◌≤◌, ◌+◌, ℕ, suc, Bool, true, false, ◌&&◌, List, [], ◌∷◌, length, drop}
use Rattle.std.proofs.Common.{map, get_or, refl, sym, ap, ap₂, ◌∙◌, subst, arith}
use Rattle.std.specs.List.{AllByRecursion}
use Rattle.std.proofs.lemmas.List.{drop_all, drop_more, get_or-map, length-map}
use Rattle.office_db.specs.loading.Inner.Lists.{pass_all}

module _ {X Y : Type 0} (test : Y → X → Bool) where
  -- Lists of different lengths do not pass.
  uneven_fail : (owns : List Y) (xs : List X) → length xs ≢ length owns → pass_all test owns xs ≡ false
  uneven_fail [] [] uneven = absurd (uneven refl)
  uneven_fail [] (x ∷ xs) uneven = refl
  uneven_fail (own ∷ owns) [] uneven = refl
  uneven_fail (own ∷ owns) (x ∷ xs) uneven =
      ap (λ b. test own x && b) (uneven_fail owns xs (λ e. uneven (ap suc e))) ∙ never (test own x)
    where
      never : (b : Bool) → (b && false) ≡ false
      never true = refl
      never false = refl

  -- the rest of both lists from a place on, where both have one more element
  one_place : (owns : List Y) (xs : List X) (i : ℕ) (own : Y) (x : X) → i < length owns → i < length xs
      → get_or owns i own ≡ own → x ≡ get_or xs i x
      → pass_all test (drop i owns) (drop i xs) ≡ (test own x && pass_all test (drop (i + 1) owns) (drop (i + 1) xs))
  one_place owns xs i own x low lower is here =
      ap₂ (pass_all test)
      (drop_more owns i own low ∙ ap (λ y. y ∷ drop (i + 1) owns) is)
      (drop_more xs i x lower ∙ ap (λ y. y ∷ drop (i + 1) xs) (sym here))

-- Each element is tested against its counterpart.
module _ {X Y O : Type 0} (f : O → Y) (test : Y → X → Bool) (owns : List O) (xs : List X) where
  -- The lengths are compared first.
  pub too_few : length xs ≢ length owns → pass_all test (map f owns) xs ≡ false
  too_few uneven = uneven_fail test (map f owns) xs (λ e. uneven (e ∙ length-map owns f))

  module _ (i : ℕ) (d : O) (x : X) (even : length xs ≡ length owns) (low : i < length owns)
      (here : x ≡ get_or xs i x) where
    from_place : pass_all test (drop i (map f owns)) (drop i xs)
        ≡ (test (f (get_or owns i d)) x && pass_all test (drop (i + 1) (map f owns)) (drop (i + 1) xs))
    from_place =
        one_place test (map f owns) xs i (f (get_or owns i d)) x
        (omega (arith, low, length-map owns f)) (omega (arith, low, even))
        (get_or-map f owns i d (f (get_or owns i d)) low) here

    -- This element does not pass.
    pub fails_at : test (f (get_or owns i d)) x ≡ false
        → pass_all test (drop i (map f owns)) (drop i xs) ≡ pass_all test (map f owns) xs
        → pass_all test (map f owns) xs ≡ false
    fails_at fails left =
        sym left ∙ from_place
        ∙ ap (λ b. b && pass_all test (drop (i + 1) (map f owns)) (drop (i + 1) xs)) fails

    -- This element passes.
    pub passes_at : test (f (get_or owns i d)) x ≡ true
        → pass_all test (drop i (map f owns)) (drop i xs) ≡ pass_all test (map f owns) xs
        → pass_all test (drop (i + 1) (map f owns)) (drop (i + 1) xs) ≡ pass_all test (map f owns) xs
    passes_at passes left =
        sym (ap (λ b. b && pass_all test (drop (i + 1) (map f owns)) (drop (i + 1) xs)) passes)
        ∙ sym from_place ∙ left

-- Each element is compared with the value of its counterpart. `left` says that the lists are equal if their rests are.
module _ {X O : Type 0} (f : O → X) (owns : List O) (xs : List X) where
  -- Lists of different lengths are not equal.
  pub uneven_differ : length xs ≢ length owns → xs ≡ map f owns → ⊥
  uneven_differ uneven p = uneven (ap length p ∙ length-map owns f)

  module _ (i : ℕ) (d : O) (x : X) (even : length xs ≡ length owns) (low : i < length owns)
      (here : x ≡ get_or xs i x) where
    -- This element differs.
    pub differ_at : (x ≡ f (get_or owns i d) → ⊥) → xs ≡ map f owns → ⊥
    differ_at differs p = differs (here ∙ ap (λ l. get_or l i x) p ∙ get_or-map f owns i d x low)

    -- This element is equal.
    pub agree_at : x ≡ f (get_or owns i d) → (drop i xs ≡ drop i (map f owns) → xs ≡ map f owns)
        → drop (i + 1) xs ≡ drop (i + 1) (map f owns) → xs ≡ map f owns
    agree_at same left rest =
        left (drop_more xs i x (omega (arith, low, even)) ∙ ap (λ y. y ∷ drop (i + 1) xs) (sym here ∙ same)
        ∙ ap (λ ys. f (get_or owns i d) ∷ ys) rest
        ∙ sym (drop_more (map f owns) i (f (get_or owns i d)) (omega (arith, low, length-map owns f))
        ∙ ap (λ y. y ∷ drop (i + 1) (map f owns)) (get_or-map f owns i d (f (get_or owns i d)) low)))

  -- All elements were compared.
  pub agree_all : (i : ℕ) → length xs ≡ length owns → length owns ≤ i
      → (drop i xs ≡ drop i (map f owns) → xs ≡ map f owns)
      → xs ≡ map f owns
  agree_all i even past left =
      left (drop_all i xs (omega (arith, even, past))
      ∙ sym (drop_all i (map f owns) (omega (arith, past, length-map owns f))))

-- Each element is tested.
module _ {X : Type 0} (P : X → Type 0) (xs : List X) (i : ℕ) (d : X) (low : i < length xs) where
  -- P holds of this element.
  pub all_more : P (get_or xs i d) → (AllByRecursion P (drop i xs) → AllByRecursion P xs)
      → AllByRecursion P (drop (i + 1) xs)
      → AllByRecursion P xs
  all_more here left rest = left (subst (AllByRecursion P) (sym (drop_more xs i d low)) (here, rest))

  -- If P holds of all, it holds of this element and of the others after it.
  pub all_here : (AllByRecursion P xs → AllByRecursion P (drop i xs)) → AllByRecursion P xs
      → P (get_or xs i d) × AllByRecursion P (drop (i + 1) xs)
  all_here whole h = subst (AllByRecursion P) (drop_more xs i d low) (whole h)

pub all_tested : {X : Type 0} (P : X → Type 0) (xs : List X) (i : ℕ) → length xs ≤ i
    → (AllByRecursion P (drop i xs) → AllByRecursion P xs)
    → AllByRecursion P xs
all_tested P xs i past left = left (subst (AllByRecursion P) (sym (drop_all i xs past)) tt)
