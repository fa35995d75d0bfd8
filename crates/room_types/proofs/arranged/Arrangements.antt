-- Items have exactly one ascending arrangement.
use Rattle.std.proofs.Common.{◌≡◌, ℕ, zero, suc, ◌+◌, ◌<◌, Bool, true, false, cond, not, ◌&&◌, List, [], ◌∷◌, length}
use Rattle.std.proofs.Common.{map, get_or, replicate, refl, sym, ap, ◌∙◌, subst, add-one, arith}
use Rattle.std.specs.declared.cmp.Ordering.{Ordering}
use Rattle.std.specs.declared.cmp.Ordering.TheVariants.{Less, Equal, Greater}
use Rattle.std.specs.Ordering.{is_lt, is_gt, on, ordering_reverse}
use Rattle.std.specs.Cmp.{IsTotalOrder}
use Rattle.std.proofs.lemmas.Cmp.{tied_itself, tied_back, alike_right, upto}
use Rattle.std.specs.FinMap.{IsAntisymmetric}
use Rattle.std.specs.List.{AllByRecursion, AllPairs, filter}
use Rattle.std.specs.List.Sorted.{IsPermutation, IsSorted, ties}
use Rattle.std.proofs.lemmas.List.Sorted.{sorted_far, ranks_by, IsPermutation-refl, IsPermutation-sym}
use Rattle.std.proofs.lemmas.List.Sorted.{IsPermutation-trans, IsPermutation-cons, IsPermutation-middle}
use Rattle.std.proofs.lemmas.List.Sorted.{sum_by-IsPermutation}
use Rattle.std.proofs.lemmas.List.{get_or-map, length-map}
use Rattle.std.proofs.lemmas.List.Elements.{recursion_from_All}
use Rattle.std.proofs.lemmas.List.Sums.{length-filter}
use Rattle.room_types.specs.Ascending.{IsArrangement, HasOneArrangement, placed, ascending}

module _ {X : Type 0} (R : X → X → Ordering) (o : IsTotalOrder R) where
  -- whether two items tie
  abbrev tie : X → X → Bool
  tie = ties (λ x y. is_lt (R x y))

  -- x is above none of these
  abbrev AboveNone : X → List X → Type 0
  AboveNone x ys = AllByRecursion (λ y. is_gt (R x y) ≡ false) ys

  abbrev Ascends : List X → Type 0
  Ascends [] = Unit {0}
  Ascends (x ∷ xs) = AboveNone x xs × Ascends xs

  not_above : (x y : X) → is_lt (R y x) ≡ false → is_gt (R x y) ≡ false
  not_above x y h =
      elim (R y x) as (λ r. R y x ≡ r → is_lt r ≡ false → is_gt (R x y) ≡ false) [
        | Less ↦ λ e f. cc
        | Equal ↦ λ e f. ap is_gt (o.antisymm x y ∙ ap ordering_reverse e)
        | Greater ↦ λ e f. ap is_gt (o.antisymm x y ∙ ap ordering_reverse e)
      ] refl h

  ascends_from_pairs : (xs : List X) → AllPairs (λ x y. is_gt (R x y) ≡ false) xs → Ascends xs
  ascends_from_pairs [] h = tt
  ascends_from_pairs (x ∷ xs) h = (
    recursion_from_All (λ y. is_gt (R x y) ≡ false) xs (λ k d within. h 0 (suc k) d (omega arith) (omega arith)),
    ascends_from_pairs xs (λ i j d before within. h (suc i) (suc j) d (omega arith) (omega arith)),
  )

  ascends_from_sort : (xs : List X) → IsSorted R xs → Ascends xs
  ascends_from_sort xs up =
      ascends_from_pairs xs
      (λ i j d before within. not_above _ _
      (sorted_far (λ x y. is_lt (R x y)) (ranks_by o (λ x. x)) xs up i j d (omega arith) within))

  ties_itself : (x : X) → tie x x ≡ true
  ties_itself x = ap (λ r. not (is_lt r) && not (is_lt r)) (tied_itself o x)

  ties_equal : (x y : X) → R x y ≡ Equal → tie x y ≡ true
  ties_equal x y e = ap (λ r. not (is_lt r) && not (is_lt (R y x))) e ∙ ap (λ r. not (is_lt r)) (tied_back o x y e)

  below_not_tied : (x y : X) → R x y ≡ Less → tie x y ≡ false
  below_not_tied x y e = ap (λ r. not (is_lt r) && not (is_lt (R y x))) e

  -- if y is below z, then y is below each item that z is not above
  below_rest : (y z : X) (zs : List X) → R y z ≡ Less → AboveNone z zs → AllByRecursion (λ w. R y w ≡ Less) zs
  below_rest y z [] e h = tt
  below_rest y z (w ∷ zs) e h = (
    elim (R z w) as (λ r. R z w ≡ r → is_gt r ≡ false → R y w ≡ Less) [
      | Less ↦ λ f _. o.trans y z w e f
      | Equal ↦ λ f _. sym (alike_right o z w y f) ∙ e
      | Greater ↦ λ f g. cc
    ] refl h.0,
    below_rest y z zs e h.1,
  )

  no_ties : (y : X) (zs : List X) → AllByRecursion (λ w. R y w ≡ Less) zs → filter (tie y) zs ≡ []
  no_ties y [] h = refl
  no_ties y (z ∷ zs) h = ap (λ b. cond b (z ∷ filter (tie y) zs) (filter (tie y) zs)) (below_not_tied y z h.0)
      ∙ no_ties y zs h.1

  starts_with_itself : (y : X) (ys : List X) → filter (tie y) (y ∷ ys) ≡ y ∷ filter (tie y) ys
  starts_with_itself y ys = ap (λ b. cond b (y ∷ filter (tie y) ys) (filter (tie y) ys)) (ties_itself y)

  -- If the head of one list is below the head of the other, whose head is above none of its items, then the lists
  -- differ in
  -- the items that tie with the smaller head.
  not_below : (y z : X) (ys zs : List X) → R y z ≡ Less → AboveNone z zs → filter (tie y) (y ∷ ys) ≡ filter
      (tie y) (z ∷ zs) → ⊥
  not_below y z ys zs e h same =
      let none : filter (tie y) (z ∷ zs) ≡ [] = no_ties y (z ∷ zs) (e, below_rest y z zs e h) in
      let some = starts_with_itself y ys in
      cc

  same_tails : (y : X) (ys zs : List X) → ((x : X) → filter (tie x) (y ∷ ys) ≡ filter (tie x) (y ∷ zs)) → (x : X)
      → filter (tie x) ys ≡ filter (tie x) zs
  same_tails y ys zs same x =
      elim (tie x y) as
      (λ b. cond b (y ∷ filter (tie x) ys) (filter (tie x) ys) ≡ cond b (y ∷ filter (tie x) zs) (filter (tie x) zs)
      → filter (tie x) ys ≡ filter (tie x) zs) [
        | true ↦ λ e. cc
        | false ↦ λ e. e
      ] (same x)

  -- two ascending lists are equal if, for each x, the items that tie with x are the same in both and in the same order
  one_stable : (ys zs : List X) → Ascends ys → Ascends zs → ((x : X) → filter (tie x) ys ≡ filter (tie x) zs) → ys ≡ zs
  one_stable [] [] up_y up_z same = refl
  one_stable [] (z ∷ zs) up_y up_z same = let some = starts_with_itself z zs in let none = same z in cc
  one_stable (y ∷ ys) [] up_y up_z same = let some = starts_with_itself y ys in let none = same y in cc
  one_stable (y ∷ ys) (z ∷ zs) up_y up_z same =
      elim (R y z) as (λ r. R y z ≡ r → y ∷ ys ≡ z ∷ zs) [
        | Less ↦ λ e. absurd (not_below y z ys zs e up_z.0 (same y))
        | Equal ↦ λ e.
            let first : y ≡ z =
            (let left = starts_with_itself y ys in
            let right : filter (tie y) (z ∷ zs) ≡ z ∷ filter (tie y) zs =
            ap (λ b. cond b (z ∷ filter (tie y) zs) (filter (tie y) zs)) (ties_equal y z e) in
            let both = same y in
            cc) in
            let alike : (x : X) → filter (tie x) (y ∷ ys) ≡ filter (tie x) (y ∷ zs) =
            λ x. same x ∙ ap (λ w. filter (tie x) (w ∷ zs)) (sym first) in
            let rest = one_stable ys zs up_y.1 up_z.1 (same_tails y ys zs alike) in
            cc
        | Greater ↦ λ e. absurd (not_below z y zs ys (o.antisymm z y ∙ ap ordering_reverse e) up_y.0 (sym (same z)))
      ] refl

  above_placed : (x m : X) (ms : List X) → is_gt (R x m) ≡ false → AboveNone x ms → AboveNone x (placed R m ms)
  above_placed x m [] e h = (e, tt)
  above_placed x m (first ∷ rest) e h =
      elim (is_gt (R m first)) as (λ b. AboveNone x (cond b (first ∷ placed R m rest) (m ∷ first ∷ rest))) [
        | true ↦ (h.0, above_placed x m rest e h.1)
        | false ↦ (e, h)
      ]

  above_rest : (m x : X) (xs : List X) → is_gt (R m x) ≡ false → AboveNone x xs → AboveNone m xs
  above_rest m x [] e h = tt
  above_rest m x (y ∷ ys) e h = (upto o m x y e h.0, above_rest m x ys e h.1)

  ascends-placed : (m : X) (ms : List X) → Ascends ms → Ascends (placed R m ms)
  ascends-placed m [] up = (tt, tt)
  ascends-placed m (first ∷ rest) up =
      elim (is_gt (R m first)) as
      (λ b. is_gt (R m first) ≡ b → Ascends (cond b (first ∷ placed R m rest) (m ∷ first ∷ rest))) [
        | true ↦ λ e. (above_placed first m rest (not_back m first e) up.0, ascends-placed m rest up.1)
        | false ↦ λ e. ((e, above_rest m first rest e up.0), up)
      ] refl
    where
      not_back : (x y : X) → is_gt (R x y) ≡ true → is_gt (R y x) ≡ false
      not_back x y h =
          elim (R x y) as (λ r. R x y ≡ r → is_gt r ≡ true → is_gt (R y x) ≡ false) [
            | Less ↦ λ e f. cc
            | Equal ↦ λ e f. cc
            | Greater ↦ λ e f. ap is_gt (o.antisymm y x ∙ ap ordering_reverse e)
          ] refl h

  ascends-ascending : (xs : List X) → Ascends (ascending R xs)
  ascends-ascending [] = tt
  ascends-ascending (x ∷ xs) = ascends-placed x (ascending R xs) (ascends-ascending xs)

  equal_from_tie : (x y : X) → tie x y ≡ true → R x y ≡ Equal
  equal_from_tie x y h =
      elim (R x y) as (λ r. R x y ≡ r → not (is_lt r) && not (is_lt (R y x)) ≡ true → r ≡ Equal) [
        | Less ↦ λ e f. cc
        | Equal ↦ λ e f. refl
        | Greater ↦ λ e f. let below : is_lt (R y x) ≡ true = ap is_lt (o.antisymm y x ∙ ap ordering_reverse e) in
            cc (sym (ap not below) ∙ f)
      ] refl h

  -- two items that tie with x are not above each other
  tied_pair : (x m y : X) → tie x m ≡ true → tie x y ≡ true → is_gt (R m y) ≡ false
  tied_pair x m y p q = ap is_gt (sym (o.congr x m y (equal_from_tie x m p)) ∙ equal_from_tie x y q)

  filter-placed : (x m : X) (ms : List X) → filter (tie x) (placed R m ms) ≡ filter (tie x) (m ∷ ms)
  filter-placed x m [] = refl
  filter-placed x m (first ∷ rest) =
      elim (is_gt (R m first)) as
      (λ b. is_gt (R m first) ≡ b → filter (tie x) (cond b (first ∷ placed R m rest) (m ∷ first ∷ rest)) ≡ filter
      (tie x) (m ∷ first ∷ rest)) [
        | true ↦ λ e. ap (λ t. cond (tie x first) (first ∷ t) t) (filter-placed x m rest) ∙ moved_back e
        | false ↦ λ e. refl
      ] refl
    where
      moved_back : is_gt (R m first) ≡ true → cond (tie x first) (first ∷ filter (tie x) (m ∷ rest))
          (filter (tie x) (m ∷ rest)) ≡ filter (tie x) (m ∷ first ∷ rest)
      moved_back e =
          elim (tie x first) as
          (λ b. tie x first ≡ b → cond b (first ∷ filter (tie x) (m ∷ rest)) (filter (tie x) (m ∷ rest)) ≡ cond
          (tie x m) (m ∷ cond b (first ∷ filter (tie x) rest) (filter (tie x) rest))
          (cond b (first ∷ filter (tie x) rest) (filter (tie x) rest))) [
            | true ↦ λ f. elim (tie x m) as
                (λ b. tie x m ≡ b → first ∷ cond b (m ∷ filter (tie x) rest) (filter (tie x) rest) ≡ cond b
                (m ∷ first ∷ filter (tie x) rest) (first ∷ filter (tie x) rest)) [
                  | true ↦ λ g. let no = tied_pair x m first g f in cc
                  | false ↦ λ g. refl
                ] refl
            | false ↦ λ f. refl
          ] refl

  filter-ascending : (x : X) (xs : List X) → filter (tie x) (ascending R xs) ≡ filter (tie x) xs
  filter-ascending x [] = refl
  filter-ascending x (y ∷ ys) =
      filter-placed x y (ascending R ys) ∙ ap (λ t. cond (tie x y) (y ∷ t) t) (filter-ascending x ys)

  not_below_front : (x y : X) → is_gt (R x y) ≡ false → is_lt (R y x) ≡ false
  not_below_front x y h =
      elim (R x y) as (λ r. R x y ≡ r → is_gt r ≡ false → is_lt (R y x) ≡ false) [
        | Less ↦ λ e f. ap is_lt (o.antisymm y x ∙ ap ordering_reverse e)
        | Equal ↦ λ e f. ap is_lt (o.antisymm y x ∙ ap ordering_reverse e)
        | Greater ↦ λ e f. cc
      ] refl h

  neighbours : (xs : List X) (k : ℕ) (d : X) → Ascends xs → suc k < length xs
      → is_lt (R (get_or xs (suc k) d) (get_or xs k d)) ≡ false
  neighbours [] k d up within = absurd (omega arith)
  neighbours (x ∷ []) k d up within = absurd (omega arith)
  neighbours (x ∷ y ∷ ys) zero d up within = not_below_front x y up.0.0
  neighbours (x ∷ y ∷ ys) (suc k) d up within = neighbours (y ∷ ys) k d up.1 (omega arith)

  sorted_from_ascends : (xs : List X) → Ascends xs → IsSorted R xs
  sorted_from_ascends xs up = λ k d low within.
      subst (λ n. is_lt (R (get_or xs n d) (get_or xs k d)) ≡ false) (sym (add-one k))
      (neighbours xs k d up (omega arith))

  IsPermutation-placed : (x : X) (xs : List X) → IsPermutation (x ∷ xs) (placed R x xs)
  IsPermutation-placed x [] = IsPermutation-refl (x ∷ [])
  IsPermutation-placed x (first ∷ rest) =
      elim (is_gt (R x first)) as
      (λ b. IsPermutation (x ∷ first ∷ rest) (cond b (first ∷ placed R x rest) (x ∷ first ∷ rest))) [
        | true ↦ IsPermutation-trans (x ∷ first ∷ rest) (first ∷ x ∷ rest) (first ∷ placed R x rest)
            (IsPermutation-sym (first ∷ x ∷ rest) (x ∷ first ∷ rest) (IsPermutation-middle (first ∷ []) x rest))
            (IsPermutation-cons first (x ∷ rest) (placed R x rest) (IsPermutation-placed x rest))
        | false ↦ IsPermutation-refl (x ∷ first ∷ rest)
      ]

  IsPermutation-ascending : (xs : List X) → IsPermutation xs (ascending R xs)
  IsPermutation-ascending [] = IsPermutation-refl []
  IsPermutation-ascending (x ∷ xs) =
      IsPermutation-trans (x ∷ xs) (x ∷ ascending R xs) (placed R x (ascending R xs))
      (IsPermutation-cons x xs (ascending R xs) (IsPermutation-ascending xs)) (IsPermutation-placed x (ascending R xs))

  pub arrangements_agree : (xs : List X) → HasOneArrangement R xs
  arrangements_agree xs = record {
    some = record {
      same_items = IsPermutation-ascending xs;
      ascends = sorted_from_ascends (ascending R xs) (ascends-ascending xs);
      ties_stay = λ x. filter-ascending x xs;
    };
    one = λ ys so. one_stable ys (ascending R xs) (ascends_from_sort ys so.ascends) (ascends-ascending xs)
        (λ x. so.ties_stay x ∙ sym (filter-ascending x xs));
  }

  module _ (exact : IsAntisymmetric R) where
    -- under an order in which only equal items tie, the items that tie with x are copies of x
    only_itself : (x : X) (xs : List X) → filter (tie x) xs ≡ replicate (length (filter (tie x) xs)) x
    only_itself x [] = refl
    only_itself x (y ∷ ys) =
        elim (tie x y) as
        (λ b. tie x y ≡ b → cond b (y ∷ filter (tie x) ys) (filter (tie x) ys) ≡ replicate
        (length (cond b (y ∷ filter (tie x) ys) (filter (tie x) ys))) x) [
          | true ↦ λ e. let same = exact x y (equal_from_tie x y e) in let rest = only_itself x ys in
              λ i. sym same i ∷ rest i
          | false ↦ λ e. only_itself x ys
        ] refl

    -- where only equal items tie, any sort is an arrangement: stability comes for free
    pub arranged_by_exact : (xs ys : List X) → IsPermutation xs ys → IsSorted R ys → IsArrangement R xs ys
    arranged_by_exact xs ys same up = record {
      same_items = same;
      ascends = up;
      ties_stay = λ x. only_itself x ys ∙ ap (λ n. replicate n x) (as_many x) ∙ sym (only_itself x xs);
    }
      where
        as_many : (x : X) → length (filter (tie x) ys) ≡ length (filter (tie x) xs)
        as_many x = length-filter (tie x) ys ∙ sum_by-IsPermutation (λ y. cond (tie x y) 1 0) xs ys same
            ∙ sym (length-filter (tie x) xs)

module _ {X Y : Type 0} (f : X → Y) (R : Y → Y → Ordering) where
  map-placed : (x : X) (xs : List X) → map f (placed (on f R) x xs) ≡ placed R (f x) (map f xs)
  map-placed x [] = refl
  map-placed x (first ∷ rest) =
      elim (is_gt (R (f x) (f first))) as
      (λ b. map f (cond b (first ∷ placed (on f R) x rest) (x ∷ first ∷ rest)) ≡ cond b
      (f first ∷ placed R (f x) (map f rest)) (f x ∷ f first ∷ map f rest)) [
        | true ↦ ap (λ t. f first ∷ t) (map-placed x rest)
        | false ↦ refl
      ]

  -- sorting by a key and then taking the keys is the same as taking the keys and sorting them
  pub map-ascending : (xs : List X) → map f (ascending (on f R) xs) ≡ ascending R (map f xs)
  map-ascending [] = refl
  map-ascending (x ∷ xs) = map-placed x (ascending (on f R) xs) ∙ ap (placed R (f x)) (map-ascending xs)

  at_map : (xs : List X) (k : ℕ) (d : X) → k + 1 < length xs
      → is_lt (R (f (get_or xs (k + 1) d)) (f (get_or xs k d))) ≡ false → (e : Y)
      → is_lt (R (get_or (map f xs) (k + 1) e) (get_or (map f xs) k e)) ≡ false
  at_map xs k d within h e = rw (get_or-map f xs (k + 1) d e within, get_or-map f xs k d e (omega arith)) h

  -- the keys of items that are sorted by key are sorted
  pub IsSorted-map : (xs : List X) → IsSorted (on f R) xs → IsSorted R (map f xs)
  IsSorted-map [] up = λ k e low within. absurd (omega arith)
  IsSorted-map (x ∷ xs) up = λ k e low within.
      let in' : k + 1 < length (x ∷ xs) = omega (arith, length-map (x ∷ xs) f) in
      at_map (x ∷ xs) k x in' (up k x low in') e
