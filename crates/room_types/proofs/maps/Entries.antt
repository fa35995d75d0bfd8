-- The entries of a finite map. What holds for each entry holds at each key, a new key adds one entry, and a map is
-- determined by its entries in any order.
use Rattle.std.proofs.Common.{◌≡◌, Bool, true, false, List, [], ◌∷◌, map as map_list, Some, None, cond, refl, ap, ◌∙◌}
use Rattle.std.proofs.Common.{sym, subst, ◌&&◌, T, IsPermutation}
use Rattle.std.specs.declared.cmp.Ordering.{Ordering}
use Rattle.std.specs.declared.cmp.Ordering.TheVariants.{Less, Equal, Greater}
use Rattle.std.specs.Ordering.{eq_by_cmp, is_eq, is_lt, ordering_reverse}
use Rattle.std.specs.Cmp.{IsTotalOrder, eq_by_cmp_equiv, tied_itself}
use Rattle.std.specs.List.{AllByRecursion, IsDistinct, list_all}
use Rattle.std.specs.FinMap as map
use Rattle.std.specs.FinMap.{FinMap, IsAntisymmetric, find, put, entries_sorted, entries-insert, get-entries, same_map}
use Rattle.std.specs.FinMap.Entries.{below_all, by_order, is_sorted}
use Rattle.std.specs.Cmp.Derive.{both_true}
use Rattle.std.proofs.lemmas.List.Elements.{recursion_from_All, All-from_recursion}
use Rattle.std.proofs.lemmas.List.Sorted.{IsPermutation-refl, IsPermutation-sym, IsPermutation-trans}
use Rattle.std.proofs.lemmas.List.Sorted.{IsPermutation-middle, IsPermutation-cons, IsPermutation-map, All-permutation}
use Rattle.std.proofs.lemmas.Map.Keys.{IsDistinct-IsPermutation}
use Rattle.std.proofs.lemmas.Bool.{and_parts}
use Rattle.room_types.proofs.maps.TextMaps.{first_holds, second_holds, less_from_test}

-- ---- tests

both_hold : (a b : Bool) → T a → T b → T (a && b)
both_hold true b p q = q
both_hold false b p q = p

-- ---- lists

pub each_weaker : {A : Type 0} (P Q : A → Type 0) → ((x : A) → P x → Q x) → (xs : List A) → AllByRecursion P xs
    → AllByRecursion Q xs
each_weaker P Q f [] h = tt
each_weaker P Q f (x ∷ xs) h = (f x h.0, each_weaker P Q f xs h.1)

pub each_always : {A : Type 0} (P : A → Type 0) → ((x : A) → P x) → (xs : List A) → AllByRecursion P xs
each_always P f [] = tt
each_always P f (x ∷ xs) = (f x, each_always P f xs)

pub permuted_all : {A : Type 0} (P : A → Type 0) (xs ys : List A) → IsPermutation xs ys → AllByRecursion P xs
    → AllByRecursion P ys
permuted_all P xs ys same h = recursion_from_All P ys (All-permutation P xs ys same (All-from_recursion P xs h))

pub all_true : {A : Type 0} (test : A → Bool) (xs : List A) → list_all test xs ≡ true
    → AllByRecursion (λ x. test x ≡ true) xs
all_true test [] e = tt
all_true test (x ∷ xs) e = let parts = and_parts (test x) (list_all test xs) e in (parts.0, all_true test xs parts.1)

pub true_all : {A : Type 0} (test : A → Bool) (xs : List A) → AllByRecursion (λ x. test x ≡ true) xs
    → list_all test xs ≡ true
true_all test [] h = refl
true_all test (x ∷ xs) h = both_true h.0 (true_all test xs h.1)

-- ---- entries and keys

pub key_after : {K : Type 0} {R : K → K → Ordering} (o : IsTotalOrder R) (x q : K) → R x q ≡ Less
    → eq_by_cmp R q x ≡ false
key_after o x q e = ap is_eq (o.antisymm q x ∙ ap ordering_reverse e)

module _ {K X : Type 0} (R : K → K → Ordering) where
  pub none_below : (k : K) (es : List (K × X)) → T (below_all R k es) → find R k es ≡ None
  none_below k [] b = refl
  none_below k (e ∷ es) b =
      ap (λ o. cond (is_eq o) (Some e.1) (find R k es)) (less_from_test _ (first_holds _ _ b))
      ∙ none_below k es (second_holds _ _ b)

module _ {K X : Type 0} {R : K → K → Ordering} (o : IsTotalOrder R) where
  pub below_less : (k x : K) (es : List (K × X)) → R k x ≡ Less → T (below_all R x es) → T (below_all R k es)
  below_less k x [] e b = tt
  below_less k x (y ∷ es) e b =
      both_hold _ _ (subst (λ c. T (is_lt c)) (sym (o.trans k x y.0 e (less_from_test _ (first_holds _ _ b)))) tt)
      (below_less k x es e (second_holds _ _ b))

module _ {K X : Type 0} {R : K → K → Ordering} (o : IsTotalOrder R) (exact : IsAntisymmetric R) where
  found_below : (x : K) (v : X) (all es : List (K × X)) → T (below_all R x es)
      → AllByRecursion (λ e. find R e.0 all ≡ Some e.1) es
      → AllByRecursion (λ e. find R e.0 ((x, v) ∷ all) ≡ Some e.1) es
  found_below x v all [] b h = tt
  found_below x v all (e ∷ es) b h = (
    ap (λ t. cond t (Some v) (find R e.0 all)) (key_after o x e.0 (less_from_test _ (first_holds _ _ b))) ∙ h.0,
    found_below x v all es (second_holds _ _ b) h.1,
  )

  -- looking up the key of an entry finds the entry
  pub entries_found : (es : List (K × X)) → T (is_sorted R es) → AllByRecursion (λ e. find R e.0 es ≡ Some e.1) es
  entries_found [] s = tt
  entries_found (e ∷ es) s = (
    ap (λ t. cond (is_eq t) (Some e.1) (find R e.0 es)) (tied_itself o e.0),
    found_below e.0 e.1 es es (first_holds _ _ s) (entries_found es (second_holds _ _ s)),
  )

  -- what holds for each entry holds for whatever a look-up finds
  pub each-find : (P : K → X → Type 0) (es : List (K × X)) (q : K) (v : X) → AllByRecursion (λ e. P e.0 e.1) es
      → find R q es ≡ Some v → P q v
  each-find P [] q v h f = absurd (cc)
  each-find P (e ∷ es) q v h f =
      elim (R q e.0) as (λ t. R q e.0 ≡ t → cond (is_eq t) (Some e.1) (find R q es) ≡ Some v → P q v) [
        | Less ↦ λ c m. each-find P es q v h.1 m
        | Equal ↦ λ c m.
            let key : e.0 ≡ q = sym (exact q e.0 c) in
            let value : e.1 ≡ v = cc in
            subst (λ k. P k v) key (subst (λ x. P e.0 x) value h.0)
        | Greater ↦ λ c m. each-find P es q v h.1 m
      ] refl f

  -- what holds for each entry holds at each key
  pub at_keys : (P : K → X → Type 0) (m : FinMap R X) → AllByRecursion (λ e. P e.0 e.1) (map.entries m)
      → (k : K) (v : X) → map.get m k ≡ Some v → P k v
  at_keys P m h k v e = each-find P (map.entries m) k v h (sym (get-entries m k) ∙ e)

  -- what holds at each key holds for each entry
  pub at_entries : (P : K → X → Type 0) (m : FinMap R X) → ((k : K) (v : X) → map.get m k ≡ Some v → P k v)
      → AllByRecursion (λ e. P e.0 e.1) (map.entries m)
  at_entries P m h =
      each_weaker (λ e. find R e.0 (map.entries m) ≡ Some e.1) (λ e. P e.0 e.1)
      (λ e f. h e.0 e.1 (get-entries m e.0 ∙ f))
      (map.entries m) (entries_found (map.entries m) (entries_sorted m))

  pub all_keys : (test : K → X → Bool) (m : FinMap R X) → list_all (λ e. test e.0 e.1) (map.entries m) ≡ true
      → (k : K) (v : X) → map.get m k ≡ Some v → test k v ≡ true
  all_keys test m e = at_keys (λ k v. test k v ≡ true) m (all_true (λ e. test e.0 e.1) (map.entries m) e)

  pub keys_all : (test : K → X → Bool) (m : FinMap R X) → ((k : K) (v : X) → map.get m k ≡ Some v → test k v ≡ true)
      → list_all (λ e. test e.0 e.1) (map.entries m) ≡ true
  keys_all test m h = true_all (λ e. test e.0 e.1) (map.entries m) (at_entries (λ k v. test k v ≡ true) m h)

  -- ---- inserting a new key adds one entry

  put-new : (k : K) (v : X) (es : List (K × X)) → find R k es ≡ None → IsPermutation ((k, v) ∷ es) (put R k v es)
  put-new k v [] n = IsPermutation-refl _
  put-new k v (e ∷ es) n =
      elim (R k e.0) as (λ c. R k e.0 ≡ c → cond (is_eq c) (Some e.1) (find R k es) ≡ None
      → IsPermutation ((k, v) ∷ e ∷ es) (by_order c ((k, v) ∷ e ∷ es) ((e.0, v) ∷ es) (e ∷ put R k v es))) [
        | Less ↦ λ c m. IsPermutation-refl _
        | Equal ↦ λ c m. absurd (cc)
        | Greater ↦ λ c m.
            IsPermutation-trans _ _ _ (IsPermutation-sym _ _ (IsPermutation-middle (e ∷ []) (k, v) es))
            (IsPermutation-cons e _ _ (put-new k v es m))
      ] refl n

  pub insert-new : (m : FinMap R X) (k : K) (v : X) → map.get m k ≡ None → IsPermutation ((k, v) ∷ map.entries m)
      (map.entries (map.insert m k v))
  insert-new m k v none =
      subst (λ es. IsPermutation ((k, v) ∷ map.entries m) es) (sym (entries-insert o m k v))
      (put-new k v (map.entries m) (sym (get-entries m k) ∙ none))

  -- ---- a map is determined by its entries, in any order

  found_in : (m n : FinMap R X) → IsPermutation (map.entries m) (map.entries n) → (k : K) (v : X) → map.get n k ≡ Some v
      → map.get m k ≡ Some v
  found_in m n same =
      at_keys (λ k v. map.get m k ≡ Some v) n
      (permuted_all (λ (e : K × X). map.get m e.0 ≡ Some e.1) (map.entries m) (map.entries n) same
      (at_entries (λ k v. map.get m k ≡ Some v) m (λ k v f. f)))

  -- two maps in which every look-up finds the same are equal
  pub same_finds : (m n : FinMap R X) → ((k : K) (v : X) → map.get n k ≡ Some v → map.get m k ≡ Some v)
      → ((k : K) (v : X) → map.get m k ≡ Some v → map.get n k ≡ Some v) → m ≡ n
  same_finds m n back there = same_map o exact m n (λ q.
      elim (map.get m q) as (λ c. map.get m q ≡ c → c ≡ map.get n q) [
        | None ↦ λ none. elim (map.get n q) as (λ c. map.get n q ≡ c → None ≡ c) [
          | None ↦ λ _. refl
          | Some v ↦ λ f. let found = back q v f in absurd (cc)
        ] refl
        | Some v ↦ λ f. sym (there q v f)
      ] refl)

  pub one_map : (m n : FinMap R X) → IsPermutation (map.entries m) (map.entries n) → m ≡ n
  one_map m n same = same_finds m n (found_in m n same) (found_in n m (IsPermutation-sym _ _ same))

  -- the keys of the entries differ
  keys_differ : (x : K) (es : List (K × X)) → T (below_all R x es) → AllByRecursion (λ k. eq_by_cmp R x k ≡ false)
      (map_list (λ e. e.0) es)
  keys_differ x [] b = tt
  keys_differ x (e ∷ es) b = (ap is_eq (less_from_test _ (first_holds _ _ b)), keys_differ x es (second_holds _ _ b))

  keys_distinct : (es : List (K × X)) → T (is_sorted R es) → IsDistinct (eq_by_cmp R) (map_list (λ e. e.0) es)
  unfolding IsDistinct
  keys_distinct [] s = tt
  keys_distinct (e ∷ es) s = (keys_differ e.0 es (first_holds _ _ s), keys_distinct es (second_holds _ _ s))

  pub permuted_keys : (m : FinMap R X) (es : List (K × X)) → IsPermutation (map.entries m) es
      → IsDistinct (eq_by_cmp R) (map_list (λ e. e.0) es)
  permuted_keys m es same =
      IsDistinct-IsPermutation (eq_by_cmp R) ((eq_by_cmp_equiv o).symm) _ _
      (IsPermutation-map (λ (e : K × X). e.0) (map.entries m) es same)
      (keys_distinct (map.entries m) (entries_sorted m))
