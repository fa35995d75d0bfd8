-- A `BTreeMap` as the finite map of its entries.
use Rattle.std.proofs.Common.{◌≡◌, List, [], ◌∷◌, length, Some, None, cond, refl, ap, ◌∙◌, sym}
use Rattle.std.specs.declared.cmp.Ordering.{Ordering}
use Rattle.std.specs.Cmp.{IsTotalOrder, eq_by_cmp_equiv}
use Rattle.std.specs.Map.{lookup, keys_of}
use Rattle.std.specs.List.{AllZip}
use Rattle.std.specs.List.Sorted.{IsStrictlySortedBy}
use Rattle.std.specs.FinMap.Entries.{put, by_order}
use Rattle.std.specs.BTreeMap as tree
use Rattle.std.specs.BTreeMap.{BTreeMap, is_at}
use Rattle.std.specs.FinMap as map
use Rattle.std.specs.FinMap.{IsAntisymmetric, find, from_entries, get-from_entries, get-insert, get-remove, same_map}
use Rattle.std.specs.FinMap.{entries-insert, len-entries, len-empty}
use Rattle.std.proofs.lemmas.List.{nil_from_length}

module _ {K X : Type 0} (R : K → K → Ordering) where
  -- both functions find the first entry that ties with the key
  pub find-lookup : (q : K) (es : List (K × X)) → find R q es ≡ lookup (is_at (R q)) es
  find-lookup q [] = refl
  find-lookup q (e ∷ es) = ap (cond (is_at (R q) e.0) (Some e.1)) (find-lookup q es)

module _ {K X : Type 0} {R : K → K → Ordering} (total : IsTotalOrder R) where
  pub get-tree : (m : BTreeMap K X) (q : K) → map.get (from_entries {R = R} m.entries) q ≡ tree.get_by (R q) m
  get-tree m q = get-from_entries total m.entries q ∙ find-lookup R q m.entries

module _ {K X : Type 0} {R : K → K → Ordering} (total : IsTotalOrder R) (exact : IsAntisymmetric R) where
  -- the map after an insertion
  pub insert-tree : (m n : BTreeMap K X) (k : K) (v : X)
      → ((q : K) → tree.get R n q ≡ cond (is_at (R k) q) (Some v) (tree.get R m q))
      → from_entries {R = R} n.entries ≡ map.insert (from_entries m.entries) k v
  insert-tree m n k v updates = same_map total exact _ _ (λ q.
      get-tree total n q ∙ updates q
      ∙ ap (λ o. cond (is_at (R k) q) (Some v) o) (sym (get-tree total m q))
      ∙ ap (λ b. cond b (Some v) (map.get (from_entries {R = R} m.entries) q)) ((eq_by_cmp_equiv total).symm k q)
      ∙ sym (get-insert total (from_entries m.entries) k v q))

  -- the map after a removal
  pub remove-tree : (m n : BTreeMap K X) (k : K)
      → ((q : K) → tree.get R n q ≡ cond (is_at (R k) q) None (tree.get R m q))
      → from_entries {R = R} n.entries ≡ map.remove (from_entries m.entries) k
  remove-tree m n k updates = same_map total exact _ _ (λ q.
      get-tree total n q ∙ updates q
      ∙ ap (λ o. cond (is_at (R k) q) None o) (sym (get-tree total m q))
      ∙ ap (λ b. cond b None (map.get (from_entries {R = R} m.entries) q)) ((eq_by_cmp_equiv total).symm k q)
      ∙ sym (get-remove total (from_entries m.entries) k q))

module _ {K X : Type 0} {R : K → K → Ordering} (total : IsTotalOrder R) where
  put-first : (k : K) (v : X) (es : List (K × X)) → IsStrictlySortedBy R (k ∷ keys_of es) → put R k v es ≡ (k, v) ∷ es
  unfolding IsStrictlySortedBy
  put-first k v [] s = refl
  put-first k v (e ∷ es) s = ap (λ o. by_order o ((k, v) ∷ e ∷ es) ((e.0, v) ∷ es) (e ∷ put R k v es)) s.0.0

  pub entries-empty : map.entries (map.empty {X = X} {R = R}) ≡ []
  entries-empty = nil_from_length _ (sym (len-entries (map.empty {X = X} {R = R})) ∙ len-empty R X)

  -- entries in strictly ascending order are the entries of the map that they make
  pub entries-sorted : (es : List (K × X)) → IsStrictlySortedBy R (keys_of es)
      → map.entries (from_entries {R = R} es) ≡ es
  unfolding IsStrictlySortedBy
  entries-sorted [] s = entries-empty
  entries-sorted (e ∷ es) s =
      entries-insert total (from_entries es) e.0 e.1
      ∙ ap (put R e.0 e.1) (entries-sorted es s.1)
      ∙ put-first e.0 e.1 es s

  -- a tree has the same entries as its map
  pub entries-tree : (m : BTreeMap K X) → tree.IsOrdered R m → map.entries (from_entries {R = R} m.entries) ≡ m.entries
  entries-tree m s = entries-sorted m.entries s

  pub len-tree : (m : BTreeMap K X) → tree.IsOrdered R m
      → map.len (from_entries {R = R} m.entries) ≡ tree.btree_map_len m
  len-tree m s = len-entries _ ∙ ap length (entries-tree m s)

-- entries with equal keys and equal values are equal
pub same_pairs : {K X : Type 0} (C : K → K → Type 0) (D : X → X → Type 0) → ((x y : K) → C x y → y ≡ x)
    → ((x y : X) → D x y → y ≡ x)
    → (es fs : List (K × X)) → AllZip (λ p q. C p.0 q.0 × D p.1 q.1) es fs → fs ≡ es
same_pairs C D c d [] [] h = refl
same_pairs C D c d [] (f ∷ fs) h = absurd h
same_pairs C D c d (e ∷ es) [] h = absurd h
same_pairs C D c d (e ∷ es) (f ∷ fs) h =
    let rest = same_pairs C D c d es fs h.1 in
    λ i. (c e.0 f.0 h.0.0 i, d e.1 f.1 h.0.1 i) ∷ rest i
