-- What finite maps from texts contain after a change: lemmas for the crates above.
use Rattle.std.specs.Prelude.{◌≡◌, ◌+◌, Bool, true, false, ◌&&◌, T, List, [], ◌∷◌, map, Some, None, cond, refl, ◌⊎◌}
use Rattle.std.proofs.Common.{sym, ap, ◌∙◌, subst, inl, inr}
use Rattle.std.proofs.lemmas.Bool.{false≢true}
use Rattle.std.proofs.lemmas.Simd.{map-map}
use Rattle.std.specs.declared.cmp.Ordering.{Ordering}
use Rattle.std.specs.declared.cmp.Ordering.TheVariants.{Less, Equal, Greater}
use Rattle.std.specs.Ordering.{eq_by_cmp, is_eq, is_lt, nat_cmp}
use Rattle.std.specs.Cmp.{tied_itself}
use Rattle.std.specs.Cmp.Lexicographic.{nat_list_cmp_total, slice_cmp}
use Rattle.std.specs.FinMap.Entries.{below_all}
use Rattle.std.specs.List.{AllByRecursion}
use Rattle.std.specs.List.Sorted.{IsStrictlySortedBy}
use Rattle.std.specs.Option.{is_some}
use Rattle.std.specs.FinMap as maps
use Rattle.std.specs.FinMap.{entries_sorted, is_sorted, get-insert, get-remove, len-insert}
use Rattle.std.specs.FinMap.{IsAntisymmetric, slice_cmp-IsAntisymmetric, nat_cmp-IsAntisymmetric}
use Rattle.room_types.specs.Ascending.{AscendsBy}
use Rattle.room_types.specs.Texts.{Text, TextMap, text_cmp}

-- two texts that tie are equal
pub exact_texts : IsAntisymmetric (slice_cmp nat_cmp)
exact_texts = slice_cmp-IsAntisymmetric nat_cmp-IsAntisymmetric

-- two texts are equal, or do not tie
pub text_cases : (q k : Text) → (q ≡ k) ⊎ (eq_by_cmp text_cmp q k ≡ false)
text_cases q k =
    elim (text_cmp q k) as (λ o. text_cmp q k ≡ o → (q ≡ k) ⊎ (is_eq o ≡ false)) [
      | Less ↦ λ e. inr refl
      | Equal ↦ λ e. inl (exact_texts q k e)
      | Greater ↦ λ e. inr refl
    ] refl

pub tied_text : (q k : Text) → eq_by_cmp text_cmp q k ≡ true → q ≡ k
tied_text q k ties =
    elim (text_cases q k) as (λ _. q ≡ k)
    [ inl same ↦ same | inr other ↦ absurd (false≢true (sym other ∙ ties)) ]

-- equal texts cannot fail to tie
pub unequal_texts : (q k : Text) → q ≡ k → eq_by_cmp text_cmp q k ≡ false → ⊥
unequal_texts q k same other =
    let ties : eq_by_cmp text_cmp q k ≡ true =
    ap (λ p. eq_by_cmp text_cmp p k) same ∙ ap is_eq (tied_itself nat_list_cmp_total k) in
    cc

-- the parts of a conjunction
pub first_holds : (a b : Bool) → T (a && b) → T a
first_holds true b h = tt
first_holds false b h = h

pub second_holds : (a b : Bool) → T (a && b) → T b
second_holds true b h = h
second_holds false b h = absurd h

pub less_from_test : (o : Ordering) → T (is_lt o) → o ≡ Less
less_from_test Less p = refl
less_from_test Equal p = absurd p
less_from_test Greater p = absurd p

module _ {X : Type 0} where
  below_key : (x : Text) (es : List (Text × X)) → T (below_all text_cmp x es)
      → AllByRecursion (λ y. text_cmp x y ≡ Less) (map (λ e. e.0) es)
  below_key x [] below = tt
  below_key x (e ∷ es) below =
      (less_from_test (text_cmp x e.0) (first_holds _ _ below), below_key x es (second_holds _ _ below))

  keys_ascend : (es : List (Text × X)) → T (is_sorted text_cmp es) → AscendsBy (λ e. e.0) es
  unfolding IsStrictlySortedBy
  keys_ascend [] up = tt
  keys_ascend (e ∷ es) up =
      (below_key e.0 es (first_holds _ _ up), keys_ascend es (second_holds _ _ up))

  -- the entries ascend by key
  pub entries_ascend : (m : TextMap X) → AscendsBy (λ e. e.0) (maps.entries m)
  entries_ascend m = keys_ascend (maps.entries m) (entries_sorted m)

  -- rows made from the entries, with the same keys, ascend too
  pub rows_ascend : {Row : Type 0} (row : Text × X → Row) (key : Row → Text)
      → ((e : Text × X) → key (row e) ≡ e.0)
      → (m : TextMap X) → AscendsBy key (map row (maps.entries m))
  rows_ascend row key same m =
      subst (λ keys. IsStrictlySortedBy text_cmp keys)
      (sym (map-map key row (maps.entries m)
      ∙ ap (λ f. map f (maps.entries m)) (λ i e. same e i))) (entries_ascend m)

  pub get-put_same : (m : TextMap X) (k : Text) (v : X) → maps.get (maps.insert m k v) k ≡ Some v
  get-put_same m k v =
      get-insert nat_list_cmp_total m k v k
      ∙ ap (λ o. cond (is_eq o) (Some v) (maps.get m k)) (tied_itself nat_list_cmp_total k)

  pub get-put_other : (m : TextMap X) (k : Text) (v : X) (q : Text) → eq_by_cmp text_cmp q k ≡ false
      → maps.get (maps.insert m k v) q ≡ maps.get m q
  get-put_other m k v q e = get-insert nat_list_cmp_total m k v q
      ∙ ap (λ b. cond b (Some v) (maps.get m q)) e

  pub get-gone_same : (m : TextMap X) (k : Text) → maps.get (maps.remove m k) k ≡ None
  get-gone_same m k =
      get-remove nat_list_cmp_total m k k
      ∙ ap (λ o. cond (is_eq o) None (maps.get m k)) (tied_itself nat_list_cmp_total k)

  pub get-gone_other : (m : TextMap X) (k : Text) (q : Text) → eq_by_cmp text_cmp q k ≡ false
      → maps.get (maps.remove m k) q ≡ maps.get m q
  get-gone_other m k q e = get-remove nat_list_cmp_total m k q
      ∙ ap (λ b. cond b None (maps.get m q)) e

  -- inserting, under any key, a value equal to the one that a look-up finds leaves the look-up as it is
  pub get-put_either : (m : TextMap X) (k : Text) (v : X) (q : Text) (w : X) → v ≡ w
      → maps.get m q ≡ Some w
      → maps.get (maps.insert m k v) q ≡ Some w
  get-put_either m k v q w e h =
      elim (text_cases q k) as (λ _. maps.get (maps.insert m k v) q ≡ Some w) [
        | inl same ↦ ap (λ p. maps.get (maps.insert m k v) p) same ∙ get-put_same m k v
            ∙ ap (λ x. Some x) e
        | inr other ↦ get-put_other m k v q other ∙ h
      ]

  pub contains_key-put_same : (m : TextMap X) (k : Text) (v : X)
      → maps.contains_key (maps.insert m k v) k ≡ true
  contains_key-put_same m k v = ap is_some (get-put_same m k v)

  -- a key that the map contains stays in it
  pub contains_key-put : (m : TextMap X) (k : Text) (v : X) (q : Text)
      → maps.contains_key m q ≡ true
      → maps.contains_key (maps.insert m k v) q ≡ true
  contains_key-put m k v q h =
      elim (text_cases q k) as (λ _. maps.contains_key (maps.insert m k v) q ≡ true) [
        | inl same ↦ ap (λ p. maps.contains_key (maps.insert m k v) p) same
            ∙ contains_key-put_same m k v
        | inr other ↦ ap is_some (get-put_other m k v q other) ∙ h
      ]

  pub len-put_known : (m : TextMap X) (k : Text) (v : X) → maps.contains_key m k ≡ true
      → maps.len (maps.insert m k v) ≡ maps.len m
  len-put_known m k v known = len-insert nat_list_cmp_total m k v
      ∙ ap (λ b. cond b (maps.len m) (maps.len m + 1)) known

  pub len-put_fresh : (m : TextMap X) (k : Text) (v : X) → maps.contains_key m k ≡ false
      → maps.len (maps.insert m k v) ≡ maps.len m + 1
  len-put_fresh m k v new = len-insert nat_list_cmp_total m k v
      ∙ ap (λ b. cond b (maps.len m) (maps.len m + 1)) new
