-- The effect of a change of a map on the rows of its entries.
use Rattle.std.proofs.Common.{◌≡◌, Bool, true, false, not, List, [], ◌∷◌, ◌++◌, map, Some, None, cond}
use Rattle.std.proofs.Common.{refl, sym, ap, ap₂, ◌∙◌, subst, T, append_assoc, IsPermutation}
use Rattle.std.specs.List.{flat_map, AllByRecursion}
use Rattle.std.proofs.lemmas.List.Sorted.{IsPermutation-refl, IsPermutation-trans, IsPermutation-append_right}
use Rattle.std.proofs.lemmas.List.Sorted.{IsPermutation-append_comm, IsPermutation-append_left}
use Rattle.std.proofs.lemmas.List.Concat.{flat_map_single}
use Rattle.std.proofs.lemmas.List.Elements.{filter-append}
use Rattle.std.specs.declared.cmp.Ordering.TheVariants.{Less, Equal, Greater}
use Rattle.std.specs.Ordering.{eq_by_cmp, is_eq, ordering_reverse}
use Rattle.std.specs.Cmp.{tied_itself, eq_by_cmp_equiv}
use Rattle.std.specs.Cmp.Lexicographic.{nat_list_cmp_total}
use Rattle.std.specs.FinMap as maps
use Rattle.std.specs.FinMap.{find, put, is_sorted, entries_sorted, entries-insert, same_map, from_sorted}
use Rattle.std.specs.FinMap.{get-remove, get-entries, get-from_sorted, entries-from_sorted}
use Rattle.std.specs.FinMap.Entries.{below_all, by_order, where_key, is_sorted-where_key, find-where_key}
use Rattle.sqlite_keyed.specs.Lists.{update_where, delete_where}
use Rattle.sqlite_keyed.proofs.ListLemmas.{filter_all, filter_none}
use Rattle.room_types.specs.Texts.{Text, TextMap, text_cmp}
use Rattle.room_types.proofs.maps.TextMaps.{exact_texts, first_holds, second_holds, less_from_test}
use Rattle.room_types.proofs.maps.Entries.{key_after, none_below, below_less}

earlier : (k x : Text) → text_cmp k x ≡ Greater → eq_by_cmp text_cmp x k ≡ false
earlier k x e = ap is_eq (nat_list_cmp_total.antisymm x k ∙ ap ordering_reverse e)

turned : {A : Type 0} (b : Bool) (x y : A) → cond (not b) x y ≡ cond b y x
turned true x y = refl
turned false x y = refl

-- the entries of the other keys
abbrev others : {X : Type 0} → Text → List (Text × X) → List (Text × X)
others k es = where_key text_cmp (λ x. not (eq_by_cmp text_cmp k x)) es

entries-remove : {X : Type 0} (m : TextMap X) (k : Text)
    → maps.entries (maps.remove m k) ≡ others k (maps.entries m)
entries-remove {X = X} m k =
    let p : Text → Bool = λ x. not (eq_by_cmp text_cmp k x) in
    let es : List (Text × X) = where_key text_cmp p (maps.entries m) in
    let sorted : T (is_sorted text_cmp es) = is_sorted-where_key text_cmp p (maps.entries m) (entries_sorted m) in
    let same : maps.remove m k ≡ from_sorted es = same_map nat_list_cmp_total exact_texts _ _ (λ q.
    get-remove nat_list_cmp_total m k q
    ∙ ap (λ b. cond b None (maps.get m q)) ((eq_by_cmp_equiv nat_list_cmp_total).symm q k)
    ∙ sym (turned (eq_by_cmp text_cmp k q) (maps.get m q) None)
    ∙ ap (λ o. cond (p q) o None) (get-entries m q)
    ∙ sym (find-where_key text_cmp p q (λ x t. ap p (sym (exact_texts q x t))) (maps.entries m))
    ∙ sym (get-from_sorted text_cmp es q sorted)) in
    ap maps.entries same ∙ entries-from_sorted text_cmp es sorted

-- Each entry has rows that contain its key. A test picks the rows of one key.
module _ {X Row : Type 0} (rows : Text × X → List Row) (key : Row → Text)
    (keyed : (e : Text × X) → AllByRecursion (λ r. key r ≡ e.0) (rows e))
    (k : Text) (mine : Row → Bool) (tells : (r : Row) → mine r ≡ eq_by_cmp text_cmp (key r) k) where
  all_mine : (x : Text) (rs : List Row) → x ≡ k → AllByRecursion (λ r. key r ≡ x) rs
      → AllByRecursion (λ r. not (mine r) ≡ false) rs
  all_mine x [] e h = tt
  all_mine x (r ∷ rs) e h = (
    ap not (tells r ∙ ap (λ q. eq_by_cmp text_cmp q k) (h.0 ∙ e) ∙ ap is_eq (tied_itself nat_list_cmp_total k)),
    all_mine x rs e h.1,
  )

  none_mine : (x : Text) (rs : List Row) → eq_by_cmp text_cmp x k ≡ false → AllByRecursion (λ r. key r ≡ x) rs
      → AllByRecursion (λ r. not (mine r) ≡ true) rs
  none_mine x [] e h = tt
  none_mine x (r ∷ rs) e h =
      (ap not (tells r ∙ ap (λ q. eq_by_cmp text_cmp q k) h.0 ∙ e), none_mine x rs e h.1)

  -- the rows of the first entry, and what remains of those of the others
  left_of : (e : Text × X) (es : List (Text × X))
      → delete_where mine (rows e ++ flat_map rows es)
      ≡ delete_where mine (rows e) ++ delete_where mine (flat_map rows es)
  left_of e es = filter-append (λ r. not (mine r)) (rows e) (flat_map rows es)

  -- An entry of another key keeps its rows.
  stays : (e : Text × X) (es : List (Text × X)) → eq_by_cmp text_cmp e.0 k ≡ false
      → delete_where mine (rows e ++ flat_map rows es) ≡ rows e ++ delete_where mine (flat_map rows es)
  stays e es differs =
      left_of e es
      ∙ ap (λ l. l ++ delete_where mine (flat_map rows es))
      (filter_all (λ r. not (mine r)) (rows e) (none_mine e.0 (rows e) differs (keyed e)))

  -- An entry of this key loses them.
  goes : (e : Text × X) (es : List (Text × X)) → e.0 ≡ k
      → delete_where mine (rows e ++ flat_map rows es) ≡ delete_where mine (flat_map rows es)
  goes e es same =
      left_of e es
      ∙ ap (λ l. l ++ delete_where mine (flat_map rows es))
      (filter_none (λ r. not (mine r)) (rows e) (all_mine e.0 (rows e) same (keyed e)))

  -- Rows of keys after `k` are not its rows.
  kept_later : (es : List (Text × X)) → T (below_all text_cmp k es)
      → delete_where mine (flat_map rows es) ≡ flat_map rows es
  kept_later [] b = refl
  kept_later (e ∷ es) b =
      stays e es (key_after nat_list_cmp_total k e.0 (less_from_test _ (first_holds _ _ b)))
      ∙ ap (λ l. rows e ++ l) (kept_later es (second_holds _ _ b))

  -- Inserting an entry gives its rows and those of the other keys.
  put-rows : (v : X) (es : List (Text × X)) → T (is_sorted text_cmp es)
      → IsPermutation (flat_map rows (put text_cmp k v es)) (rows (k, v) ++ delete_where mine (flat_map rows es))
  put-rows v [] s = IsPermutation-refl _
  put-rows v (e ∷ es) s =
      elim (text_cmp k e.0) as (λ o. text_cmp k e.0 ≡ o
      → IsPermutation (flat_map rows (by_order o ((k, v) ∷ e ∷ es) ((e.0, v) ∷ es) (e ∷ put text_cmp k v es)))
      (rows (k, v) ++ delete_where mine (rows e ++ flat_map rows es))) [
        | Less ↦ λ c.
            let kept : delete_where mine (rows e ++ flat_map rows es) ≡ rows e ++ flat_map rows es =
            stays e es (key_after nat_list_cmp_total k e.0 c)
            ∙ ap (λ l. rows e ++ l)
            (kept_later es (below_less nat_list_cmp_total k e.0 es c (first_holds _ _ s))) in
            subst (λ l. IsPermutation (rows (k, v) ++ (rows e ++ flat_map rows es)) (rows (k, v) ++ l)) (sym kept)
            (IsPermutation-refl _)
        | Equal ↦ λ c.
            let same : k ≡ e.0 = exact_texts k e.0 c in
            let below : T (below_all text_cmp k es) = subst (λ q. T (below_all text_cmp q es)) (sym same)
            (first_holds _ _ s) in
            let out : delete_where mine (rows e ++ flat_map rows es) ≡ flat_map rows es =
            goes e es (sym same) ∙ kept_later es below in
            subst (λ l. IsPermutation (rows (e.0, v) ++ flat_map rows es) (rows (k, v) ++ l)) (sym out)
            (subst (λ q. IsPermutation (rows (e.0, v) ++ flat_map rows es) (rows (q, v) ++ flat_map rows es)) (sym same)
            (IsPermutation-refl _))
        | Greater ↦ λ c.
            let left : List Row = delete_where mine (flat_map rows es) in
            subst (λ l. IsPermutation (rows e ++ flat_map rows (put text_cmp k v es)) (rows (k, v) ++ l))
            (sym (stays e es (earlier k e.0 c)))
            (IsPermutation-trans _ _ _
            (IsPermutation-append_right (rows e) _ _ (put-rows v es (second_holds _ _ s)))
            (subst (λ l. IsPermutation (rows e ++ (rows (k, v) ++ left)) l) (append_assoc (rows (k, v)) (rows e) left)
            (subst (λ l. IsPermutation l ((rows (k, v) ++ rows e) ++ left)) (append_assoc (rows e) (rows (k, v)) left)
            (IsPermutation-append_left left _ _ (IsPermutation-append_comm (rows e) (rows (k, v)))))))
      ] refl

  gone-rows : (es : List (Text × X)) → flat_map rows (others k es) ≡ delete_where mine (flat_map rows es)
  gone-rows [] = refl
  gone-rows (e ∷ es) =
      elim (text_cmp k e.0) as (λ o. text_cmp k e.0 ≡ o
      → flat_map rows (cond (not (is_eq o)) (e ∷ others k es) (others k es))
      ≡ delete_where mine (rows e ++ flat_map rows es)) [
        | Less ↦ λ c. ap (λ l. rows e ++ l) (gone-rows es)
            ∙ sym (stays e es (key_after nat_list_cmp_total k e.0 c))
        | Equal ↦ λ c. gone-rows es ∙ sym (goes e es (sym (exact_texts k e.0 c)))
        | Greater ↦ λ c. ap (λ l. rows e ++ l) (gone-rows es)
            ∙ sym (stays e es (earlier k e.0 c))
      ] refl

  kept-rows : (es : List (Text × X)) → find text_cmp k es ≡ None → delete_where mine (flat_map rows es)
      ≡ flat_map rows es
  kept-rows [] h = refl
  kept-rows (e ∷ es) h =
      elim (text_cmp k e.0) as (λ o. text_cmp k e.0 ≡ o → cond (is_eq o) (Some e.1) (find text_cmp k es) ≡ None
      → delete_where mine (rows e ++ flat_map rows es) ≡ rows e ++ flat_map rows es) [
        | Less ↦ λ c m. stays e es (key_after nat_list_cmp_total k e.0 c)
            ∙ ap (λ l. rows e ++ l) (kept-rows es m)
        | Equal ↦ λ c m. absurd (cc)
        | Greater ↦ λ c m. stays e es (earlier k e.0 c)
            ∙ ap (λ l. rows e ++ l) (kept-rows es m)
      ] refl h

  -- Inserting at a key deletes the rows of the key and adds those of the entry.
  pub rows_put : (m : TextMap X) (v : X)
      → IsPermutation (flat_map rows (maps.entries (maps.insert m k v)))
      (rows (k, v) ++ delete_where mine (flat_map rows (maps.entries m)))
  rows_put m v =
      subst (λ es. IsPermutation (flat_map rows es) (rows (k, v) ++ delete_where mine (flat_map rows (maps.entries m))))
      (sym (entries-insert nat_list_cmp_total m k v)) (put-rows v (maps.entries m) (entries_sorted m))

  -- Removing a key removes its rows.
  pub rows_gone : (m : TextMap X)
      → flat_map rows (maps.entries (maps.remove m k)) ≡ delete_where mine (flat_map rows (maps.entries m))
  rows_gone m = ap (flat_map rows) (entries-remove m k) ∙ gone-rows (maps.entries m)

  -- A key without a value has no rows.
  pub rows_kept : (m : TextMap X) → maps.get m k ≡ None
      → delete_where mine (flat_map rows (maps.entries m)) ≡ flat_map rows (maps.entries m)
  rows_kept m none = kept-rows (maps.entries m) (sym (get-entries m k) ∙ none)

-- Each entry has one row, which contains its key. A test picks the row of one key.
module _ {X Row : Type 0} (row : Text × X → Row) (key : Row → Text) (keyed : (e : Text × X) → key (row e) ≡ e.0)
    (k : Text) (mine : Row → Bool) (tells : (r : Row) → mine r ≡ eq_by_cmp text_cmp (key r) k) where
  abbrev single : Text × X → List Row
  single e = row e ∷ []

  keyed_alone : (e : Text × X) → AllByRecursion (λ r. key r ≡ e.0) (single e)
  keyed_alone e = (keyed e, tt)

  pub row_put : (m : TextMap X) (v : X)
      → IsPermutation (map row (maps.entries (maps.insert m k v)))
      (row (k, v) ∷ delete_where mine (map row (maps.entries m)))
  row_put m v =
      subst (λ l. IsPermutation l (row (k, v) ∷ delete_where mine (map row (maps.entries m))))
      (flat_map_single row (maps.entries (maps.insert m k v)))
      (subst (λ l. IsPermutation (flat_map single (maps.entries (maps.insert m k v)))
      (row (k, v) ∷ delete_where mine l))
      (flat_map_single row (maps.entries m)) (rows_put single key keyed_alone k mine tells m v))

  pub row_gone : (m : TextMap X)
      → map row (maps.entries (maps.remove m k)) ≡ delete_where mine (map row (maps.entries m))
  row_gone m =
      sym (flat_map_single row (maps.entries (maps.remove m k)))
      ∙ rows_gone single key keyed_alone k mine tells m
      ∙ ap (delete_where mine) (flat_map_single row (maps.entries m))

  pub row_added : (m : TextMap X) (v : X) → maps.get m k ≡ None
      → IsPermutation (map row (maps.entries (maps.insert m k v))) (row (k, v) ∷ map row (maps.entries m))
  row_added m v none =
      let kept : delete_where mine (map row (maps.entries m)) ≡ map row (maps.entries m) =
      ap (delete_where mine) (sym (flat_map_single row (maps.entries m)))
      ∙ rows_kept single key keyed_alone k mine tells m none
      ∙ flat_map_single row (maps.entries m) in
      subst (λ l. IsPermutation (map row (maps.entries (maps.insert m k v))) (row (k, v) ∷ l)) kept (row_put m v)

  module _ (f : Row → Row) where
    other_key_unchanged : (e : Text × X) → eq_by_cmp text_cmp e.0 k ≡ false → cond (mine (row e)) (f (row e))
        (row e) ≡ row e
    other_key_unchanged e differs =
        ap (λ b. cond b (f (row e)) (row e)) (tells (row e) ∙ ap (λ q. eq_by_cmp text_cmp q k) (keyed e) ∙ differs)

    same_later : (es : List (Text × X)) → T (below_all text_cmp k es)
        → update_where mine f (map row es) ≡ map row es
    same_later [] b = refl
    same_later (e ∷ es) b =
        ap₂ (λ r rs. r ∷ rs)
        (other_key_unchanged e (key_after nat_list_cmp_total k e.0 (less_from_test _ (first_holds _ _ b))))
        (same_later es (second_holds _ _ b))

    unchanged : (es : List (Text × X)) → find text_cmp k es ≡ None → update_where mine f (map row es) ≡ map row es
    unchanged [] h = refl
    unchanged (e ∷ es) h =
        elim (text_cmp k e.0) as (λ o. text_cmp k e.0 ≡ o → cond (is_eq o) (Some e.1) (find text_cmp k es) ≡ None
        → cond (mine (row e)) (f (row e)) (row e) ∷ update_where mine f (map row es) ≡ row e ∷ map row es) [
          | Less ↦ λ c m. ap₂ (λ r rs. r ∷ rs) (other_key_unchanged e (key_after nat_list_cmp_total k e.0 c))
              (unchanged es m)
          | Equal ↦ λ c m. absurd (cc)
          | Greater ↦ λ c m. ap₂ (λ r rs. r ∷ rs) (other_key_unchanged e (earlier k e.0 c))
              (unchanged es m)
        ] refl h

    update_puts : (v kept : X) (es : List (Text × X)) → T (is_sorted text_cmp es) → find text_cmp k es ≡ Some kept
        → f (row (k, kept)) ≡ row (k, v) → update_where mine f (map row es) ≡ map row (put text_cmp k v es)
    update_puts v kept [] s h to = absurd (cc)
    update_puts v kept (e ∷ es) s h to =
        elim (text_cmp k e.0) as (λ o. text_cmp k e.0 ≡ o → cond (is_eq o) (Some e.1) (find text_cmp k es) ≡ Some kept
        → cond (mine (row e)) (f (row e)) (row e) ∷ update_where mine f (map row es)
        ≡ map row (by_order o ((k, v) ∷ e ∷ es) ((e.0, v) ∷ es) (e ∷ put text_cmp k v es))) [
          | Less ↦ λ c m. let none = none_below text_cmp k es
              (below_less nat_list_cmp_total k e.0 es c (first_holds _ _ s)) in absurd (cc)
          | Equal ↦ λ c m.
              let same : k ≡ e.0 = exact_texts k e.0 c in
              let value : e.1 ≡ kept = cc in
              let hit : mine (row e) ≡ true =
              tells (row e) ∙ ap (λ q. eq_by_cmp text_cmp q k) (keyed e ∙ sym same)
              ∙ ap is_eq (tied_itself nat_list_cmp_total k) in
              let from : f (row e) ≡ f (row (k, kept)) = ap₂ (λ q x. f (row (q, x))) (sym same) value in
              let below : T (below_all text_cmp k es) = subst (λ q. T (below_all text_cmp q es)) (sym same)
              (first_holds _ _ s) in
              ap₂ (λ r rs. r ∷ rs) (ap (λ b. cond b (f (row e)) (row e)) hit ∙ from ∙ to ∙ ap (λ q. row (q, v)) same)
              (same_later es below)
          | Greater ↦ λ c m. ap₂ (λ r rs. r ∷ rs) (other_key_unchanged e (earlier k e.0 c))
              (update_puts v kept es (second_holds _ _ s) m to)
        ] refl h

    -- An unknown key has no row, and nothing changes.
    pub row_unknown : (m : TextMap X) → maps.get m k ≡ None
        → map row (maps.entries m) ≡ update_where mine f (map row (maps.entries m))
    row_unknown m none = sym (unchanged (maps.entries m) (sym (get-entries m k) ∙ none))

    -- The row of a known key is changed in place.
    pub row_changed : (m : TextMap X) (v kept : X) → maps.get m k ≡ Some kept → f (row (k, kept)) ≡ row (k, v)
        → map row (maps.entries (maps.insert m k v)) ≡ update_where mine f (map row (maps.entries m))
    row_changed m v kept known to =
        ap (map row) (entries-insert nat_list_cmp_total m k v)
        ∙ sym (update_puts v kept (maps.entries m) (entries_sorted m) (sym (get-entries m k) ∙ known) to)
