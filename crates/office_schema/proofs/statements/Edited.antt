-- The rows of a table after an edit, up to their order.
use Rattle.std.proofs.Common.{◌≡◌, ℤ, Bool, true, false, not, ◌&&◌, ◌||◌, IsTrue, List, [], ◌∷◌, ◌++◌, map, filter}
use Rattle.std.proofs.Common.{refl, sym, ap, ◌∙◌, cond, true≢false, Less, Equal, Greater, Ordering}
use Rattle.std.specs.List.{AllByRecursion, list_any, IsDistinct}
use Rattle.std.proofs.lemmas.Map.Keys.{IsDistinct-head, IsDistinct-tail, IsDistinct-cons, IsDistinct-IsPermutation}
use Rattle.office_schema.specs.tables.Holds.{same_rowid}
use Rattle.std.specs.Ordering.{is_eq, match_ordering}
use Rattle.std.specs.List.Sorted.{IsPermutation}
use Rattle.std.proofs.lemmas.List.Sorted.{IsPermutation-refl, IsPermutation-trans, IsPermutation-sym}
use Rattle.std.proofs.lemmas.List.Sorted.{IsPermutation-cons, IsPermutation-middle, IsPermutation-append_right}
use Rattle.std.proofs.lemmas.List.Sorted.{list_any-IsPermutation}
use Rattle.std.proofs.lemmas.Bool.{and_parts, not-true}
use Rattle.sqlite_value.specs.Order.{Row, value_cmp}
use Rattle.sqlite_value.specs.declared.value.Value.TheVariants.{Int}
use Rattle.sqlite_trees.specs.Tree.{rowid, put_row, without_rowid, has_rowid}
use Rattle.sqlite_trees.specs.View.{is_int}
use Rattle.sqlite_rules.specs.Edit.{put_all, without_all, is_taken, are_fresh}
use Rattle.std.specs.Ordering.{ordering_reverse}
use Rattle.sqlite_value.proofs.OrderLemmas.{value_cmp_total}
use Rattle.std.proofs.lemmas.Cmp.{tied_itself}
use Rattle.sqlite_rules.specs.Edit.{id_in}
use Rattle.sqlite_rules.proofs.TableLemmas.{int_is}
use Rattle.sqlite_keyed.proofs.ListLemmas.{filter_same, none_from_any, filter_all, all_map, all-filter, all_weaker}
use Rattle.sqlite_keyed.proofs.RuleLemmas.{each_true}

-- The rows have distinct rowids, which are integers.
pub record IsNumbered (rows : List Row) : Type 0 where
  pub apart : IsDistinct same_rowid rows
  pub keyed : AllByRecursion (λ r. IsTrue (is_int (rowid r))) rows

-- A row whose rowid is free is added.
pub put_free : (new : Row) (rows : List Row) → is_taken rows new ≡ false → IsPermutation (put_row new rows) (new ∷ rows)
put_free new [] free = IsPermutation-refl _
put_free new (r ∷ rows) free = go (value_cmp (rowid r) (rowid new)) refl (λ h. put_free new rows h)
  where
    go : (o : Ordering) → value_cmp (rowid r) (rowid new) ≡ o
        → (is_taken rows new ≡ false → IsPermutation (put_row new rows) (new ∷ rows))
        → IsPermutation (match_ordering o (r ∷ put_row new rows) (new ∷ rows) (new ∷ r ∷ rows)) (new ∷ r ∷ rows)
    go Less e more =
        let later : is_taken rows new ≡ false = rw e at free in
        IsPermutation-trans _ _ _ (IsPermutation-cons r _ _ (more later)) (IsPermutation-middle (r ∷ []) new rows)
    go Equal e more = absurd (true≢false (rw e at free))
    go Greater e more = IsPermutation-refl _

pub put_all_free : (news rows : List Row) → are_fresh rows news ≡ true → IsPermutation (put_all rows news)
    (news ++ rows)
put_all_free [] rows fresh = IsPermutation-refl _
put_all_free (n ∷ news) rows fresh =
    let both = and_parts (not (is_taken rows n)) (are_fresh (put_row n rows) news) fresh in
    let free : is_taken rows n ≡ false = not-true _ both.0 in
    IsPermutation-trans _ _ _ (put_all_free news (put_row n rows) both.1)
    (IsPermutation-trans _ _ _ (IsPermutation-append_right news _ _ (put_free n rows free))
    (IsPermutation-middle news n rows))

pub flips : (a b : Row) → same_rowid a b ≡ same_rowid b a
flips a b = ap is_eq (value_cmp_total.antisymm (rowid a) (rowid b)) ∙ turned (value_cmp (rowid b) (rowid a))
  where
    turned : (o : Ordering) → is_eq (ordering_reverse o) ≡ is_eq o
    turned Less = refl
    turned Equal = refl
    turned Greater = refl

pub apart_filter : (p : Row → Bool) (rows : List Row) → IsDistinct same_rowid rows
    → IsDistinct same_rowid (filter p rows)
apart_filter p [] up = up
apart_filter p (r ∷ rows) up = go (p r) (apart_filter p rows (IsDistinct-tail same_rowid r rows up))
  where
    go : (b : Bool) → IsDistinct same_rowid (filter p rows)
        → IsDistinct same_rowid (cond b (r ∷ filter p rows) (filter p rows))
    go true more =
        IsDistinct-cons same_rowid r (filter p rows) (all-filter _ p rows (IsDistinct-head same_rowid r rows up)) more
    go false more = more

pub put_all_apart : (news rows : List Row) → are_fresh rows news ≡ true → IsDistinct same_rowid rows
    → IsDistinct same_rowid (put_all rows news)
put_all_apart [] rows fresh up = up
put_all_apart (n ∷ news) rows fresh up =
    let both = and_parts (not (is_taken rows n)) (are_fresh (put_row n rows) news) fresh in
    let free : is_taken rows n ≡ false = not-true _ both.0 in
    let first : IsDistinct same_rowid (n ∷ rows) =
    IsDistinct-cons same_rowid n rows
    (all_weaker _ (λ r. same_rowid n r ≡ false) (λ r h. flips n r ∙ h) rows
    (none_from_any (λ r. same_rowid r n) rows free)) up in
    put_all_apart news (put_row n rows) both.1
    (IsDistinct-IsPermutation same_rowid flips _ _ (IsPermutation-sym _ _ (put_free n rows free)) first)

filter_both : {X : Type 0} (p q : X → Bool) (xs : List X) → filter p (filter q xs) ≡ filter (λ x. q x && p x) xs
filter_both p q [] = refl
filter_both p q (x ∷ xs) = go (q x) (filter_both p q xs)
  where
    go : (b : Bool) → filter p (filter q xs) ≡ filter (λ y. q y && p y) xs
        → filter p (cond b (x ∷ filter q xs) (filter q xs)) ≡ cond (b && p x) (x ∷ filter (λ y. q y && p y) xs)
        (filter (λ y. q y && p y) xs)
    go true more = ap (λ l. cond (p x) (x ∷ l) l) more
    go false more = more

without_any : (rows : List Row) (ids : List ℤ)
    → without_all rows ids ≡ filter (λ r. not (list_any (λ id. has_rowid id r) ids)) rows
without_any rows [] = sym (filter_all _ rows (each_true rows))
without_any rows (id ∷ ids) =
    without_any (without_rowid id rows) ids ∙ filter_both _ _ rows
    ∙ filter_same _ _ (λ r. neither (has_rowid id r) (list_any (λ z. has_rowid z r) ids)) rows
  where
    neither : (a b : Bool) → (not a && not b) ≡ not (a || b)
    neither true b = refl
    neither false b = refl

-- The order of the rowids does not matter.
pub without_permuted : (rows : List Row) (ids jds : List ℤ) → IsPermutation ids jds
    → without_all rows jds ≡ without_all rows ids
without_permuted rows ids jds same =
    without_any rows jds
    ∙ filter_same _ _ (λ r. ap not (sym (list_any-IsPermutation (λ id. has_rowid id r) ids jds same))) rows
    ∙ sym (without_any rows ids)

module _ (p : Row → Bool) where
  abbrev pub ids_where : List Row → List ℤ
  ids_where rows = map (λ r. id_in (rowid r)) (filter p rows)

  removes_past : (ids : List ℤ) (x : Row) (xs : List Row) → AllByRecursion (λ id. has_rowid id x ≡ false) ids
      → without_all (x ∷ xs) ids ≡ x ∷ without_all xs ids
  removes_past [] x xs above = refl
  removes_past (id ∷ ids) x xs above = rw above.0 (removes_past ids x (without_rowid id xs) above.1)

  others : (x : Row) (xs : List Row) → IsTrue (is_int (rowid x)) → AllByRecursion (λ y. same_rowid x y ≡ false) xs
      → AllByRecursion (λ y. IsTrue (is_int (rowid y))) xs
      → AllByRecursion (λ y. has_rowid (id_in (rowid y)) x ≡ false) xs
      × AllByRecursion (λ y. has_rowid (id_in (rowid x)) y ≡ false) xs
  others x [] int above ints = (tt, tt)
  others x (y ∷ xs) int above ints =
      let more = others x xs int above.1 ints.1 in
      let first : rowid x ≡ Int (id_in (rowid x)) = int_is _ int in
      let second : rowid y ≡ Int (id_in (rowid y)) = int_is _ ints.0 in (
        (ap is_eq (ap (value_cmp (rowid x)) (sym second)) ∙ above.0, more.0),
        (ap is_eq (ap (value_cmp (rowid y)) (sym first)) ∙ flips y x ∙ above.0, more.1),
      )

  pub removes_where : (rows : List Row) → IsNumbered rows → without_all rows (ids_where rows) ≡ filter
      (λ r. not (p r)) rows
  removes_where [] up = refl
  removes_where (x ∷ xs) up =
      go (p x) (removes_where xs (record { apart = IsDistinct-tail same_rowid x xs up.apart; keyed = up.keyed.1 }))
    where
      apart : AllByRecursion (λ y. has_rowid (id_in (rowid y)) x ≡ false) xs × AllByRecursion
          (λ y. has_rowid (id_in (rowid x)) y ≡ false) xs
      apart = others x xs up.keyed.0 (IsDistinct-head same_rowid x xs up.apart) up.keyed.1

      go : (b : Bool) → without_all xs (ids_where xs) ≡ filter (λ r. not (p r)) xs
          → without_all (x ∷ xs) (map (λ r. id_in (rowid r)) (cond b (x ∷ filter p xs) (filter p xs))) ≡ cond (not b)
          (x ∷ filter (λ r. not (p r)) xs) (filter (λ r. not (p r)) xs)
      go true more =
          let own : has_rowid (id_in (rowid x)) x ≡ true =
          ap is_eq (ap (value_cmp (rowid x)) (sym (int_is _ up.keyed.0)) ∙ tied_itself value_cmp_total (rowid x)) in
          let kept : without_rowid (id_in (rowid x)) xs ≡ xs =
          filter_all _ xs (all_weaker _ _ (λ y h. ap not h) xs apart.1) in
          let gone : without_rowid (id_in (rowid x)) (x ∷ xs) ≡ xs = rw own kept in
          ap (λ l. without_all l (ids_where xs)) gone ∙ more
      go false more = removes_past _ x xs (all_map _ (λ r. id_in (rowid r)) _ (all-filter _ p xs apart.0))
          ∙ ap (λ l. x ∷ l) more
