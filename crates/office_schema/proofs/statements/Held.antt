-- The records of a table after an edit.
use Rattle.std.proofs.Common.{◌≡◌, ℤ, Bool, true, false, not, IsTrue, List, [], ◌∷◌, ◌++◌, map, filter, refl, sym, ap}
use Rattle.std.proofs.Common.{◌∙◌, subst, cond}
use Rattle.std.specs.List.{AllByRecursion, IsDistinct}
use Rattle.std.specs.List.Sorted.{IsPermutation}
use Rattle.std.proofs.lemmas.List.Sorted.{IsPermutation-refl, IsPermutation-trans, IsPermutation-sym}
use Rattle.std.proofs.lemmas.List.Sorted.{IsPermutation-cons, IsPermutation-map, IsPermutation-append}
use Rattle.std.proofs.lemmas.List.Sorted.{IsPermutation-middle}
use Rattle.sqlite_value.specs.Order.{Row}
use Rattle.sqlite_trees.specs.Tree.{rowid}
use Rattle.sqlite_trees.specs.View.{is_int}
use Rattle.sqlite_trees.proofs.ListLemmas.{pull_back, IsPermutation-filter}
use Rattle.sqlite_rules.specs.Edit.{put_all, without_all, are_fresh}
use Rattle.sqlite_keyed.specs.Lists.{update_where, delete_where}
use Rattle.sqlite_keyed.proofs.ListLemmas.{map-map, filter-map, filter_same}
use Rattle.std.proofs.lemmas.List.{map-append}
use Rattle.std.proofs.Common.{ap₂}
use Rattle.office_schema.specs.tables.Holds.{stored, Holds, same_rowid}
use Rattle.office_schema.proofs.statements.Edited.{IsNumbered, put_all_free, put_all_apart, apart_filter}
use Rattle.office_schema.proofs.statements.Edited.{without_permuted, removes_where, ids_where}

module _ {X : Type 0} (columns : X → Row) where
  all_keyed : (entries : List (ℤ × X)) → AllByRecursion (λ r. IsTrue (is_int (rowid r))) (map (stored columns) entries)
  all_keyed [] = tt
  all_keyed (e ∷ entries) = (refl, all_keyed entries)

  pub numbered_if_held : (rows : List Row) (xs : List X) → Holds columns rows xs → IsNumbered rows
  numbered_if_held rows xs h =
      record {
        apart = h.apart;
        keyed = subst (AllByRecursion (λ r. IsTrue (is_int (rowid r)))) (sym h.rows_are)
            (all_keyed h.entries);
      }

  pub none_held : Holds columns [] []
  unfolding IsDistinct
  none_held = record { entries = []; rows_are = refl; apart = tt; same = IsPermutation-refl [] }

  -- The order of the records does not matter.
  pub held_permuted : (rows : List Row) (xs ys : List X) → IsPermutation ys xs → Holds columns rows xs
      → Holds columns rows ys
  held_permuted rows xs ys same h =
      record {
        entries = h.entries;
        rows_are = h.rows_are;
        apart = h.apart;
        same = IsPermutation-trans _ _ _ same h.same;
      }

  -- The rows that are inserted have free rowids.
  pub held_put : (left news : List Row) (kept added : List (ℤ × X)) → left ≡ map (stored columns) kept
      → IsDistinct same_rowid left → IsPermutation (map (stored columns) added) news → are_fresh left news ≡ true
      → Holds columns (put_all left news) (map (λ (e : ℤ × X). e.1) (added ++ kept))
  held_put left news kept added left_is up same fresh =
      let all : IsPermutation (map (stored columns) (added ++ kept)) (put_all left news) =
      rw (map-append, ← left_is)
      (IsPermutation-trans _ _ _ (IsPermutation-append _ _ _ _ same (IsPermutation-refl left))
      (IsPermutation-sym _ _ (put_all_free news left fresh))) in
      let back = pull_back (stored columns) _ _ all (added ++ kept) refl in
      record {
        entries = back.0;
        rows_are = back.2;
        apart = put_all_apart news left fresh up;
        same = IsPermutation-map (λ (e : ℤ × X). e.1) _ _ back.1;
      }

  pub held_inserted : (rows : List Row) (xs : List X) (id : ℤ) (x : X) → Holds columns rows xs
      → are_fresh rows (stored columns (id, x) ∷ []) ≡ true
      → Holds columns (put_all rows (stored columns (id, x) ∷ [])) (x ∷ xs)
  held_inserted rows xs id x h fresh =
      held_permuted _ _ _ (IsPermutation-cons x _ _ h.same)
      (held_put rows _ h.entries ((id, x) ∷ []) h.rows_are h.apart (IsPermutation-refl _) fresh)

  module _ (p : Row → Bool) (q : X → Bool) (tells : (e : ℤ × X) → p (stored columns e) ≡ q e.1) where
    pub found_by : (entries : List (ℤ × X)) → filter p (map (stored columns) entries) ≡ map (stored columns)
        (filter (λ e. q e.1) entries)
    found_by entries = filter-map p (stored columns) entries ∙ ap (map (stored columns)) (filter_same _ _ tells entries)

    left_by : (entries : List (ℤ × X)) → filter (λ r. not (p r)) (map (stored columns) entries) ≡ map (stored columns)
        (filter (λ e. not (q e.1)) entries)
    left_by entries = filter-map (λ r. not (p r)) (stored columns) entries ∙ ap (map (stored columns))
        (filter_same _ _ (λ e. ap not (tells e)) entries)

    -- The rows that remain after the matching ones are deleted.
    taken_out : (rows : List Row) (xs : List X) (h : Holds columns rows xs) (ids : List ℤ)
        → IsPermutation (ids_where p rows) ids → without_all rows ids ≡ map (stored columns)
        (filter (λ e. not (q e.1)) h.entries)
    taken_out rows xs h ids same =
        without_permuted rows _ ids same ∙ removes_where p rows (numbered_if_held rows xs h)
        ∙ ap (filter (λ r. not (p r))) h.rows_are ∙ left_by h.entries

    pub held_deleted : (rows : List Row) (xs : List X) → Holds columns rows xs → (ids : List ℤ)
        → IsPermutation (ids_where p rows) ids → Holds columns (without_all rows ids) (delete_where q xs)
    held_deleted rows xs h ids same =
        let left = taken_out rows xs h ids same in
        record {
          entries = filter (λ e. not (q e.1)) h.entries;
          rows_are = left;
          apart = subst (IsDistinct same_rowid)
              (sym (without_permuted rows _ ids same ∙ removes_where p rows (numbered_if_held rows xs h)))
              (apart_filter _ rows h.apart);
          same = subst (IsPermutation (delete_where q xs)) (filter-map (λ x. not (q x)) (λ (e : ℤ × X). e.1) h.entries)
              (IsPermutation-filter _ _ _ h.same);
        }

    module _ (f : X → X) where
      abbrev moved : ℤ × X → ℤ × X
      moved e = (e.0, f e.1)

      apart : (xs : List X) → IsPermutation (update_where q f xs) (map f (filter q xs) ++ filter (λ x. not (q x)) xs)
      apart [] = IsPermutation-refl []
      apart (x ∷ xs) = go (q x) (apart xs)
        where
          go : (b : Bool) → IsPermutation (update_where q f xs) (map f (filter q xs) ++ filter (λ y. not (q y)) xs)
              → IsPermutation (cond b (f x) x ∷ update_where q f xs)
              (map f (cond b (x ∷ filter q xs) (filter q xs)) ++ cond (not b) (x ∷ filter (λ y. not (q y)) xs)
              (filter (λ y. not (q y)) xs))
          go true more = IsPermutation-cons (f x) _ _ more
          go false more =
              IsPermutation-trans _ _ _ (IsPermutation-cons x _ _ more)
              (IsPermutation-sym _ _ (IsPermutation-middle (map f (filter q xs)) x (filter (λ y. not (q y)) xs)))

      pub held_updated : (rows : List Row) (xs : List X) (h : Holds columns rows xs) (ids : List ℤ) (news : List Row)
          → IsPermutation (ids_where p rows) ids
          → IsPermutation (map (λ e. stored columns (moved e)) (filter (λ e. q e.1) h.entries)) news
          → are_fresh (without_all rows ids) news ≡ true
          → Holds columns (put_all (without_all rows ids) news) (update_where q f xs)
      held_updated rows xs h ids news same put fresh =
          let left = taken_out rows xs h ids same in
          let up : IsDistinct same_rowid (without_all rows ids) = (held_deleted rows xs h ids same).apart in
          let added = map moved (filter (λ e. q e.1) h.entries) in
          let news_are : IsPermutation (map (stored columns) added) news =
          subst (λ l. IsPermutation l news)
          (sym (map-map (stored columns) moved (filter (λ e. q e.1) h.entries))) put in
          let all = held_put _ news (filter (λ e. not (q e.1)) h.entries) added left up news_are fresh in
          let records : map (λ (e : ℤ × X). e.1) (added ++ filter (λ e. not (q e.1)) h.entries)
          ≡ map f (filter q (map (λ (e : ℤ × X). e.1) h.entries))
          ++ filter (λ x. not (q x)) (map (λ (e : ℤ × X). e.1) h.entries) =
          map-append (λ (e : ℤ × X). e.1) added (filter (λ e. not (q e.1)) h.entries)
          ∙ ap₂ ◌++◌ (map-map (λ (e : ℤ × X). e.1) moved (filter (λ e. q e.1) h.entries)
          ∙ sym (map-map f (λ (e : ℤ × X). e.1) (filter (λ e. q e.1) h.entries))
          ∙ ap (map f) (sym (filter-map q (λ (e : ℤ × X). e.1) h.entries)))
          (sym (filter-map (λ x. not (q x)) (λ (e : ℤ × X). e.1) h.entries)) in
          held_permuted _ _ _
          (subst (IsPermutation (update_where q f xs)) (sym records)
          (IsPermutation-trans _ _ _ (IsPermutation-map _ _ _ h.same) (apart (map (λ (e : ℤ × X). e.1) h.entries))))
          all
