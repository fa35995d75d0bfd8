-- The effect of a statement on the records that a table holds.
use Rattle.std.proofs.Common.{◌≡◌, ℤ, Bool, true, List, [], ◌∷◌, map, filter, drop, sym, ap, ◌∙◌, subst}
use Rattle.std.specs.List.Sorted.{IsPermutation}
use Rattle.std.proofs.lemmas.List.Sorted.{IsPermutation-map}
use Rattle.sqlite_value.specs.Order.{Row}
use Rattle.sqlite_sql.specs.Term.{Term}
use Rattle.sqlite_trees.specs.Tree.{rowid}
use Rattle.sqlite_schema.specs.declared.schema.Table.{Table}
use Rattle.sqlite_rules.specs.Edit.{edit_of, put_all, without_all, are_fresh, with_rowid, numbered, id_in}
use Rattle.sqlite_rules.specs.declared.error.Rowids.TheVariants.{Chosen, Given}
use Rattle.sqlite_rules.specs.Cast.{cast_row}
use Rattle.sqlite_rules.specs.Calls.{ids_of}
use Rattle.sqlite_rules.proofs.PlaceLemmas.{given}
use Rattle.sqlite.specs.Effect.{Database, Answers}
use Rattle.sqlite_keyed.specs.Lists.{update_where, delete_where}
use Rattle.sqlite_keyed.proofs.ListLemmas.{map-map, map_same}
use Rattle.office_schema.specs.tables.Queries.{over, alone}
use Rattle.office_schema.specs.tables.Holds.{stored, Holds}
use Rattle.office_schema.proofs.statements.Edited.{ids_where}
use Rattle.office_schema.proofs.statements.Held.{held_inserted, held_deleted, held_updated, found_by}
use Rattle.office_schema.proofs.statements.Rows.{Turned, passes, shows, answer_over}

module _ {X : Type 0} (columns : X → Row) (table : Table) (old new : Database) (xs : List X)
    (held : Holds columns (old.trees table.tree) xs) where
  -- One more row, whose rowid is given or chosen.
  pub insert_held : (source : Row) (id : ℤ) (x : X) → with_rowid Chosen (old.trees table.tree)
      (cast_row table source) ≡ stored columns (id, x)
      → Turned table old new (edit_of old.trees table [] Chosen 0 (source ∷ []))
      → Holds columns (new.trees table.tree) (x ∷ xs)
  insert_held source id x is t =
      let rows = old.trees table.tree in
      let fresh : are_fresh rows (stored columns (id, x) ∷ []) ≡ true =
      subst (λ (r : Row). are_fresh rows (r ∷ []) ≡ true) is t.fresh in
      let put : new.trees table.tree ≡ put_all rows (stored columns (id, x) ∷ []) =
      subst (λ (r : Row). new.trees table.tree ≡ put_all rows (r ∷ [])) is t.rows in
      subst (λ (l : List Row). Holds columns l (x ∷ xs)) (sym put) (held_inserted columns rows xs id x held fresh)

  module _ (params : Row) (tests project : List Term) (keyed : (r : Row) → rowid (shows params project r) ≡ rowid r)
      (q : X → Bool) (tells : (e : ℤ × X) → passes params tests (stored columns e) ≡ q e.1)
      (found : List Row) (answer : Answers old (alone (over table.tree tests project [])) params found) where
    abbrev rows : List Row
    rows = old.trees table.tree

    abbrev p : Row → Bool
    p = passes params tests

    same_rows_found : IsPermutation (map (shows params project) (filter p rows)) found
    same_rows_found = answer_over table.tree tests project [] old params found answer

    ids_same : IsPermutation (ids_where p rows) (ids_of found)
    ids_same =
        subst (λ (l : List ℤ). IsPermutation l (ids_of found))
        (map-map (λ r. id_in (rowid r)) (shows params project) (filter p rows)
        ∙ map_same _ _ (λ r. ap id_in (keyed r)) (filter p rows))
        (IsPermutation-map (λ r. id_in (rowid r)) _ _ same_rows_found)

    pub delete_held : Turned table old new (edit_of old.trees table (ids_of found) Given 0 [])
        → Holds columns (new.trees table.tree) (delete_where q xs)
    delete_held t = subst (λ (l : List Row). Holds columns l (delete_where q xs)) (sym t.rows)
        (held_deleted columns p q tells rows xs held (ids_of found) ids_same)

    pub update_held : (f : X → X)
        → ((e : ℤ × X) → cast_row table (drop 1 (shows params project (stored columns e))) ≡ stored columns
        (e.0, f e.1))
        → Turned table old new (edit_of old.trees table (ids_of found) Given 1 found)
        → Holds columns (new.trees table.tree) (update_where q f xs)
    update_held f changed t =
        let left = without_all rows (ids_of found) in
        let news = map (λ s. cast_row table (drop 1 s)) found in
        let as_given : numbered Given left news ≡ news = given left news in
        let fresh : are_fresh left news ≡ true = subst (λ (l : List Row). are_fresh left l ≡ true) as_given t.fresh in
        let put : new.trees table.tree ≡ put_all left news = t.rows ∙ ap (put_all left) as_given in
        let news_are : map (λ s. cast_row table (drop 1 s)) (map (shows params project) (filter p rows)) ≡ map
        (λ e. stored columns (e.0, f e.1)) (filter (λ e. q e.1) held.entries) =
        map-map _ (shows params project) (filter p rows)
        ∙ ap (λ (l : List Row). map (λ r. cast_row table (drop 1 (shows params project r))) (filter p l))
        held.rows_are
        ∙ ap (map (λ r. cast_row table (drop 1 (shows params project r)))) (found_by columns p q tells held.entries)
        ∙ map-map _ (stored columns) (filter (λ e. q e.1) held.entries) ∙ map_same _ _ changed
        (filter (λ e. q e.1) held.entries) in
        let put_in : IsPermutation (map (λ e. stored columns (e.0, f e.1)) (filter (λ e. q e.1) held.entries)) news =
        subst (λ (l : List Row). IsPermutation l news) news_are
        (IsPermutation-map (λ s. cast_row table (drop 1 s)) _ _ same_rows_found) in
        subst (λ (l : List Row). Holds columns l (update_where q f xs)) (sym put)
        (held_updated columns p q tells f rows xs held (ids_of found) news ids_same put_in fresh)
