-- The answer of a query in an order in which no two rows are equal.
use Rattle.std.proofs.Common.{◌≡◌, ℕ, true, false, cond, List, [], ◌∷◌, map, flat_map, None, nat_le, unwrap_or, ◌^◌}
use Rattle.std.proofs.Common.{refl, sym, ap, ◌∙◌, subst, IsPermutation, Less}
use Rattle.std.specs.Ordering.{nat_cmp, ordering_then}
use Rattle.std.specs.Cmp.Lexicographic.{slice_cmp}
use Rattle.std.proofs.lemmas.List.Sorted.{IsPermutation-trans}
use Rattle.sqlite_value.specs.Order.{Row, value_cmp}
use Rattle.sqlite_value.specs.declared.value.Value.TheVariants.{Null, Text}
use Rattle.sqlite_value.proofs.OrderLemmas.{value_cmp-Text}
use Rattle.sqlite_value.specs.declared.keys.Key.{Key}
use Rattle.sqlite_sql.specs.Term.{Term, Env}
use Rattle.sqlite_sql.specs.Query.{Join, inner, end, IsAnswerAs, Output, output, output_cmp, matches}
use Rattle.sqlite_sql.specs.Program.{overlay}
use Rattle.sqlite_sql.proofs.QueryLemmas.{output_cmp_total}
use Rattle.sqlite_trees.specs.Tree.{IsAscending, Trees}
use Rattle.sqlite_keyed.proofs.SortLemmas.{sorted_unique}
use Rattle.sqlite.specs.Effect.{Answers, Database}
use Rattle.office_store.specs.exports.Queries.{ordered}
use Rattle.office_schema.specs.tables.Queries.{alone}

no_overlay : (trees : Trees) → overlay trees [] ≡ trees
no_overlay trees = λ i tree. at tree i
  where
    at : (tree : ℕ) → overlay trees [] tree ≡ trees tree
    at tree =
        elim (nat_le (2 ^ 31) tree) as (λ b. unwrap_or (cond b None None) (trees tree) ≡ trees tree)
        [ true ↦ refl | false ↦ refl ]

module _ (from : Join) (project : List Term) (order : List (Term × Key)) where
  abbrev pub Rises : List Output → Type 0
  Rises = IsAscending (λ a b. output_cmp (ordered from project order) a b ≡ Less)

  -- If the rows shown are these in some order, and the keys of these ascend, then these are the answer.
  pub answer_is : (db : Database) (rows : List Row) (outs : List Output)
      → Answers db (alone (ordered from project order)) [] rows
      → IsPermutation outs (map (output (ordered from project order)) (matches db.trees [] from ([] ∷ []))) → Rises outs
      → rows ≡ map (λ (o : Output). o.1) outs
  answer_is db rows outs h same rises =
      let q = ordered from project order in
      let a : IsAnswerAs Null q db.trees [] rows =
      subst (λ (ts : Trees). IsAnswerAs Null q ts [] rows) (no_overlay db.trees) (h.answer Null) in
      let kept : a.kept ≡ map (output q) (matches db.trees [] from ([] ∷ [])) =
      a.distinct ∙ ap (map (output q)) a.grouped in
      let all : IsPermutation outs a.ordered =
      IsPermutation-trans _ _ _ (subst (IsPermutation outs) (sym kept) same) a.same in
      let shown : rows ≡ map (λ (o : Output). o.1) a.ordered = a.shown in
      shown ∙ ap (map (λ (o : Output). o.1))
      (sorted_unique (output_cmp q) (output_cmp_total q) outs a.ordered rises all a.sorted)

-- The matches of one table are its rows.
pub one_table : (trees : Trees) (tree : ℕ) → matches trees [] (inner tree end) ([] ∷ []) ≡ map
    (λ r. [] ∷ r ∷ []) (trees tree)
one_table trees tree = go (trees tree)
  where
    go : (rows : List Row) → flat_map (λ r. ([] ∷ r ∷ []) ∷ []) rows ≡ map (λ (r : Row). [] ∷ r ∷ []) rows
    go [] = refl
    go (r ∷ rows) = ap (λ (l : List Env). ([] ∷ r ∷ []) ∷ l) (go rows)

pub text_before : (a b : List ℕ) (more : _) → slice_cmp nat_cmp a b ≡ Less → ordering_then
    (value_cmp (Text a) (Text b)) more ≡ Less
text_before a b more less = ap (λ o. ordering_then o more) (value_cmp-Text a b ∙ less)
