-- A list of one row, in whatever order.
use Rattle.std.proofs.Common.{◌≡◌, ℤ, List, [], ◌∷◌, map, length, refl, sym, ap, ◌∙◌, subst, IsPermutation, arith}
use Rattle.std.proofs.lemmas.List.Elements.{recursion_from_All, All-from_recursion}
use Rattle.std.proofs.lemmas.List.Sorted.{All-permutation, length_permutation}
use Rattle.sqlite_value.specs.Order.{Row, column}
use Rattle.sqlite_value.specs.declared.value.Value.TheVariants.{Int}
use Rattle.sqlite.specs.Effect.{Database}
use Rattle.office_db.specs.loading.Finding.{HoldsVersion}
use Rattle.office_schema.specs.tables.Listing.{listed}
use Rattle.office_db.specs.loading.Versions.{IsOnly, only_version}

same_only : (a b : Row) → IsPermutation (a ∷ []) (b ∷ []) → b ≡ a
same_only a b same =
    (recursion_from_All (λ x. x ≡ a) (b ∷ [])
    (All-permutation (λ x. x ≡ a) (a ∷ []) (b ∷ []) same (All-from_recursion (λ x. x ≡ a) (a ∷ []) (refl, tt)))).0

-- The one row that was read is that of the table.
pub held_if_read : (db : Database) (got : List Row) (version : ℤ)
    → IsPermutation (map (listed only_version) (db.trees 6)) got → IsOnly got version → HoldsVersion db version
held_if_read db got version same only =
    go (db.trees 6) (subst (IsPermutation (map (listed only_version) (db.trees 6))) only.1 same)
  where
    go : (rows : List Row) → IsPermutation (map (listed only_version) rows) (only.0 ∷ []) → (row : Row)
        × (rows ≡ row ∷ []) × (column row 2 ≡ Int version)
    go [] perm = let e : 1 ≡ 0 = length_permutation [] (only.0 ∷ []) perm in absurd (omega (arith, e))
    go (r ∷ []) perm =
        (r, refl, ap (λ (x : Row). column x 0) (sym (same_only (listed only_version r) only.0 perm)) ∙ only.2)
    go (r ∷ s ∷ rows) perm =
        let e : 1 ≡ length (map (listed only_version) (r ∷ s ∷ rows)) =
        length_permutation (map (listed only_version) (r ∷ s ∷ rows)) (only.0 ∷ []) perm in
        absurd (omega (arith, e))

-- The one row of the table is the one that was read.
pub read_if_held : (db : Database) (got : List Row) (version : ℤ)
    → IsPermutation (map (listed only_version) (db.trees 6)) got → HoldsVersion db version → IsOnly got version
read_if_held db got version same holds =
    go got (subst (λ (rows : List Row). IsPermutation (map (listed only_version) rows) got) holds.1 same)
  where
    go : (rows : List Row) → IsPermutation (listed only_version holds.0 ∷ []) rows → IsOnly rows version
    go [] perm = let e : 0 ≡ 1 = length_permutation (listed only_version holds.0 ∷ []) [] perm in
        absurd (omega (arith, e))
    go (r ∷ []) perm =
        (r, refl, ap (λ (x : Row). column x 0) (same_only (listed only_version holds.0) r perm) ∙ holds.2)
    go (r ∷ s ∷ rows) perm =
        let e : length (r ∷ s ∷ rows) ≡ 1 = length_permutation (listed only_version holds.0 ∷ []) (r ∷ s ∷ rows) perm in
        absurd (omega (arith, e))
