-- The entries of maps ascend.
use Rattle.std.proofs.Common.{◌≡◌, List, [], ◌∷◌, T}
use Rattle.std.specs.declared.cmp.Ordering.{Ordering}
use Rattle.std.specs.declared.cmp.Ordering.TheVariants.{Less}
use Rattle.std.specs.List.{AllByRecursion}
use Rattle.std.specs.FinMap as map
use Rattle.std.specs.FinMap.{FinMap, entries_sorted}
use Rattle.std.specs.FinMap.Entries.{below_all, is_sorted}
use Rattle.sqlite_trees.specs.Tree.{IsAscending}
use Rattle.room_types.proofs.maps.TextMaps.{first_holds, second_holds, less_from_test}

module _ {K X : Type 0} (R : K → K → Ordering) where
  pub all_above : (k : K) (es : List (K × X)) → T (below_all R k es) → AllByRecursion (λ e. R k e.0 ≡ Less) es
  all_above k [] below = tt
  all_above k (e ∷ es) below =
      (less_from_test (R k e.0) (first_holds _ _ below), all_above k es (second_holds _ _ below))

  pub sorted_entries_ascend : (es : List (K × X)) → T (is_sorted R es) → IsAscending (λ a b. R a.0 b.0 ≡ Less) es
  sorted_entries_ascend [] sorted = tt
  sorted_entries_ascend (e ∷ es) sorted =
      (all_above e.0 es (first_holds _ _ sorted), sorted_entries_ascend es (second_holds _ _ sorted))

  pub entries_rise : (m : FinMap R X) → IsAscending (λ a b. R a.0 b.0 ≡ Less) (map.entries m)
  entries_rise m = sorted_entries_ascend (map.entries m) (entries_sorted m)
