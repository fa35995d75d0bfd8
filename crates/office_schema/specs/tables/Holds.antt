-- What a table holds.
use Rattle.std.specs.Prelude.{◌≡◌, ℤ, Bool, List, ◌∷◌, map}
use Rattle.std.specs.List.{IsDistinct}
use Rattle.std.specs.List.Sorted.{IsPermutation}
use Rattle.std.specs.Ordering.{is_eq}
use Rattle.sqlite_value.specs.declared.value.Value.TheVariants.{Int}
use Rattle.sqlite_value.specs.Order.{Row, value_cmp}
use Rattle.sqlite_trees.specs.Tree.{rowid}

-- the stored row of a record: its rowid, then its columns
abbrev pub stored : {X : Type 0} → (X → Row) → ℤ × X → Row
stored columns entry = Int entry.0 ∷ columns entry.1

abbrev pub same_rowid : Row → Row → Bool
same_rowid a b = is_eq (value_cmp (rowid a) (rowid b))

-- The table has exactly one row for each of the records, and the rowids are distinct. The records may be in any
-- order.
pub record Holds {X : Type 0} (columns : X → Row) (rows : List Row) (records : List X)
    : Type 0 where
  pub entries : List (ℤ × X)
  pub rows_are : rows ≡ map (stored columns) entries
  pub apart : IsDistinct same_rowid rows
  pub same : IsPermutation records (map (λ (e : ℤ × X). e.1) entries)
