-- The rows for which reading may allocate, because the record stores a text. Table `round` has none. In table `move`,
-- these rows begin with the number of a round and a text of the grammar. In each other table, they begin with a text
-- of the grammar. Reading any other row allocates nothing, whether or not the row has the form of a record.
use Rattle.std.specs.Prelude.{◌≡◌, ◌⊎◌, ◌<◌, ℕ, Bool, List, length, slice_index_or, take}
use Rattle.std.specs.List.{All}
use Rattle.sqlite_value.specs.Order.{Row, column}
use Rattle.office_schema.specs.cells.Cells.{IsTextOf, IsShort}

-- The first column is a text of the grammar.
abbrev pub BeginsWith : (List ℕ → Bool) → Row → Type 0
BeginsWith is_text row = IsTextOf is_text (column row 0)

-- The first column is an unsigned integer of 16 bits, and the second a text of the grammar.
abbrev pub FollowsNumber : (List ℕ → Bool) → Row → Type 0
FollowsNumber is_text row = IsShort (column row 0) × IsTextOf is_text (column row 1)

-- satisfied by no row
abbrev pub IsNever : Row → Type 0
IsNever row = ⊥

-- Reading these rows may allocate at `row`, the row at `place`. All rows before it have the form. Either reading
-- `row` may allocate, or `row` has the form and its record is stored.
pub record Allocates (MayAllocate IsForm : Row → Type 0) (rows : List Row) : Type 0 where
  pub place : ℕ
  pub row : Row
  pub low : place < length rows
  pub there : slice_index_or rows place row ≡ row
  pub before : All IsForm (take place rows)
  pub may_allocate : MayAllocate row ⊎ IsForm row
