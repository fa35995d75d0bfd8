-- What reading rows returns.
use Rattle.std.specs.Prelude.{◌≡◌, List, Option, Some}
use Rattle.std.specs.Option.{IfSome}
use Rattle.std.specs.List.Sorted.{IsPermutation}

-- If `found` has a value, this value satisfies `IsValid` and has these rows, in some order. If any value satisfies
-- `IsValid` and has these rows, `found` has that value. So at most one value satisfies `IsValid` and has these rows,
-- and `found` is `None` only if there is no such value.
pub record Reads {Row M : Type 0} (IsValid : M → Type 0) (rows_of : M → List Row) (rows : List Row)
    (found : Option M) : Type 0 where
  pub returned : IfSome found (λ m. IsValid m × IsPermutation (rows_of m) rows)
  pub only : (m : M) → IsValid m → IsPermutation (rows_of m) rows → found ≡ Some m

-- satisfied by every value
abbrev pub IsAny : {M : Type 0} → M → Type 0
IsAny m = Unit {0}
