-- The result of a run.
use Rattle.std.specs.Prelude.{ℕ, Option, List}

-- the result of a run: the room of each person, and the numbers of asks and looks
pub record Given : Type 0 where
  pub rooms : List (Option ℕ)
  pub asks : ℕ
  pub looks : ℕ
