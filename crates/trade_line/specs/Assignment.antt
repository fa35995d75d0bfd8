-- Assignments: functions that give each person a room or nothing. Definitions of individually rational and of Pareto
-- efficient assignments.
use Rattle.std.specs.Prelude.{◌≡◌, ℕ, ◌<◌, ◌≤◌, Option, Some, None, List, slice_index_or}
use Rattle.trade_line.specs.Market.{Market, floor}
use Rattle.trade_line.specs.Rank.{rank}

-- each person gets a room of the market or nothing, and no two people get the same room
pub record IsAssignment (m : Market) (f : ℕ → Option ℕ) : Type 0 where
  pub known : (p r : ℕ) → p < m.people → f p ≡ Some r → r < m.rooms
  pub differ : (p q r : ℕ) → p < m.people → q < m.people → f p ≡ Some r → f q ≡ Some r → p ≡ q

-- what p gets, where `rooms` has what each person gets
abbrev pub given_in : List (Option ℕ) → ℕ → Option ℕ
given_in rooms p = slice_index_or rooms p None

-- nobody ranks what they get below their own floor
abbrev pub IsIndividuallyRational : Market → (ℕ → Option ℕ) → Type 0
IsIndividuallyRational m f = (p : ℕ) → p < m.people → rank m p (f p) ≤ rank m p (floor m p)

-- if nobody is worse off at another assignment than at f, then that assignment gives everybody what f gives
abbrev pub IsEfficient : Market → (ℕ → Option ℕ) → Type 0
IsEfficient m f =
    (a : ℕ → Option ℕ) → IsAssignment m a
    → ((p : ℕ) → p < m.people → rank m p (a p) ≤ rank m p (f p))
    → (p : ℕ) → p < m.people → a p ≡ f p
