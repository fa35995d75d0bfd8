-- The strict core among tenants (Shapley and Scarf 1974). An assignment is in the strict core if no group of tenants,
-- by trading their own homes among themselves, can make one of them better off and none of them worse off. If no room
-- is vacant, exactly one assignment is in the strict core (Roth and Postlewaite 1977, where everybody is a tenant;
-- here there may be newcomers too).
use Rattle.std.specs.Prelude.{◌≡◌, ℕ, ◌<◌, ◌≤◌, Bool, true, Option, Some}
use Rattle.trade_line.specs.Market.{Market, home}
use Rattle.trade_line.specs.Rank.{rank}
use Rattle.trade_line.specs.Assignment.{IsAssignment}
use Rattle.trade_line.specs.TradeApart.{TradesApart, HasNoBetterTradeApart}

-- somebody lives in each room
abbrev pub HasNoVacantRoom : Market → Type 0
HasNoVacantRoom m =
    (r : ℕ) → r < m.rooms → (t : ℕ) × (t < m.people) × (home m t ≡ Some r)

-- if a group trades apart and nobody in it does worse than by f, then nobody in it does better
abbrev pub IsInStrictCore : Market → (ℕ → Option ℕ) → Type 0
IsInStrictCore m f =
    (group : ℕ → Bool) (a : ℕ → Option ℕ) → TradesApart m group a
    → ((p : ℕ) → group p ≡ true → rank m p (a p) ≤ rank m p (f p))
    → (p : ℕ) → group p ≡ true → rank m p (f p) ≤ rank m p (a p)

-- g is in the strict core, and no other assignment is
pub record IsUniqueInStrictCore (m : Market) (g : ℕ → Option ℕ) : Type 0 where
  pub assignment : IsAssignment m g
  pub core : IsInStrictCore m g
  pub only :
      (f : ℕ → Option ℕ) → IsAssignment m f → IsInStrictCore m f
      → (p : ℕ) → p < m.people → f p ≡ g p

-- the members of the group are tenants who get one another's homes by g, and they rank only homes of the group above
-- what they get
pub record IsSelfContained (m : Market) (g : ℕ → Option ℕ) (group : ℕ → Bool) : Type 0 where
  pub apart : TradesApart m group g
  pub above :
      (p r : ℕ) → group p ≡ true → rank m p (Some r) < rank m p (g p)
      → (q : ℕ) × (group q ≡ true) × (home m q ≡ Some r)

-- each assignment in the strict core gives each self-contained group what g gives it
abbrev pub KeepsSelfContained : Market → (ℕ → Option ℕ) → Type 0
KeepsSelfContained m g =
    (group : ℕ → Bool) → IsSelfContained m g group
    → (f : ℕ → Option ℕ) → IsAssignment m f → IsInStrictCore m f
    → (p : ℕ) → group p ≡ true → f p ≡ g p

-- an assignment is in the strict core if and only if no group has a better trade apart (`HasNoBetterTradeApart`)
pub record IsStrictCoreByTradesApart (m : Market) : Type 0 where
  pub core : (f : ℕ → Option ℕ) → HasNoBetterTradeApart m f → IsInStrictCore m f
  pub apart : (f : ℕ → Option ℕ) → IsInStrictCore m f → HasNoBetterTradeApart m f
