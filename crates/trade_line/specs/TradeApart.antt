-- Groups of tenants that could trade their own homes apart from all others (the condition of the strict core, for
-- groups of tenants: Shapley and Scarf 1974; Roth and Postlewaite 1977).
use Rattle.std.specs.Prelude.{◌≡◌, ℕ, ◌<◌, ◌≤◌, Bool, true, Option, Some}
use Rattle.trade_line.specs.Market.{Market, home}
use Rattle.trade_line.specs.Rank.{rank}

-- the members of the group are tenants, and `a` gives each of them the home of a member, no home twice
pub record TradesApart (m : Market) (group : ℕ → Bool) (a : ℕ → Option ℕ) : Type 0 where
  pub people : (p : ℕ) → group p ≡ true → p < m.people
  pub tenants : (p : ℕ) → group p ≡ true → (h : ℕ) × (home m p ≡ Some h)
  pub own : (p : ℕ) → group p ≡ true → (q : ℕ) × (group q ≡ true) × (a p ≡ home m q)
  pub differ : (p q : ℕ) → group p ≡ true → group q ≡ true → a p ≡ a q → p ≡ q

-- no group has a better trade apart than f: if a group trades apart by `a` and nobody in it is worse off than at f,
-- then `a` gives everybody in the group what f gives
abbrev pub HasNoBetterTradeApart : Market → (ℕ → Option ℕ) → Type 0
HasNoBetterTradeApart m f =
    (group : ℕ → Bool) (a : ℕ → Option ℕ) → TradesApart m group a
    → ((p : ℕ) → group p ≡ true → rank m p (a p) ≤ rank m p (f p))
    → (p : ℕ) → group p ≡ true → a p ≡ f p
