-- Cycles that are removed one group at a time, in any order.
use Rattle.std.specs.Prelude.{◌≡◌, ℕ, ◌<◌, Bool, true, Option, false}
use Rattle.trade_line.specs.Market.{Market}
use Rattle.trade_line.specs.TopTradingCycles.{Stage, wish, successor, removed}

-- zero or more steps of g lead from p to q
pub data Reach (g : ℕ → ℕ) : ℕ → ℕ → Type 0 where
  here : {p : ℕ} → Reach g p p
  there : {p q : ℕ} → Reach g (g p) q → Reach g p q

-- a group of remaining people that is a union of cycles
pub record IsTrade (m : Market) (s : Stage) (group : ℕ → Bool) : Type 0 where
  pub known : (p : ℕ) → group p ≡ true → p < m.people
  pub remain : (p : ℕ) → group p ≡ true → s.people p ≡ true
  pub closed : (p : ℕ) → group p ≡ true → group (successor m s p) ≡ true
  pub cycle : (p : ℕ) → group p ≡ true → Reach (successor m s) (successor m s p) p

-- some series of removals of such groups continues until nobody remains, and f gives each person what they wish for
-- when they leave
pub data Leads (m : Market) (f : ℕ → Option ℕ) : Stage → Type 0 where
  done : {s : Stage} → ((p : ℕ) → s.people p ≡ false) → Leads m f s
  trade : {s : Stage} (group : ℕ → Bool) → IsTrade m s group
      → ((p : ℕ) → group p ≡ true → f p ≡ wish m s p) → Leads m f (removed m s group) → Leads m f s
