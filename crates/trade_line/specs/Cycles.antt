-- Cycles of a stage: what stays the same for a cycle when other cycles leave, and which people form whole cycles.
use Rattle.std.specs.Prelude.{◌≡◌, ℕ, ◌<◌, Bool, true, false, List, [], ◌∷◌, Some}
use Rattle.trade_line.specs.Market.{Market, home, tenant_of}
use Rattle.trade_line.specs.Member.{among}
use Rattle.trade_line.specs.TopTradingCycles.{Stage, wish, first, successor, is_on_cycle, removed}

-- everybody who remains is a person of the market
abbrev pub IsStageOf : Market → Stage → Type 0
IsStageOf m s = (p : ℕ) → s.people p ≡ true → p < m.people

-- the group consists of whole cycles of the stage
pub record AreCycles (m : Market) (s : Stage) (group : ℕ → Bool) : Type 0 where
  pub each : (p : ℕ) → group p ≡ true → is_on_cycle m s p ≡ true
  pub closed : (p : ℕ) → group p ≡ true → group (successor m s p) ≡ true

-- when the group leaves with the rooms that its people wish for, everybody else on a cycle keeps their wish, points
-- to the same person, and is still on a cycle
pub record LeavesOtherCycles (m : Market) (s : Stage) (group : ℕ → Bool) : Type 0 where
  pub wishes :
      (p : ℕ) → is_on_cycle m s p ≡ true → group p ≡ false
      → wish m (removed m s group) p ≡ wish m s p
  pub pointing :
      (p : ℕ) → is_on_cycle m s p ≡ true → group p ≡ false
      → successor m (removed m s group) p ≡ successor m s p
  pub cycles :
      (p : ℕ) → is_on_cycle m s p ≡ true → group p ≡ false
      → is_on_cycle m (removed m s group) p ≡ true

-- p wishes for the home of q
abbrev pub WishesForHomeOf : Market → Stage → ℕ → ℕ → Type 0
WishesForHomeOf m s p q = (h : ℕ) × (home m q ≡ Some h) × (wish m s p ≡ Some h)

-- p wishes for the home of the first of the others, each of the others wishes for the home of the next, and the last
-- of them wishes for the room; if there are no others, p wishes for the room
abbrev pub WishOnTo : Market → Stage → ℕ → List ℕ → ℕ → Type 0
WishOnTo m s p [] room = wish m s p ≡ Some room
WishOnTo m s p (x ∷ xs) room = WishesForHomeOf m s p x × WishOnTo m s x xs room

-- everybody in the list remains
abbrev pub AllRemain : Stage → List ℕ → Type 0
AllRemain s people = (p : ℕ) → among people p ≡ true → s.people p ≡ true

-- p and the others remain; each of them wishes for the home of the next, and the last wishes for the home of p
pub record IsLoop (m : Market) (s : Stage) (p : ℕ) (others : List ℕ) : Type 0 where
  pub room : ℕ
  pub lives : home m p ≡ Some room
  pub remain : AllRemain s (p ∷ others)
  pub wishes : WishOnTo m s p others room

-- p and the others remain, and p is the first of all who remain; each of them wishes for the home of the next, and
-- the last wishes for a room whose tenant, if any, does not remain
pub record IsChain (m : Market) (s : Stage) (p : ℕ) (others : List ℕ) : Type 0 where
  pub room : ℕ
  pub free : (t : ℕ) → tenant_of m room ≡ Some t → s.people t ≡ false
  pub leads : first m s ≡ p
  pub remain : AllRemain s (p ∷ others)
  pub wishes : WishOnTo m s p others room
