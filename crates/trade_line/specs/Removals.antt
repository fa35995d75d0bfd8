-- Top trading cycles one removal at a time: whole cycles leave, one group after the other, until nobody
-- remains.
use Rattle.std.specs.Prelude.{◌≡◌, ℕ, Bool, true, false, Option}
use Rattle.trade_line.specs.Cycles.{AreCycles}
use Rattle.trade_line.specs.Market.{Market}
use Rattle.trade_line.specs.TopTradingCycles.{Stage, wish, removed}

-- some series of removals from this stage continues until nobody remains, and f gives each person what they wish for
-- when they leave
pub data IsGivenByRemovals (m : Market) (f : ℕ → Option ℕ) : Stage → Type 0 where
  over : {s : Stage} → ((p : ℕ) → s.people p ≡ false) → IsGivenByRemovals m f s
  remove : {s : Stage} (group : ℕ → Bool) → AreCycles m s group
      → ((p : ℕ) → group p ≡ true → f p ≡ wish m s p)
      → IsGivenByRemovals m f (removed m s group) → IsGivenByRemovals m f s
