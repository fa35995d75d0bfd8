use Rattle.std.proofs.Common.{◌≡◌, ◌≢◌, ℕ, ◌<◌, Some, All}
use Rattle.trade_line.specs.Market.{home, list_of}
use Rattle.trade_line.specs.Inner.Draft.{drafted}
use Rattle.trade_line.proofs.draft.Draft.is_own_unlisted.Given as goal

abbrev pub invariant-loop-person : goal.invariant-loop-person
invariant-loop-person l = (p r : ℕ) → p < l.person → home (drafted l.self) p ≡ Some r
    → All (λ x. x ≢ r) (list_of (drafted l.self) p)
