-- Any series of removals of whole cycles gives what the simultaneous steps give.
use Rattle.std.proofs.Common.{◌≡◌, ℕ, ◌<◌, Option}
use Rattle.trade_line.specs.Inner.Removal.{Leads}
use Rattle.trade_line.specs.Inner.Removal.Leads.{done, trade}
use Rattle.trade_line.specs.Cycles.{IsStageOf}
use Rattle.trade_line.specs.Market.{Market}
use Rattle.trade_line.specs.Removals.{IsGivenByRemovals}
use Rattle.trade_line.specs.Removals.IsGivenByRemovals.{over, remove}
use Rattle.trade_line.specs.TopTradingCycles.{Stage, start, gets}
use Rattle.trade_line.proofs.cycles.Cycles.{cycle_from, cycles_leave}
use Rattle.trade_line.proofs.cycles.Steps.{removed_known, start_known, gets_leads, leads_gets}

module _ (m : Market) (f : ℕ → Option ℕ) where
  removals_lead : {s : Stage} → IsStageOf m s → IsGivenByRemovals m f s → Leads m f s
  removals_lead known (over nobody) = done nobody
  removals_lead {s} known (remove group c e rest) =
      trade group (cycles_leave m s known group c) e (removals_lead (removed_known m s group known) rest)

  leads_by_removals : {s : Stage} → IsStageOf m s → Leads m f s → IsGivenByRemovals m f s
  leads_by_removals known (done nobody) = over nobody
  leads_by_removals {s} known (trade group t e rest) =
      remove group (record { each = λ p h. cycle_from m s known p (t.remain p h) (t.cycle p h); closed = t.closed }) e
      (leads_by_removals (removed_known m s group known) rest)

pub removals_gets : (m : Market) (f : ℕ → Option ℕ) → IsGivenByRemovals m f (start m) → (p : ℕ) → p < m.people
    → f p ≡ gets m p
removals_gets m f given = leads_gets m f (removals_lead m f (start_known m) given)

pub gets_removals : (m : Market) → IsGivenByRemovals m (gets m) (start m)
gets_removals m = leads_by_removals m (gets m) (start_known m) (gets_leads m)
