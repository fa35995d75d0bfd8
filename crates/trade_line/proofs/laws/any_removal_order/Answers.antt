use Rattle.trade_line.proofs.cycles.Removals.{removals_gets, gets_removals}
use Rattle.trade_line.proofs.laws.any_removal_order.Goals as goal

pub returns : goal.returns
returns c = record { same = removals_gets; given = gets_removals }
