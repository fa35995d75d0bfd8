use Rattle.trade_line.proofs.cycles.Cycles.{others_stay}
use Rattle.trade_line.proofs.laws.other_cycles_stay.Goals as goal

pub returns : goal.returns
returns c = others_stay
