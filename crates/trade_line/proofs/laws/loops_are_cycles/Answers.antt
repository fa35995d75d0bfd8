use Rattle.trade_line.proofs.cycles.Cycles.{loop_cycles}
use Rattle.trade_line.proofs.laws.loops_are_cycles.Goals as goal

pub returns : goal.returns
returns c = loop_cycles
