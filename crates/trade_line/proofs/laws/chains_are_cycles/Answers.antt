use Rattle.trade_line.proofs.cycles.Cycles.{chain_cycles}
use Rattle.trade_line.proofs.laws.chains_are_cycles.Goals as goal

pub returns : goal.returns
returns c = chain_cycles
