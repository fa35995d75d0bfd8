use Rattle.trade_line.proofs.welfare.Manipulation.{list_proof}
use Rattle.trade_line.proofs.laws.strategyproof.Goals as goal

pub returns : goal.returns
returns c = list_proof
