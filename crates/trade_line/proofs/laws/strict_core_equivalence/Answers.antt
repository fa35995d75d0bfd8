use Rattle.trade_line.proofs.welfare.Core.{by_trades_apart}
use Rattle.trade_line.proofs.laws.strict_core_equivalence.Goals as goal

pub returns : goal.returns
returns c = by_trades_apart
