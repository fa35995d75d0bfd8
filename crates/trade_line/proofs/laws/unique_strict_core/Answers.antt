use Rattle.trade_line.proofs.welfare.Core.{only_core}
use Rattle.trade_line.proofs.laws.unique_strict_core.Goals as goal

pub returns : goal.returns
returns c = only_core
