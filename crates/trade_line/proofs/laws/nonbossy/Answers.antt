use Rattle.trade_line.proofs.welfare.Groups.{trade_is_nonbossy}
use Rattle.trade_line.proofs.laws.nonbossy.Goals as goal

pub returns : goal.returns
returns c = trade_is_nonbossy
