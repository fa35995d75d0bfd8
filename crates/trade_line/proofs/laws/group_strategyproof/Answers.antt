use Rattle.trade_line.proofs.welfare.Groups.{groups_gain_nothing}
use Rattle.trade_line.proofs.laws.group_strategyproof.Goals as goal

pub returns : goal.returns
returns c = groups_gain_nothing
