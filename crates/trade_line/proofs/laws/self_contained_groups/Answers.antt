use Rattle.trade_line.proofs.welfare.Core.{core_of_groups}
use Rattle.trade_line.proofs.laws.self_contained_groups.Goals as goal

pub returns : goal.returns
returns c = core_of_groups
