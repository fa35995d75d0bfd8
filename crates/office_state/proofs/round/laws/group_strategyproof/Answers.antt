use Rattle.office_state.proofs.round_outcomes.Lists.{none_gain}
use Rattle.office_state.proofs.round.laws.group_strategyproof.Goals as goal

pub returns : goal.returns
returns c = none_gain
