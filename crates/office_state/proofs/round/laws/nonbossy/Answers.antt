use Rattle.office_state.proofs.round_outcomes.Lists.{none_bossy}
use Rattle.office_state.proofs.round.laws.nonbossy.Goals as goal

pub returns : goal.returns
returns c = none_bossy
