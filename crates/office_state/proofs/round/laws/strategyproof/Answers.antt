use Rattle.office_state.proofs.round_outcomes.Lists.{by_list, own_list_best}
use Rattle.office_state.proofs.round.laws.strategyproof.Goals as goal

pub returns : goal.returns
returns c = record { best = own_list_best; by_another = by_list }
