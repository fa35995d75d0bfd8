use Rattle.office_state.proofs.round_outcomes.Entries.{same_entries_same_round}
use Rattle.office_state.proofs.round.laws.same_round.Goals as goal

pub returns : goal.returns
returns c = same_entries_same_round
