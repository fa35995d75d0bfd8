use Rattle.office_state.specs.Round.{round_results}
use Rattle.office_state.proofs.round_problems.Puts.{with_all-entries}
use Rattle.office_state.proofs.round_outcomes.Results.{contains_key-round_results}
use Rattle.office_state.proofs.round_outcomes.Results.{entries-round_results}
use Rattle.office_state.proofs.round.laws.participant_results.Goals as goal

pub returns : goal.returns
returns c = record {
  each = contains_key-round_results;
  by_identifier = entries-round_results;
  in_turn = λ office. with_all-entries (round_results office);
}
