use Rattle.std.proofs.Common.{ap}
use Rattle.office_state.specs.Round.{result_of, round_market, round_results}
use Rattle.office_state.specs.Round.Laws.{market_in, results_in}
use Rattle.office_state.proofs.round_problems.People.{ungraded_by_word}
use Rattle.office_state.proofs.round.laws.order_without_grades.Goals as goal

pub returns : goal.returns
unfolding round_market result_of round_results
returns c = λ office none. record {
  people = ungraded_by_word office none;
  market = ap (market_in office) (ungraded_by_word office none);
  results = ap (results_in office) (ungraded_by_word office none);
}
