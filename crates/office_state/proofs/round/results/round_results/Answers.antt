use Rattle.std.proofs.Common.{◌≢◌, sym, ap, subst, ◌∙◌}
use Rattle.std.specs.List.{AllPairs}
use Rattle.std.proofs.lemmas.Result.{IfOk-weaker}
use Rattle.trade_line.specs.Market.{IsMarket}
use Rattle.trade_line.specs.TopTradingCycles.{ttc}
use Rattle.office_state.specs.Round.{round_market}
use Rattle.office_state.proofs.round_problems.People.{people_differ}
use Rattle.office_state.proofs.round_outcomes.Results.{results-same}
use Rattle.office_state.proofs.round.results.round_results.Goals as goal

pub results_by_person-requires : goal.results_by_person-requires
results_by_person-requires c =
    subst (λ names. AllPairs ◌≢◌ names)
    (sym (c.deref.ensures.value ∙ c.in_ok-round.ensures.problem.people))
    (people_differ c.args.office.now)

pub returns : goal.returns
returns c =
    let office = c.args.office.now in
    let ok : IsMarket (round_market office) = c.in_ok-round.ensures.well_formed in
    let about = c.in_ok-round.ensures.problem in
    record {
      results = IfOk-weaker c.results_by_person.result _ _ (λ results returned.
          results-same office results c.deref.result.now c.deref-2.result.now
          c.in_ok-outcome.outcome.rooms ok
          (c.deref.ensures.value ∙ about.people) (c.deref-2.ensures.value ∙ about.rooms)
          (c.in_ok-outcome.ensures ∙ ap ttc about.market) returned) c.results_by_person.ensures;
    }
