use Rattle.std.proofs.Common.{◌≡◌, arith, sym, ◌∙◌, ap, subst, get_or, length, false}
use Rattle.std.proofs.lemmas.List.{length-replicate}
use Rattle.trade_line.specs.TopTradingCycles.{ttc}
use Rattle.trade_line.specs.Assignment.{given_in, IsAssignment, IsIndividuallyRational, IsEfficient}
use Rattle.trade_line.specs.TradeApart.{HasNoBetterTradeApart}
use Rattle.trade_line.specs.Looks.{all_needed}
use Rattle.trade_line.specs.Inner.State.{state_of}
use Rattle.trade_line.proofs.turns.Whole.{underway_asks, underway_start, underway_end, all_same}
use Rattle.trade_line.proofs.counts.ReadSums.{read_start, read_all, needed_listed}
use Rattle.trade_line.proofs.welfare.Given.{given_assignment, given_rational, given_efficient, given_apart}
use Rattle.trade_line.proofs.trade.run.Goals as goal

pub loop-person-init : goal.loop-person-init
loop-person-init g c =
    let fresh = c.into_progress-progress.ensures.fresh in
    let people = c.into_progress-progress.ensures.people ∙ ap (λ z. z.people) c.requires.bench in
    record {
      underway = underway_start c.args.problem.now c.people-people.ensures.market _ _ c.requires.line fresh people
          (c.into_progress-progress.ensures.rooms ∙ ap (λ z. z.rooms) c.requires.bench);
      read = read_start c.args.problem.now (state_of (g.L.Line.people c.args.line) c.into_progress-progress.result.0)
          c.into_progress-progress.result.1.items c.requires.line
          (λ p. ap (λ z. get_or z p false) fresh.none_asked
          ∙ all_same (length c.into_progress-progress.result.0.asked.items) false p)
          (ap length fresh.cursors_start ∙ length-replicate (length c.into_progress-progress.result.0.asked.items) 0
          ∙ people)
          (λ p. ap (λ z. get_or z p 0) fresh.cursors_start
          ∙ all_same (length c.into_progress-progress.result.0.asked.items) 0 p);
      few = omega arith;
    }

pub returns : goal.returns
returns g c =
    let ok = c.people-people.ensures.market in
    let ended = sym c.front.ensures ∙ c.in_default.is in
    let asks_least = underway_asks c.args.problem.now _ _ c.loop-person.invariant.underway ended in
    let exact = read_all c.args.problem.now _ _ _ _ c.loop-person.invariant.read ended in
    let same : all_needed c.args.problem.now (given_in c.new.result.rooms) ≡ all_needed c.args.problem.now
    (given_in c.loop-person.progress.given.items) =
    ap (λ z. all_needed c.args.problem.now (given_in z)) c.new.ensures.rooms in
    let is : c.new.result.rooms ≡ ttc c.args.problem.now =
    c.new.ensures.rooms ∙ underway_end c.args.problem.now _ _ c.loop-person.invariant.underway ended in
    record {
      rooms = is;
      assignment =
          subst (λ z. IsAssignment c.args.problem.now (given_in z)) (sym is) (given_assignment c.args.problem.now ok);
      rational = subst (λ z. IsIndividuallyRational c.args.problem.now (given_in z)) (sym is)
          (given_rational c.args.problem.now ok);
      efficient =
          subst (λ z. IsEfficient c.args.problem.now (given_in z)) (sym is) (given_efficient c.args.problem.now ok);
      apart = subst (λ z. HasNoBetterTradeApart c.args.problem.now (given_in z)) (sym is)
          (given_apart c.args.problem.now ok);
      asks_least = omega (arith, c.new.ensures.asks, asks_least);
      asks_most = omega (arith, c.new.ensures.asks, c.loop-person.invariant.underway.turns);
      looks = omega (arith, c.new.ensures.asks, c.new.ensures.looks, exact, same);
      looks_least = omega (arith, c.new.ensures.looks, exact, same, asks_least);
      looks_most =
          omega (
            arith,
            c.new.ensures.asks,
            c.new.ensures.looks,
            exact,
            needed_listed c.args.problem.now
                (given_in c.loop-person.progress.given.items),
          );
    }
