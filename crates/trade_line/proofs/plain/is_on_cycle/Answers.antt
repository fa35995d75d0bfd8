use Rattle.std.proofs.Common.{◌≡◌, ◌==◌, suc, false, sym, ◌∙◌, ap, subst, arith, add-one, ne_eqb, refl}
use Rattle.std.specs.Fn.{iterate}
use Rattle.trade_line.specs.Below.{some_below}
use Rattle.trade_line.specs.TopTradingCycles.{successor, remaining_count}
use Rattle.trade_line.specs.Inner.Plain.{remains}
use Rattle.trade_line.proofs.counts.Count.{times_after}
use Rattle.trade_line.proofs.searches.PlainSteps.{read_mark, cycle_gone, cycle_none, cycle_found, some_more}
use Rattle.trade_line.proofs.plain.is_on_cycle.Goals as goal

pub returns-then-not-index : goal.returns-then-not-index
returns-then-not-index c =
    sym (cycle_gone c.args.problem.now (remains c.args.stage.now) c.args.person
    (read_mark c.args.stage.now.people.items c.args.person c.index.result.now
    (omega (arith, c.requires.person, c.requires.marks.people_len)) c.index.ensures ∙ c.if-not-index.true))

pub loop-turn-init : goal.loop-turn-init
loop-turn-init c = record {
  reached = refl;
  holds = read_mark c.args.stage.now.people.items c.args.person c.index.result.now
      (omega (arith, c.requires.person, c.requires.marks.people_len)) c.index.ensures ∙ c.if-not-index.false;
  not_yet = refl;
}

pub returns-then-at-person : goal.returns-then-at-person
returns-then-at-person c =
    sym (cycle_found c.args.problem.now (remains c.args.stage.now) c.args.person c.loop-turn.turn
    (read_mark c.args.stage.now.people.items c.args.person c.index.result.now
    (omega (arith, c.requires.person, c.requires.marks.people_len)) c.index.ensures ∙ c.if-not-index.false)
    (omega (arith, c.loop-turn-test.true, c.count-turn-end.ensures))
    (ap (successor c.args.problem.now (remains c.args.stage.now)) (sym c.loop-turn.invariant.reached)
    ∙ sym c.successor-at.ensures.successor ∙ c.if-at-person.true))

pub loop-turn-preserved : goal.loop-turn-preserved
loop-turn-preserved c =
    let next : c.successor-at.result ≡ iterate (successor c.args.problem.now (remains c.args.stage.now))
    (suc c.loop-turn.turn) c.args.person =
    c.successor-at.ensures.successor ∙ ap (successor c.args.problem.now (remains c.args.stage.now))
    c.loop-turn.invariant.reached
    ∙ sym (times_after (successor c.args.problem.now (remains c.args.stage.now)) c.loop-turn.turn c.args.person) in
    let away : (iterate (successor c.args.problem.now (remains c.args.stage.now)) (suc c.loop-turn.turn) c.args.person
    == c.args.person) ≡ false =
    ne_eqb _ _ (λ e. c.if-at-person.false (next ∙ e)) in record {
      reached = next ∙ ap (λ k. iterate (successor c.args.problem.now (remains c.args.stage.now)) k c.args.person)
          (sym (add-one c.loop-turn.turn));
      holds = c.successor-at.ensures.remains;
      not_yet =
          some_more c.loop-turn.turn
          (λ k. iterate (successor c.args.problem.now (remains c.args.stage.now)) (suc k) c.args.person ==
          c.args.person) c.loop-turn.invariant.not_yet away;
    }

pub returns : goal.returns
returns c =
    let at : c.loop-turn.turn ≡ remaining_count c.args.problem.now (remains c.args.stage.now) =
    omega (arith, c.loop-turn-test.false, c.loop-turn.auto.turn-end, c.count-turn-end.ensures) in
    sym (cycle_none c.args.problem.now (remains c.args.stage.now) c.args.person
    (read_mark c.args.stage.now.people.items c.args.person c.index.result.now
    (omega (arith, c.requires.person, c.requires.marks.people_len)) c.index.ensures ∙ c.if-not-index.false)
    (subst (λ n. some_below n
    (λ k. iterate (successor c.args.problem.now (remains c.args.stage.now)) (suc k) c.args.person ==
    c.args.person) ≡ false) at c.loop-turn.invariant.not_yet))
