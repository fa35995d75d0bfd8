use Rattle.std.proofs.Common.{◌≡◌, ◌+◌, None, true, replicate, length, map, sym, ◌∙◌, ap, subst, suc, arith, refl}
use Rattle.std.specs.List.{range_with_len}
use Rattle.trade_line.specs.Market.{Market}
use Rattle.trade_line.specs.TopTradingCycles.{gets, ttc}
use Rattle.trade_line.specs.Inner.Plain.{remains, marked_stage, Stepped}
use Rattle.std.proofs.lemmas.List.{length-replicate}
use Rattle.trade_line.proofs.searches.PlainSteps.{stepped_start, stepped_more, stepped_end}
use Rattle.trade_line.proofs.plain.top_trading_cycles.Goals as goal

pub loop-turn-init : goal.loop-turn-init
loop-turn-init c =
    let m : Market = c.args.problem.now in
    let people_len : length c.in_ok-stage.stage.people.items ≡ m.people =
    ap length c.in_ok-stage.ensures.people ∙ length-replicate m.people true in
    let rooms_len : length c.in_ok-stage.stage.rooms.items ≡ m.rooms = ap length c.in_ok-stage.ensures.rooms
    ∙ length-replicate m.rooms true in record {
      marks = record { market = c.people-turn-end.ensures.market; people_len = people_len; rooms_len = rooms_len };
      given_len = ap length c.in_ok-given.ensures ∙ length-replicate m.people None;
      stepped = λ k e.
          let all : k ≡ m.people = omega (arith, e) in
          subst (λ z. Stepped m (remains c.in_ok-stage.stage) c.in_ok-given.given.items z) (sym all)
          (subst (λ z. Stepped m (remains c.in_ok-stage.stage) z m.people) (sym c.in_ok-given.ensures)
          (subst (λ z. Stepped m (marked_stage z c.in_ok-stage.stage.rooms.items) (replicate m.people None) m.people)
          (sym c.in_ok-stage.ensures.people)
          (subst (λ z. Stepped m (marked_stage (replicate m.people true) z) (replicate m.people None) m.people)
          (sym c.in_ok-stage.ensures.rooms)
          (stepped_start m m.people m.rooms refl refl))));
    }

pub loop-turn-preserved : goal.loop-turn-preserved
loop-turn-preserved c = record {
  marks = c.in_ok-next.ensures.marks;
  given_len = c.step.ensures.given;
  stepped = λ k e.
      subst (λ z. Stepped c.args.problem.now z c.step.new.given.items k) (sym c.in_ok-next.ensures.next)
      (stepped_more c.args.problem.now (remains c.loop-turn.stage) c.loop-turn.given.items c.step.new.given.items k
      (c.loop-turn.invariant.stepped (suc k) (omega (arith, e))) c.in_ok-next.ensures.gives);
}

pub returns-then-people-eq0-clause-rooms : goal.returns-then-people-eq0-clause-rooms
unfolding ttc
returns-then-people-eq0-clause-rooms c =
    c.new.ensures.items ∙ ap (λ n. map (gets c.args.problem.now) (range_with_len 0 n))
    (sym c.if-people-eq0.true ∙ c.people.ensures.count)

pub returns-clause-rooms : goal.returns-clause-rooms
returns-clause-rooms c =
    let at : 0 + c.loop-turn.turn ≡ c.args.problem.now.people = omega arith in
    stepped_end c.args.problem.now (remains c.loop-turn.stage) c.loop-turn.given.items
    (c.loop-turn.invariant.stepped 0 at) c.loop-turn.invariant.given_len
