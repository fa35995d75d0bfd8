use Rattle.std.proofs.Common.{◌≡◌, ◌<◌, None, ◌∙◌, subst, arith}
use Rattle.trade_line.specs.Below.{first_below}
use Rattle.trade_line.specs.Inner.Plain.{remains}
use Rattle.trade_line.proofs.searches.PlainSteps.{read_mark, first_is, first_none}
use Rattle.trade_line.proofs.plain.first.Goals as goal

pub returns-then-index : goal.returns-then-index
returns-then-index c =
    let l : c.loop-person.person < c.args.problem.now.people =
    omega (arith, c.loop-person-test.true, c.people-person-end.ensures.count) in
    first_is c.args.problem.now (remains c.args.stage.now) c.loop-person.person l c.loop-person.invariant
    (read_mark c.args.stage.now.people.items c.loop-person.person c.index.result.now
    (omega (arith, l, c.requires.people_len)) c.index.ensures ∙ c.if-index.true)

pub returns : goal.returns
returns c =
    let at : c.loop-person.person ≡ c.args.problem.now.people =
    omega (arith, c.loop-person-test.false, c.people-person-end.ensures.count, c.loop-person.auto.person-end) in
    first_none c.args.problem.now (remains c.args.stage.now)
    (subst (λ n. first_below n (remains c.args.stage.now).people ≡ None) at c.loop-person.invariant)
