use Rattle.std.proofs.Common.{◌<◌, length, sym, ◌∙◌, arith}
use Rattle.trade_line.proofs.turns.Loops.{closing_start, next_known}
use Rattle.trade_line.proofs.turns.States.{if_some, closing_front, closing_given, closing_more, closing_all}
use Rattle.trade_line.proofs.trade.close_loop.Goals as goal

pub loop-person-init : goal.loop-person-init
loop-person-init g c = closing_start c.args.problem.now c.args.tenant c.args.room _ c.requires

pub grant-requires-clause-person : goal.grant-requires-clause-person
grant-requires-clause-person g c =
    let h : c.in-Some.person < length c.loop-person.progress.given.items =
    closing_given c.args.problem.now c.args.tenant c.args.room _ _ _ c.loop-person.invariant _
    (sym c.front.ensures ∙ c.in-Some.is) in
    omega (arith, c.loop-person.progress.given.ok.0)

pub grant-requires-clause-room : goal.grant-requires-clause-room
grant-requires-clause-room g c =
    if_some c.loop-person.next _ (λ x e.
    let h : x < length c.loop-person.progress.remaining.items =
    next_known c.args.problem.now c.args.tenant c.args.room _ _ _ c.loop-person.invariant x e in
    omega (arith, c.loop-person.progress.remaining.ok.0))

pub home_of-next-requires : goal.home_of-next-requires
home_of-next-requires g c =
    closing_front c.args.problem.now c.args.tenant c.args.room _ _ _ c.loop-person.invariant _
    (sym c.front.ensures ∙ c.in-Some.is)

pub loop-person-preserved : goal.loop-person-preserved
loop-person-preserved g c =
    closing_more c.args.problem.now c.args.tenant c.args.room _ _ _ _ c.loop-person.invariant _
    (sym c.front.ensures ∙ c.in-Some.is) c.if-person-tenant.false
    c.drop_front.ensures c.grant.ensures.asked c.grant.ensures.remaining c.grant.ensures.given _
    c.home_of-next.ensures.home

pub returns-then-person-tenant : goal.returns-then-person-tenant
returns-then-person-tenant g c =
    closing_all c.args.problem.now c.args.tenant c.args.room _ _ _ _ c.loop-person.invariant _
    (sym c.front.ensures ∙ c.in-Some.is) c.if-person-tenant.true
    c.drop_front.ensures c.grant.ensures.asked c.grant.ensures.remaining c.grant.ensures.given
