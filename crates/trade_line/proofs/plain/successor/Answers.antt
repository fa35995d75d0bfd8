use Rattle.std.proofs.Common.{◌≡◌, ◌<◌, Some, true, sym, ◌∙◌, subst, arith}
use Rattle.trade_line.specs.Market.{home}
use Rattle.trade_line.specs.TopTradingCycles.{first, successor}
use Rattle.trade_line.specs.Inner.Plain.{remains}
use Rattle.trade_line.proofs.askers.Lines.{wish_known}
use Rattle.trade_line.proofs.cycles.Steps.{successor_remains}
use Rattle.trade_line.proofs.turns.Marks.{tenant_home}
use Rattle.trade_line.proofs.searches.PlainSteps.{read_mark, known_marks, points_none, points_tenant, points_served}
use Rattle.trade_line.proofs.searches.PlainSteps.{points_vacant}
use Rattle.trade_line.proofs.plain.successor.Goals as goal
use Rattle.trade_line.proofs.plain.successor.Goals.{in_default-via-in-Some-tenant_of+else-index}
use Rattle.trade_line.proofs.plain.successor.Goals.{in_default-via-in_default}

pub wish-requires-clause-person : goal.wish-requires-clause-person
wish-requires-clause-person c =
    known_marks c.args.problem.now c.args.stage.now c.requires.marks c.args.person c.requires.remains

pub tenant_of-requires : goal.tenant_of-requires
tenant_of-requires c =
    wish_known c.args.problem.now c.requires.marks.market (remains c.args.stage.now) c.args.person c.in-Some.room
    (known_marks c.args.problem.now c.args.stage.now c.requires.marks c.args.person c.requires.remains)
    (sym c.wish.ensures ∙ c.in-Some.is)

pub index-requires : goal.index-requires
index-requires c =
    let home : (c.in-Some-tenant_of.tenant < c.args.problem.now.people)
    × (home c.args.problem.now c.in-Some-tenant_of.tenant ≡ Some c.in-Some.room) =
    tenant_home c.args.problem.now c.in-Some.room c.in-Some-tenant_of.tenant
    (sym c.tenant_of.ensures ∙ c.in-Some-tenant_of.is) in
    omega (arith, home.0, c.requires.marks.people_len, c.args.stage.now.people.ok.0)

pub returns-in-None : goal.returns-in-None
returns-in-None c = record {
  successor =
      points_none c.args.problem.now (remains c.args.stage.now) c.args.person (sym c.wish.ensures ∙ c.in-None.is);
  remains = c.requires.remains;
}

pub returns-in-Some-tenant_of : goal.returns-in-Some-tenant_of
returns-in-Some-tenant_of c =
    let home : (c.in-Some-tenant_of.tenant < c.args.problem.now.people)
    × (home c.args.problem.now c.in-Some-tenant_of.tenant ≡ Some c.in-Some.room) =
    tenant_home c.args.problem.now c.in-Some.room c.in-Some-tenant_of.tenant
    (sym c.tenant_of.ensures ∙ c.in-Some-tenant_of.is) in
    let stays : (remains c.args.stage.now).people c.in-Some-tenant_of.tenant ≡ true =
    read_mark c.args.stage.now.people.items c.in-Some-tenant_of.tenant c.index.result.now
    (omega (arith, home.0, c.requires.marks.people_len)) c.index.ensures ∙ c.if-index.true in record {
      successor =
          points_tenant c.args.problem.now (remains c.args.stage.now) c.args.person c.in-Some.room
          c.in-Some-tenant_of.tenant (sym c.wish.ensures ∙ c.in-Some.is)
          (sym c.tenant_of.ensures ∙ c.in-Some-tenant_of.is) stays;
      remains = stays;
    }

pub returns-in_default : goal.returns-in_default
returns-in_default c =
    let points : first c.args.problem.now (remains c.args.stage.now) ≡ successor c.args.problem.now
    (remains c.args.stage.now) c.args.person =
    elim c.in_default.branch [
      | in_default-via-in-Some-tenant_of+else-index w ↦
          let home : (w.in-Some-tenant_of.tenant < c.args.problem.now.people)
          × (home c.args.problem.now w.in-Some-tenant_of.tenant ≡ Some c.in-Some.room) =
          tenant_home c.args.problem.now c.in-Some.room w.in-Some-tenant_of.tenant
          (sym c.tenant_of.ensures ∙ w.in-Some-tenant_of.is) in
          points_served c.args.problem.now (remains c.args.stage.now) c.args.person c.in-Some.room
          w.in-Some-tenant_of.tenant (sym c.wish.ensures ∙ c.in-Some.is)
          (sym c.tenant_of.ensures ∙ w.in-Some-tenant_of.is)
          (read_mark c.args.stage.now.people.items w.in-Some-tenant_of.tenant w.index.result.now
          (omega (arith, home.0, c.requires.marks.people_len)) w.index.ensures ∙ w.if-index.false)
      | in_default-via-in_default w ↦
          points_vacant c.args.problem.now (remains c.args.stage.now) c.args.person c.in-Some.room
          (sym c.wish.ensures ∙ c.in-Some.is) (sym c.tenant_of.ensures ∙ w.in_default.is)
    ] in
    let is : successor c.args.problem.now (remains c.args.stage.now) c.args.person ≡ c.first.result =
    sym points ∙ sym c.first.ensures in record {
      successor = sym is;
      remains = subst (λ z. (remains c.args.stage.now).people z ≡ true) is
          (successor_remains c.args.problem.now (remains c.args.stage.now)
          (known_marks c.args.problem.now c.args.stage.now c.requires.marks) c.args.person c.requires.remains);
    }
