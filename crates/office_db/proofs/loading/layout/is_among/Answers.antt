use Rattle.std.proofs.Common.{arith, refl}
use Rattle.std.proofs.lemmas.Bool.Decides.{not_from_Decides}
use Rattle.office_db.proofs.found_offices.Among.{among_here, not_among, not_here}
use Rattle.office_db.proofs.found_offices.Deciding.{never}
use Rattle.office_db.proofs.loading.layout.is_among.Goals as goal

pub loop-place-init : goal.loop-place-init
loop-place-init c k tree less is = absurd (omega (arith, less))

pub returns-then-is_declared : goal.returns-then-is_declared
returns-then-is_declared c = (
  λ _. among_here c.args.tables.now c.args.own c.loop-place.place c.index-tables-place.result c.loop-place-test.true
      c.index-tables-place.is (c.is_declared.ensures.0 c.if-is_declared.true),
  λ _. refl,
)

pub loop-place-preserved : goal.loop-place-preserved
loop-place-preserved c =
    not_here c.args.tables.now c.args.own c.loop-place.place c.index-tables-place.result c.loop-place-test.true
    c.index-tables-place.is (not_from_Decides _ c.is_declared.ensures c.if-is_declared.false) c.loop-place.invariant

pub returns : goal.returns
returns c =
    never (not_among c.args.tables.now c.args.own c.loop-place.place (omega (arith, c.loop-place-test.false))
    c.loop-place.invariant)
