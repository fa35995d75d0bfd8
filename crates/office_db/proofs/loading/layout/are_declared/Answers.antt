use Rattle.std.proofs.Common.{arith, refl}
use Rattle.std.proofs.lemmas.Bool.Decides.{not_from_Decides}
use Rattle.office_schema.specs.declared.tables.names.TableName.TheVariants.{Rooms}
use Rattle.office_db.specs.loading.Inner.Declared.{IsAmong}
use Rattle.office_db.proofs.found_offices.Deciding.{never}
use Rattle.office_db.proofs.found_offices.Passing.{all_here, all_more, all_tested}
use Rattle.office_db.proofs.loading.layout.are_declared.Goals as goal

pub returns-then-not-is_among : goal.returns-then-not-is_among
returns-then-not-is_among c =
    never (λ h. not_from_Decides _ c.is_among.ensures c.if-not-is_among.true
    (all_here (λ o. IsAmong c.args.tables.now o.0) c.args.own.now c.loop-place.place (Rooms, 0) c.loop-place-test.true
    c.loop-place.invariant.whole h).0)

pub loop-place-preserved : goal.loop-place-preserved
loop-place-preserved c = record {
  left = all_more (λ o. IsAmong c.args.tables.now o.0) c.args.own.now c.loop-place.place (Rooms, 0)
      c.loop-place-test.true (c.is_among.ensures.0 c.if-not-is_among.false) c.loop-place.invariant.left;
  whole = λ h.
      (all_here (λ o. IsAmong c.args.tables.now o.0) c.args.own.now c.loop-place.place (Rooms, 0) c.loop-place-test.true
      c.loop-place.invariant.whole h).1;
}

pub returns : goal.returns
returns c = (
  λ _. all_tested (λ o. IsAmong c.args.tables.now o.0) c.args.own.now c.loop-place.place
      (omega (arith, c.loop-place-test.false)) c.loop-place.invariant.left,
  λ _. refl,
)
