use Rattle.std.proofs.Common.{sym}
use Rattle.office_db.specs.loading.Inner.Declared.{is_reference}
use Rattle.office_db.proofs.found_offices.Passing.{fails_at, passes_at}
use Rattle.office_db.proofs.loading.declared.references.are_references.Goals as goal

pub returns-then-not-is_reference : goal.returns-then-not-is_reference
returns-then-not-is_reference c =
    sym (fails_at (λ o. (o.0.now, o.1.now, o.2)) is_reference c.args.own.now c.args.references.now c.loop-place.place _
    c.index-references-place.result c.loop-place.invariant.even c.loop-place-test.true c.index-references-place.is
    (sym c.if-not-is_reference.ensures) c.loop-place.invariant.left)

pub loop-place-preserved : goal.loop-place-preserved
loop-place-preserved c = record {
  left = passes_at (λ o. (o.0.now, o.1.now, o.2)) is_reference c.args.own.now c.args.references.now c.loop-place.place _
      c.index-references-place.result c.loop-place.invariant.even c.loop-place-test.true c.index-references-place.is
      (sym c.if-not-is_reference.ensures) c.loop-place.invariant.left;
  even = c.loop-place.invariant.even;
}
