use Rattle.std.proofs.Common.{sym, ap, map, ◌∙◌}
use Rattle.office_db.specs.loading.Inner.Declared.{are_places}
use Rattle.office_db.specs.loading.Inner.Lists.{pass_all}
use Rattle.office_db.proofs.found_offices.Passing.{fails_at, passes_at}
use Rattle.office_db.proofs.loading.declared.references.has_uniques.Goals as goal

pub returns-then-not-are_places : goal.returns-then-not-are_places
returns-then-not-are_places c =
    let compared = rw c.as_slice.ensures at c.are_places.ensures in
    sym (ap (pass_all are_places (map (λ o. o.now) c.args.own.now)) (sym c.as_slice-uniques.ensures)
    ∙ fails_at (λ o. o.now) are_places c.args.own.now c.as_slice-uniques.result.now c.loop-place.place _
    c.index-uniques-place.result c.loop-place.invariant.even c.loop-place-test.true c.index-uniques-place.is
    (sym compared ∙ c.if-not-are_places.true) c.loop-place.invariant.left)

pub loop-place-preserved : goal.loop-place-preserved
loop-place-preserved c =
    let compared = rw c.as_slice.ensures at c.are_places.ensures in record {
      left = passes_at (λ o. o.now) are_places c.args.own.now c.as_slice-uniques.result.now c.loop-place.place _
          c.index-uniques-place.result c.loop-place.invariant.even c.loop-place-test.true c.index-uniques-place.is
          (sym compared ∙ c.if-not-are_places.false) c.loop-place.invariant.left;
      even = c.loop-place.invariant.even;
    }
