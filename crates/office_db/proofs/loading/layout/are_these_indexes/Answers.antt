use Rattle.std.proofs.Common.{sym}
use Rattle.office_db.specs.loading.Inner.Indexes.{is_this_index, unique_index}
use Rattle.office_db.proofs.found_offices.Passing.{fails_at, passes_at}
use Rattle.office_db.proofs.loading.layout.are_these_indexes.Goals as goal

pub returns-then-not-is_this_index : goal.returns-then-not-is_this_index
returns-then-not-is_this_index c =
    sym (fails_at (λ o. unique_index (o.0.now, o.1, o.2, o.3.now)) is_this_index c.args.own.now c.args.indexes.now
    c.loop-place.place _
    c.index-indexes-place.result c.loop-place.invariant.even c.loop-place-test.true c.index-indexes-place.is
    (sym c.if-not-is_this_index.ensures) c.loop-place.invariant.left)

pub loop-place-preserved : goal.loop-place-preserved
loop-place-preserved c = record {
  left = passes_at (λ o. unique_index (o.0.now, o.1, o.2, o.3.now)) is_this_index c.args.own.now c.args.indexes.now
      c.loop-place.place _
      c.index-indexes-place.result c.loop-place.invariant.even c.loop-place-test.true c.index-indexes-place.is
      (sym c.if-not-is_this_index.ensures) c.loop-place.invariant.left;
  even = c.loop-place.invariant.even;
}
