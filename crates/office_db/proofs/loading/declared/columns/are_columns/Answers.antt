use Rattle.std.proofs.Common.{sym}
use Rattle.office_db.specs.loading.Inner.Declared.{is_column}
use Rattle.office_db.proofs.found_offices.Passing.{fails_at, passes_at}
use Rattle.office_db.proofs.loading.declared.columns.are_columns.Goals as goal

pub returns-then-not-is_column : goal.returns-then-not-is_column
returns-then-not-is_column c =
    sym (fails_at (λ o. (o.0.now, o.1, o.2)) is_column c.args.own.now c.args.columns.now c.loop-place.place _
    c.index-columns-place.result c.loop-place.invariant.even c.loop-place-test.true c.index-columns-place.is
    (sym c.if-not-is_column.ensures) c.loop-place.invariant.left)

pub loop-place-preserved : goal.loop-place-preserved
loop-place-preserved c = record {
  left = passes_at (λ o. (o.0.now, o.1, o.2)) is_column c.args.own.now c.args.columns.now c.loop-place.place _
      c.index-columns-place.result c.loop-place.invariant.even c.loop-place-test.true c.index-columns-place.is
      (sym c.if-not-is_column.ensures) c.loop-place.invariant.left;
  even = c.loop-place.invariant.even;
}
