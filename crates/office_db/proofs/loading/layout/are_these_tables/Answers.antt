use Rattle.std.proofs.Common.{arith, refl}
use Rattle.std.proofs.lemmas.Bool.Decides.{not_from_Decides}
use Rattle.office_schema.specs.tables.Schema.{office_table}
use Rattle.office_db.proofs.found_offices.Deciding.{never}
use Rattle.office_db.proofs.found_offices.Passing.{agree_all, agree_at, differ_at}
use Rattle.office_db.proofs.loading.layout.are_these_tables.Goals as goal

pub returns-then-not-is_this_table : goal.returns-then-not-is_this_table
returns-then-not-is_this_table c =
    never (differ_at (λ o. office_table o.0 o.1) c.args.own.now c.args.tables.now c.loop-place.place _
    c.index-tables-place.result c.loop-place.invariant.even c.loop-place-test.true c.index-tables-place.is
    (not_from_Decides _ c.is_this_table.ensures c.if-not-is_this_table.true))

pub loop-place-preserved : goal.loop-place-preserved
loop-place-preserved c = record {
  left = agree_at (λ o. office_table o.0 o.1) c.args.own.now c.args.tables.now c.loop-place.place _
      c.index-tables-place.result c.loop-place.invariant.even c.loop-place-test.true c.index-tables-place.is
      (c.is_this_table.ensures.0 c.if-not-is_this_table.false) c.loop-place.invariant.left;
  even = c.loop-place.invariant.even;
}

pub returns : goal.returns
returns c = (
  λ _. agree_all (λ o. office_table o.0 o.1) c.args.own.now c.args.tables.now c.loop-place.place
      c.loop-place.invariant.even
      (omega (arith, c.loop-place-test.false)) c.loop-place.invariant.left,
  λ _. refl,
)
