use Rattle.std.proofs.Common.{sym, ◌<◌, [], length, get_or, arith}
use Rattle.std.proofs.lemmas.Bool.Decides.{Decides-eqb}
use Rattle.office_db.specs.loading.Inner.Declared.{is_plain}
use Rattle.office_db.proofs.found_offices.Deciding.{no_digits, same_default}
use Rattle.office_db.proofs.found_offices.Passing.{fails_at, passes_at}
use Rattle.office_db.proofs.loading.declared.references.are_plain.Goals as goal

pub returns-then-orders-place-ne0 : goal.returns-then-orders-place-ne0
returns-then-orders-place-ne0 c =
    let order = get_or c.args.orders.now c.loop-place.place (record { digits = 0 }) in
    let low : c.loop-place.place < length c.args.orders.now =
    omega (arith, c.loop-place-test.true, c.loop-place.invariant.even) in
    sym (fails_at (λ o. o.now) is_plain c.args.uniques.now c.args.orders.now c.loop-place.place
    (record { ref_ptr = (0, 0); now = [] })
    order c.loop-place.invariant.even c.loop-place-test.true (same_default c.args.orders.now c.loop-place.place _ _ low)
    (no_digits order.digits c.if-orders-place-ne0.true) c.loop-place.invariant.left)

pub loop-place-preserved : goal.loop-place-preserved
loop-place-preserved c =
    let order = get_or c.args.orders.now c.loop-place.place (record { digits = 0 }) in
    let low : c.loop-place.place < length c.args.orders.now =
    omega (arith, c.loop-place-test.true, c.loop-place.invariant.even) in record {
      left = passes_at (λ o. o.now) is_plain c.args.uniques.now c.args.orders.now c.loop-place.place
          (record { ref_ptr = (0, 0); now = [] })
          order c.loop-place.invariant.even c.loop-place-test.true
          (same_default c.args.orders.now c.loop-place.place _ _ low)
          ((Decides-eqb order.digits 0).1 c.if-orders-place-ne0.false) c.loop-place.invariant.left;
      even = c.loop-place.invariant.even;
    }
