use Rattle.std.proofs.Common.{rules, arith, sym, ◌∙◌, ◌≢◌, ◌<◌, length}
use Rattle.office_db.proofs.found_offices.Deciding.{same_default}
use Rattle.office_db.proofs.found_offices.Operands.{other_operator}
use Rattle.office_db.proofs.loading.declared.checks.operands.Goals as goal

pub returns-then-ne-clause-other : goal.returns-then-ne-clause-other
returns-then-ne-clause-other c none a b e =
    let low : c.args.at < length c.args.ops.now = omega (arith, c.if-at-ops.false) in
    let differs : c.in-Binary.op ≢ c.args.of = search rules in
    other_operator c.args.ops.now c.args.depth c.args.at c.in-Binary.op c.args.of c.in-Binary.a c.in-Binary.b
    c.index-ops-at.result c.if-depth-eq0.false
    (same_default c.args.ops.now c.args.at _ _ low ∙ sym c.index-ops-at.is) c.in-Binary.is differs a b e
