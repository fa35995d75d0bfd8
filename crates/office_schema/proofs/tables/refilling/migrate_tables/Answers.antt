use Rattle.std.proofs.Common.{arith, rules}
use Rattle.std.proofs.lemmas.Result.{on_ok_weaker}
use Rattle.sqlite.specs.Held.{state}
use Rattle.office_schema.proofs.statements.Refilled.{migrates}
use Rattle.office_schema.proofs.statements.Steps.{inside_then}
use Rattle.office_schema.proofs.tables.refilling.migrate_tables.Goals as goal

pub returns : goal.returns
returns g c =
    let old = state g.S.Store c.args.tx.now.conn.now in
    let s0 = state g.S.Store c.rebuild_tables.new.tx.conn.now in
    let s1 = state g.S.Store c.refill.new.tx.conn.now in
    let s2 = state g.S.Store c.refill-2.new.tx.conn.now in
    let s3 = state g.S.Store c.refill-3.new.tx.conn.now in
    let s4 = state g.S.Store c.refill-4.new.tx.conn.now in
    let s5 = state g.S.Store c.refill-5.new.tx.conn.now in
    let s6 = state g.S.Store c.refill-6.new.tx.conn.now in
    let s7 = state g.S.Store c.refill-7.new.tx.conn.now in
    let new = state g.S.Store c.set_version.new.tx.conn.now in
    let i1 = inside_then _ _ _ c.rebuild_tables.ensures.inside c.refill.ensures.inside in
    let i2 = inside_then _ _ _ i1 c.refill-2.ensures.inside in
    let i3 = inside_then _ _ _ i2 c.refill-3.ensures.inside in
    let i4 = inside_then _ _ _ i3 c.refill-4.ensures.inside in
    let i5 = inside_then _ _ _ i4 c.refill-5.ensures.inside in
    let i6 = inside_then _ _ _ i5 c.refill-6.ensures.inside in
    let i7 = inside_then _ _ _ i6 c.refill-7.ensures.inside in
    record {
      same_reference = search rules;
      made = on_ok_weaker _ (λ made. migrates c.args.layout c.args.records.now old s0 s1 s2 s3 s4 s5 s6 s7 new
          (λ clean. omega (arith, c.refill.ensures.inside.survives.clean))
          (λ clean. omega (arith, c.refill-2.ensures.inside.survives.clean))
          (λ clean. omega (arith, c.refill-3.ensures.inside.survives.clean))
          (λ clean. omega (arith, c.refill-4.ensures.inside.survives.clean))
          (λ clean. omega (arith, c.refill-5.ensures.inside.survives.clean))
          (λ clean. omega (arith, c.refill-6.ensures.inside.survives.clean))
          (λ clean. omega (arith, c.refill-7.ensures.inside.survives.clean))
          (λ clean. omega (arith, c.set_version.ensures.inside.survives.clean))
          c.in_ok-rebuild_tables.ensures.made (rw c.as_slice.ensures.value at c.in_ok-refill.ensures.made)
          (rw c.as_slice-2.ensures.value at c.in_ok-refill-2.ensures.made)
          (rw c.as_slice-3.ensures.value at c.in_ok-refill-3.ensures.made)
          (rw c.as_slice-4.ensures.value at c.in_ok-refill-4.ensures.made)
          (rw c.as_slice-5.ensures.value at c.in_ok-refill-5.ensures.made)
          (rw c.as_slice-6.ensures.value at c.in_ok-refill-6.ensures.made)
          (rw c.as_slice-7.ensures.value at c.in_ok-refill-7.ensures.made) made) c.set_version.ensures.made;
      inside = inside_then _ _ _ i7 c.set_version.ensures.inside;
    }

pub returns-in_err-refill-7 : goal.returns-in_err-refill-7
returns-in_err-refill-7 g c =
    let i1 = inside_then _ _ _ c.rebuild_tables.ensures.inside c.refill.ensures.inside in
    let i2 = inside_then _ _ _ i1 c.refill-2.ensures.inside in
    let i3 = inside_then _ _ _ i2 c.refill-3.ensures.inside in
    let i4 = inside_then _ _ _ i3 c.refill-4.ensures.inside in
    let i5 = inside_then _ _ _ i4 c.refill-5.ensures.inside in
    let i6 = inside_then _ _ _ i5 c.refill-6.ensures.inside in
    record {
      same_reference = search rules;
      made = search rules;
      inside = inside_then _ _ _ i6 c.refill-7.ensures.inside;
    }

pub returns-in_err-refill-6 : goal.returns-in_err-refill-6
returns-in_err-refill-6 g c =
    let i1 = inside_then _ _ _ c.rebuild_tables.ensures.inside c.refill.ensures.inside in
    let i2 = inside_then _ _ _ i1 c.refill-2.ensures.inside in
    let i3 = inside_then _ _ _ i2 c.refill-3.ensures.inside in
    let i4 = inside_then _ _ _ i3 c.refill-4.ensures.inside in
    let i5 = inside_then _ _ _ i4 c.refill-5.ensures.inside in
    record {
      same_reference = search rules;
      made = search rules;
      inside = inside_then _ _ _ i5 c.refill-6.ensures.inside;
    }
