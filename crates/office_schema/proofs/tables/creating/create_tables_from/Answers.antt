use Rattle.std.proofs.Common.{◌∙◌, drop, take, refl, inl, inr, arith}
use Rattle.std.proofs.lemmas.Result.{err_from_is_err_and}
use Rattle.sqlite.specs.Held.{state}
use Rattle.sqlite.specs.State.{HasCleanDisk}
use Rattle.office_schema.specs.tables.Schema.{first_tables, office_schema}
use Rattle.office_schema.proofs.statements.Cleared.{schema_unchanged, cut_short, none_past, one_more_made}
use Rattle.office_schema.proofs.statements.Steps.{inside_none, inside_then}
use Rattle.office_schema.proofs.tables.creating.create_tables_from.Goals as goal

pub loop-place-init : goal.loop-place-init
loop-place-init g c =
    let start = state g.S.Store c.args.tx.now.conn.now in
    let n = c.args.first in
    record {
      same_reference = refl;
      change = schema_unchanged (first_tables n) (take n office_schema.tables) _ start
          (λ trees. none_past _ n office_schema.tables);
      inside = inside_none start;
    }

pub loop-place-preserved : goal.loop-place-preserved
loop-place-preserved g c =
    let old = state g.S.Store c.args.tx.now.conn.now in
    let mid = state g.S.Store c.loop-place.tx.conn.now in
    let new = state g.S.Store c.run.new.tx.conn.now in
    let n = c.args.first in
    let early : HasCleanDisk new → HasCleanDisk mid = λ clean. omega (arith, c.run.ensures.inside.survives.clean) in
    record {
      same_reference = c.in_ok-run.ensures.same_reference ∙ c.loop-place.invariant.same_reference;
      change = one_more_made old mid new early (first_tables n) n n c.loop-place.place (omega arith) (omega arith)
          (omega arith) (λ clean. rw c.table_text.ensures at (c.in_ok-run.ensures.made clean))
          c.loop-place.invariant.change;
      inside = inside_then _ _ _ c.loop-place.invariant.inside c.run.ensures.inside;
    }

pub returns-in_err-run-clause-undone : goal.returns-in_err-run-clause-undone
returns-in_err-run-clause-undone g c =
    let old = state g.S.Store c.args.tx.now.conn.now in
    let mid = state g.S.Store c.loop-place.tx.conn.now in
    let new = state g.S.Store c.run.new.tx.conn.now in
    let n = c.args.first in
    let place = c.loop-place.place in
    let early : HasCleanDisk new → HasCleanDisk mid = λ clean. omega (arith, c.run.ensures.inside.survives.clean) in
    let p = err_from_is_err_and c.from_residual.result c.from_residual.ensures.1 in
    rw (p.1) (λ intact. elim
    (cut_short old mid new early (first_tables n) (first_tables place) (take n office_schema.tables)
    (drop n (take place office_schema.tables)) c.loop-place.invariant.inside c.run.ensures.inside
    c.loop-place.invariant.change c.in_err-run.ensures.undone intact) [
      | inl cut ↦ inl (place, omega arith, omega arith, cut)
      | inr rolled ↦ inr rolled
    ])
