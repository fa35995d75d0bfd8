use Rattle.std.proofs.Common.{◌≡◌, ◌-◌, ◌+◌, ◌∙◌, suc, [], refl, subst, inl, inr, arith}
use Rattle.std.proofs.lemmas.Result.{err_from_is_err_and}
use native.Mathlib.Numerals.{unary_clauses}
use Rattle.sqlite.specs.Held.{state}
use Rattle.sqlite.specs.State.{HasCleanDisk}
use Rattle.office_schema.specs.tables.Declaring.{LeavesFirst}
use Rattle.office_schema.specs.tables.Layouts.{schema_of, table_count, tables_of}
use Rattle.office_schema.proofs.statements.Cleared.{cut_short, one_fewer, whole_layout}
use Rattle.office_schema.proofs.statements.Steps.{inside_none, inside_then}
use Rattle.office_schema.proofs.tables.dropping.drop_tables_to.Goals as goal

pub loop-step-init : goal.loop-step-init
loop-step-init g c =
    let start = state g.S.Store c.args.tx.now.conn.now in
    record {
      same_reference = refl;
      change = simp unary_clauses (whole_layout c.args.layout start);
      inside = inside_none start;
    }

pub loop-step-preserved : goal.loop-step-preserved
loop-step-preserved g c =
    let old = state g.S.Store c.args.tx.now.conn.now in
    let mid = state g.S.Store c.loop-step.tx.conn.now in
    let new = state g.S.Store c.run.new.tx.conn.now in
    let early : HasCleanDisk new → HasCleanDisk mid = λ clean. omega (arith, c.run.ensures.inside.survives.clean) in
    let place = c.tables-count.result - 1 - c.loop-step.step in
    let before : table_count c.args.layout - c.loop-step.step ≡ suc place = omega (arith, c.tables-count.ensures) in
    let after : place ≡ table_count c.args.layout - (c.loop-step.step + 1) = omega (arith, c.tables-count.ensures) in
    record {
      same_reference = c.in_ok-run.ensures.same_reference ∙ c.loop-step.invariant.same_reference;
      change = subst (λ n. LeavesFirst c.args.layout n old new) after
          (one_fewer old mid new early c.args.layout place (omega (arith, c.tables-count.ensures))
          (omega (arith, c.tables-count.ensures))
          (λ clean. rw c.drop_text.ensures at (c.in_ok-run.ensures.made clean))
          (subst (λ n. LeavesFirst c.args.layout n old mid) before c.loop-step.invariant.change));
      inside = inside_then _ _ _ c.loop-step.invariant.inside c.run.ensures.inside;
    }

pub returns-in_err-run-clause-undone : goal.returns-in_err-run-clause-undone
returns-in_err-run-clause-undone g c =
    let old = state g.S.Store c.args.tx.now.conn.now in
    let mid = state g.S.Store c.loop-step.tx.conn.now in
    let new = state g.S.Store c.run.new.tx.conn.now in
    let layout = c.args.layout in
    let left = table_count layout - c.loop-step.step in
    let early : HasCleanDisk new → HasCleanDisk mid = λ clean. omega (arith, c.run.ensures.inside.survives.clean) in
    let p = err_from_is_err_and c.from_residual.result c.from_residual.ensures.1 in
    rw (p.1) (λ intact. elim
    (cut_short old mid new early (schema_of layout) (tables_of layout left) (tables_of layout left).tables []
    c.loop-step.invariant.inside c.run.ensures.inside c.loop-step.invariant.change c.in_err-run.ensures.undone intact) [
      | inl cut ↦ inl (left, omega (arith, c.tables-count.ensures), omega (arith, c.tables-count.ensures), cut)
      | inr rolled ↦ inr rolled
    ])
