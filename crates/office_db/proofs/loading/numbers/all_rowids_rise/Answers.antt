use Rattle.std.proofs.Common.{sym, subst, refl, arith}
use Rattle.office_schema.proofs.statements.Steps.{intact_before}
use Rattle.sqlite.specs.Effect.{Database}
use Rattle.sqlite.specs.Held.{state}
use Rattle.office_schema.specs.tables.FirstTables.{Begins}
use Rattle.office_db.specs.loading.Numbers.{HaveRowids, tree_of}
use Rattle.office_db.proofs.found_offices.Following.{reads_then}
use Rattle.office_db.proofs.loaded.QueryMeanings.{some_tables}
use Rattle.office_db.proofs.loaded.Numbering.{next_place, numbered_if_read}
use Rattle.office_db.proofs.loading.numbers.all_rowids_rise.Goals as goal

pub loop-place-preserved : goal.loop-place-preserved
loop-place-preserved g c =
    let start = state g.S.Store c.args.conn.now in
    let before = state g.S.Store c.loop-place.conn in
    let after = state g.S.Store c.rowids.new.conn in
    record {
      outside = c.rowids.ensures.outside;
      reads = reads_then start before after c.loop-place.invariant.reads c.rowids.ensures.reads;
      opened = λ clean low. c.in_ok-rows.ensures.is_open clean;
      risen = λ clean has.
          let early =
          intact_before before after c.rowids.ensures.reads.keeps.follows
          (clean, c.in_ok-rows.ensures.is_open clean) in
          let same = c.loop-place.invariant.reads.keeps.same early in
          let here =
          numbered_if_read _ _
          (c.in_ok-rows.ensures.shown clean
          (subst (λ (d : Database). Begins c.args.layout d.schema) (sym same) has))
          (subst HaveRowids c.as_slice.ensures.value (c.if-not-do_rowids_rise.ensures refl)) in
          next_place (λ k. HaveRowids (start.now.trees (tree_of c.args.layout k))) c.loop-place.place
          (c.loop-place.invariant.risen early.0 has)
          (subst (λ (d : Database). HaveRowids (d.trees (tree_of c.args.layout c.loop-place.place))) same here);
    }

pub returns-clause-is_open : goal.returns-clause-is_open
returns-clause-is_open g c clean = c.loop-place.invariant.opened clean (omega (arith, some_tables c.args.layout))

pub returns-clause-risen : goal.returns-clause-risen
returns-clause-risen g c clean has rise place low =
    c.loop-place.invariant.risen clean has place
    (omega (arith, low, c.loop-place-test.false, c.tables-place-end.ensures))
