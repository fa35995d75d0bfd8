use Rattle.std.proofs.Common.{sym, subst}
use Rattle.sqlite.specs.Effect.{Database}
use Rattle.sqlite.specs.Held.{state}
use Rattle.office_schema.specs.tables.Holds.{Holds}
use Rattle.office_schema.specs.tables.TableQueries.{query_columns, tree_in}
use Rattle.office_schema.proofs.statements.Steps.{intact_before}
use Rattle.office_schema.specs.tables.FirstTables.{Begins}
use Rattle.office_schema.specs.tables.Listing.{ShowRecords}
use Rattle.office_db.proofs.loading.reading.read_two.Goals as goal

pub returns-in_default-clause-found : goal.returns-in_default-clause-found
returns-in_default-clause-found g c clean has first second here there well_formed more =
    rw c.in_default.is at c.in_ok-first.ensures.found clean has first here well_formed

pub returns-in_default-2-clause-found : goal.returns-in_default-2-clause-found
returns-in_default-2-clause-found g c clean has first second here there well_formed more =
    let before =
    intact_before (state g.S.Store c.table_records.new.conn) (state g.S.Store c.table_records-2.new.conn)
    c.table_records-2.ensures.reads.keeps.follows (clean, c.in_ok-second.ensures.is_open clean) in
    let same = c.table_records.ensures.reads.keeps.same before in
    let still =
    subst (λ (d : Database). Holds g.B.TableRow.kept (d.trees (tree_in c.args.layout g.B.TableRow.name)) second)
    (sym same) there in
    rw c.in_default-2.is at c.in_ok-second.ensures.found clean
    (subst (λ (d : Database). Begins c.args.layout d.schema) (sym same) has) second still more

pub returns-clause-found : goal.returns-clause-found
returns-clause-found g c clean has first second here there well_formed more =
    let before =
    intact_before (state g.S.Store c.table_records.new.conn) (state g.S.Store c.table_records-2.new.conn)
    c.table_records-2.ensures.reads.keeps.follows (clean, c.in_ok-second.ensures.is_open clean) in
    let same = c.table_records.ensures.reads.keeps.same before in
    let still =
    subst (λ (d : Database). Holds g.B.TableRow.kept (d.trees (tree_in c.args.layout g.B.TableRow.name)) second)
    (sym same) there in (
      rw c.in-Some.is at c.in_ok-first.ensures.found before.0 has first here well_formed,
      rw c.in-Some-2.is at c.in_ok-second.ensures.found clean
          (subst (λ (d : Database). Begins c.args.layout d.schema) (sym same) has) second still more,
    )

pub returns-clause-shown : goal.returns-clause-shown
returns-clause-shown g c clean has =
    let before =
    intact_before (state g.S.Store c.table_records.new.conn) (state g.S.Store c.table_records-2.new.conn)
    c.table_records-2.ensures.reads.keeps.follows (clean, c.in_ok-second.ensures.is_open clean) in
    let same = c.table_records.ensures.reads.keeps.same before in (
      rw c.in-Some.is at c.in_ok-first.ensures.shown before.0 has,
      subst (λ (d : Database). ShowRecords g.B.TableRow.columns g.B.TableRow.is_form (query_columns g.B.TableRow.name)
          (d.trees (tree_in c.args.layout g.B.TableRow.name)) c.in-Some-2.second.items) same
          (rw c.in-Some-2.is at c.in_ok-second.ensures.shown clean
          (subst (λ (d : Database). Begins c.args.layout d.schema) (sym same) has)),
    )
