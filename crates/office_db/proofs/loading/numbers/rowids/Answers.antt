use Rattle.std.proofs.Common.{[], not, refl, sym, ap, ◌∙◌, subst, arith}
use Rattle.sqlite.specs.Held.{state}
use Rattle.sqlite.specs.State.{Shown}
use Rattle.office_schema.specs.tables.Asking.{OnlyAsks}
use Rattle.office_db.specs.loading.Numbers.{only_rowid, rowid_text, tree_of}
use Rattle.office_db.proofs.loaded.Listings.{shows_table}
use Rattle.office_db.proofs.loaded.QueryMeanings.{few_tables, rowids_asked, rowids_listed}
use Rattle.office_db.proofs.found_offices.States.{asks_nothing_new, reads_shown, reads_failed, shown_is_open}
use Rattle.office_db.proofs.loading.numbers.rowids.Goals as goal

pub returns-in_err-rows-clause-reads : goal.returns-in_err-rows-clause-reads
returns-in_err-rows-clause-reads g c =
    let asks = rowids_asked c.args.place (omega (arith, c.requires.known, few_tables c.args.layout)) in
    reads_failed c.rowid_query.result.now [] _ _ _ c.query_all.ensures.survives
    (asks_nothing_new c.rowid_query.result.now [] _ _ (subst OnlyAsks (sym c.rowid_query.ensures) asks)
    c.query_all.ensures.survives) _
    (c.is_autocommit-outside.ensures.settled (c.is_autocommit-outside.ensures.value ∙ ap not c.requires.outside))
    c.in_err-rows.ensures.err

pub returns-clause-reads : goal.returns-clause-reads
returns-clause-reads g c =
    let asks = rowids_asked c.args.place (omega (arith, c.requires.known, few_tables c.args.layout)) in
    reads_shown c.rowid_query.result.now [] _ _ c.query_all.ensures.survives _
    (subst OnlyAsks (sym c.rowid_query.ensures) asks) c.in_ok-rows.ensures.ok

pub returns-clause-shown : goal.returns-clause-shown
returns-clause-shown g c clean has =
    let old = state g.S.Store c.args.conn.now in
    let shown =
    subst (λ t. Shown t [] old (state g.S.Store c.query_all.new.self) c.in_ok-rows.rows.items) c.rowid_query.ensures
    (c.in_ok-rows.ensures.ok clean) in
    shows_table old.now.schema (rowid_text c.args.place) (tree_of c.args.layout c.args.place) only_rowid _
    (rowids_listed c.args.layout c.args.place c.requires.known old.now.schema has) old _ _ refl shown

pub returns-clause-is_open : goal.returns-clause-is_open
returns-clause-is_open g c clean =
    shown_is_open c.rowid_query.result.now [] _ _ c.in_ok-rows.rows.items (c.in_ok-rows.ensures.ok clean)
