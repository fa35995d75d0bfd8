use Rattle.std.proofs.Common.{◌≡◌, [], map, not, All, IfSome, MatchOption, refl, sym, ap, ◌∙◌, subst}
use Rattle.sqlite.specs.Held.{state}
use Rattle.sqlite.specs.State.{Shown}
use Rattle.office_schema.specs.tables.Asking.{OnlyAsks}
use Rattle.office_schema.specs.tables.TableQueries.{query_columns, query_names, query_text, tree_in}
use Rattle.office_db.proofs.loaded.Listings.{shows_table, read_all, found_is, shown_is}
use Rattle.office_db.proofs.found_offices.States.{asks_nothing_new, reads_shown, reads_failed, shown_is_open}
use Rattle.office_db.proofs.loading.listed.table_records.Goals as goal

pub returns-in_err-rows-clause-reads : goal.returns-in_err-rows-clause-reads
returns-in_err-rows-clause-reads g c =
    reads_failed c.query.result.now [] _ _ _ c.query_all.ensures.survives
    (asks_nothing_new c.query.result.now [] _ _ (subst OnlyAsks (sym c.query.ensures.text) c.query.ensures.asks)
    c.query_all.ensures.survives) _
    (c.is_autocommit-outside.ensures.settled (c.is_autocommit-outside.ensures.value ∙ ap not c.requires.outside))
    c.in_err-rows.ensures.err

pub returns-in-Ok-clause-reads : goal.returns-in-Ok-clause-reads
returns-in-Ok-clause-reads g c =
    reads_shown c.query.result.now [] _ _ c.query_all.ensures.survives _
    (subst OnlyAsks (sym c.query.ensures.text) c.query.ensures.asks) c.in_ok-rows.ensures.ok

pub returns-clause-reads : goal.returns-clause-reads
returns-clause-reads g c =
    reads_shown c.query.result.now [] _ _ c.query_all.ensures.survives _
    (subst OnlyAsks (sym c.query.ensures.text) c.query.ensures.asks) c.in_ok-rows.ensures.ok

pub returns-in-Ok-clause-found : goal.returns-in-Ok-clause-found
returns-in-Ok-clause-found g c clean has records holds well_formed =
    let old = state g.S.Store c.args.conn.now in
    let name = g.R.TableRow.name in
    let shown =
    subst (λ t. Shown t [] old (state g.S.Store c.query_all.new.self) c.in_ok-rows.rows.items) c.query.ensures.text
    (c.in_ok-rows.ensures.ok clean) in
    let same =
    shows_table old.now.schema (query_text name) (tree_in c.args.layout name) (query_columns name) (query_names name)
    (c.query.ensures.lists c.args.layout c.requires.known old.now.schema has) old _ _ refl shown in
    found_is g.R.TableRow.kept g.R.TableRow.columns g.R.TableRow.is_form g.R.TableRow.front (query_columns name)
    c.query.ensures.determines (old.now.trees (tree_in c.args.layout name)) c.in_ok-rows.rows.items records holds same
    _ c.in-Ok.found well_formed
    (subst (λ l. MatchOption c.in-Ok.found (¬ All g.R.TableRow.is_form l)
    (λ read. map g.R.TableRow.columns read.items ≡ map g.R.TableRow.front l)) c.as_slice.ensures.value
    c.in-Ok.ensures.returned)

pub returns-in-Ok-clause-returned : goal.returns-in-Ok-clause-returned
returns-in-Ok-clause-returned g c clean has =
    let old = state g.S.Store c.args.conn.now in
    let name = g.R.TableRow.name in
    let shown =
    subst (λ t. Shown t [] old (state g.S.Store c.query_all.new.self) c.in_ok-rows.rows.items) c.query.ensures.text
    (c.in_ok-rows.ensures.ok clean) in
    let same =
    shows_table old.now.schema (query_text name) (tree_in c.args.layout name) (query_columns name) (query_names name)
    (c.query.ensures.lists c.args.layout c.requires.known old.now.schema has) old _ _ refl shown in
    read_all g.R.TableRow.columns g.R.TableRow.is_form g.R.TableRow.front (query_columns name)
    c.query.ensures.determines.whole (old.now.trees (tree_in c.args.layout name)) c.in_ok-rows.rows.items same
    _ c.in-Ok.found
    (subst (λ l. MatchOption c.in-Ok.found (¬ All g.R.TableRow.is_form l)
    (λ read. map g.R.TableRow.columns read.items ≡ map g.R.TableRow.front l)) c.as_slice.ensures.value
    c.in-Ok.ensures.returned)

pub returns-in-Ok-clause-shown : goal.returns-in-Ok-clause-shown
returns-in-Ok-clause-shown g c clean has =
    let old = state g.S.Store c.args.conn.now in
    let name = g.R.TableRow.name in
    let text =
    subst (λ t. Shown t [] old (state g.S.Store c.query_all.new.self) c.in_ok-rows.rows.items) c.query.ensures.text
    (c.in_ok-rows.ensures.ok clean) in
    let same =
    shows_table old.now.schema (query_text name) (tree_in c.args.layout name) (query_columns name) (query_names name)
    (c.query.ensures.lists c.args.layout c.requires.known old.now.schema has) old _ _ refl text in
    shown_is g.R.TableRow.kept g.R.TableRow.columns g.R.TableRow.is_form g.R.TableRow.front (query_columns name)
    c.query.ensures.determines (old.now.trees (tree_in c.args.layout name)) c.in_ok-rows.rows.items same
    _ c.in-Ok.found
    (subst (λ l. MatchOption c.in-Ok.found (¬ All g.R.TableRow.is_form l)
    (λ read. map g.R.TableRow.columns read.items ≡ map g.R.TableRow.front l)) c.as_slice.ensures.value
    c.in-Ok.ensures.returned)
    (subst (λ l. IfSome c.in-Ok.found (λ _. All g.R.TableRow.is_form l)) c.as_slice.ensures.value
    c.in-Ok.ensures.formed)

pub returns-in-Ok-clause-is_open : goal.returns-in-Ok-clause-is_open
returns-in-Ok-clause-is_open g c clean =
    shown_is_open c.query.result.now [] _ _ c.in_ok-rows.rows.items (c.in_ok-rows.ensures.ok clean)
