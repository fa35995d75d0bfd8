use Rattle.std.proofs.Common.{rules, ◌≡◌, [], sym, subst, arith}
use Rattle.sqlite.specs.Held.{Held, state}
use Rattle.sqlite.specs.State.{CommitsShowing, FailsToQuery, HasCleanDisk, Survives}
use Rattle.office_db.specs.loading.Reading.{OnlyReads}
use Rattle.office_schema.specs.tables.Asking.{OnlyAsks}
use Rattle.office_db.proofs.found_offices.States.{asks_nothing_new}
use Rattle.office_store.proofs.sent_rows.Stepping.{asked_of, reads_refused, reads_through}
use Rattle.office_store.proofs.exports.exporting.export_rows.Goals as goal

pub returns-in_default-clause-reads : goal.returns-in_default-clause-reads
returns-in_default-clause-reads g c =
    let old = state g.S.Store c.args.conn.now in
    let new = state g.S.Store c.query-2.follows.lender-at-none in
    let held = c.query-2.follows.holds-at-none in
    let kept : Survives old new (CommitsShowing c.query.result.now [] old) = search rules in
    let fails : HasCleanDisk new → FailsToQuery c.query.result.now [] old new c.in_default.field-0 = search rules in
    let asks = subst OnlyAsks (sym c.query.ensures.text) c.query.ensures.asks.asks in
    reads_refused c.query.result.now [] old new _ c.in_default.field-0 kept
    (asks_nothing_new c.query.result.now [] old new asks kept) c.show_committed.ensures fails

pub returns-clause-reads : goal.returns-clause-reads
returns-clause-reads g c =
    let same : c.conn-2-1.given.0 ≡ c.send_rows.new.rows.conn.now = search rules in
    let asks = subst OnlyAsks (sym c.query.ensures.text) c.query.ensures.asks.asks in
    subst (λ (h : Held g.row.S.Denot). OnlyReads (state g.S.Store c.args.conn.now) (state g.S.Store h)) (sym same)
    (reads_through g.S.Store c.query.result.now [] c.args.conn.now c.in-Ok.rows.conn.now c.send_rows.new.rows.conn.now
    asks c.in-Ok.ensures.survives c.in-Ok.ensures.begun c.show_committed.ensures
    c.send_rows.ensures.survives c.send_rows.ensures.keeps)

pub returns-clause-whole : goal.returns-clause-whole
returns-clause-whole g c clean office holding =
    let same : c.conn-2-1.given.0 ≡ c.send_rows.new.rows.conn.now = search rules in
    let late = subst (λ (h : Held g.row.S.Denot). HasCleanDisk (state g.S.Store h)) same clean in
    let early : HasCleanDisk (state g.S.Store c.in-Ok.rows.conn.now) =
    omega (arith, late, c.send_rows.ensures.survives.clean) in
    let asked =
    asked_of g.S.Store g.E.Exported.text c.query.result.now c.args.conn.now c.in-Ok.rows.conn.now office
    c.query.ensures.asks.plain c.query.ensures.text holding (c.in-Ok.ensures.begun early) in
    c.send_rows.ensures.whole late office asked

pub returns-clause-prefix : goal.returns-clause-prefix
returns-clause-prefix g c clean office holding =
    let same : c.conn-2-1.given.0 ≡ c.send_rows.new.rows.conn.now = search rules in
    let late = subst (λ (h : Held g.row.S.Denot). HasCleanDisk (state g.S.Store h)) same clean in
    let early : HasCleanDisk (state g.S.Store c.in-Ok.rows.conn.now) =
    omega (arith, late, c.send_rows.ensures.survives.clean) in
    let asked =
    asked_of g.S.Store g.E.Exported.text c.query.result.now c.args.conn.now c.in-Ok.rows.conn.now office
    c.query.ensures.asks.plain c.query.ensures.text holding (c.in-Ok.ensures.begun early) in
    c.send_rows.ensures.prefix late office asked

pub returns-clause-short : goal.returns-clause-short
returns-clause-short g c clean office holding =
    let same : c.conn-2-1.given.0 ≡ c.send_rows.new.rows.conn.now = search rules in
    let late = subst (λ (h : Held g.row.S.Denot). HasCleanDisk (state g.S.Store h)) same clean in
    let early : HasCleanDisk (state g.S.Store c.in-Ok.rows.conn.now) =
    omega (arith, late, c.send_rows.ensures.survives.clean) in
    let asked =
    asked_of g.S.Store g.E.Exported.text c.query.result.now c.args.conn.now c.in-Ok.rows.conn.now office
    c.query.ensures.asks.plain c.query.ensures.text holding (c.in-Ok.ensures.begun early) in
    c.send_rows.ensures.short late office asked
