use Rattle.std.proofs.Common.{refl, sym, ap, ◌∙◌, subst, true≢false}
use Rattle.sqlite.specs.Held.{state}
use Rattle.office_schema.specs.tables.Layouts.{version_of}
use Rattle.office_schema.specs.tables.InLayout.{HoldsOfficeIn}
use Rattle.office_db.specs.loading.Finding.{names_round}
use Rattle.office_db.proofs.found_offices.Finding.{laid_allowed, same_layout}
use Rattle.office_db.proofs.found_offices.LayoutTests.{office_names_round}
use Rattle.office_db.proofs.found_offices.Versions.{own_round}
use Rattle.office_db.proofs.loaded.VersionMeanings.{same_begins_office}
use Rattle.office_db.proofs.loaded.WholeRows.{laid_if_sound}
use Rattle.office_db.proofs.loading.finding.find.Goals as goal

pub returns-then-not-names_round-clause-found : goal.returns-then-not-names_round-clause-found
returns-then-not-names_round-clause-found g c clean layout own office lawful well_formed holds =
    absurd (true≢false (sym (own_round layout) ∙ ap names_round (sym holds.schema)
    ∙ ap names_round (sym c.schema.ensures.value) ∙ sym c.names_round.ensures ∙ c.if-not-names_round.true))

pub returns-in-Ok-clause-laid : goal.returns-in-Ok-clause-laid
returns-in-Ok-clause-laid g c = sym c.schema-2.ensures.value ∙ c.in-Some.ensures.laid

pub returns-in-Ok-clause-held : goal.returns-in-Ok-clause-held
returns-in-Ok-clause-held g c clean wide =
    let start = state g.S.Store c.args.conn.now in
    let layout = c.in-Some.layout in
    let laid = sym c.schema-2.ensures.value ∙ c.in-Some.ensures.laid in
    let sound =
    (c.schema-2.ensures.live
    (c.read.ensures.reads.keeps.follows.was_open clean (c.in-Ok.ensures.is_open clean))).0 in
    c.in-Ok.ensures.held clean (laid_if_sound layout start.now sound laid wide)

pub returns-in-Ok-clause-found : goal.returns-in-Ok-clause-found
returns-in-Ok-clause-found g c clean layout own office lawful well_formed holds =
    let start = state g.S.Store c.args.conn.now in
    let laid = sym c.schema-2.ensures.value ∙ c.in-Some.ensures.laid in
    let same = same_layout layout c.in-Some.layout start.now.schema holds.schema laid in
    let holding = subst (λ l. HoldsOfficeIn l start.now office) (sym same) holds in
    (c.in-Ok.ensures.found clean (ap version_of same ∙ own) office lawful well_formed holding, same)

pub returns-in-Err-clause-found : goal.returns-in-Err-clause-found
returns-in-Err-clause-found g c clean layout own office lawful well_formed holds =
    let start = state g.S.Store c.args.conn.now in
    let laid = sym c.schema-2.ensures.value ∙ c.in-Some.ensures.laid in
    let same = same_layout layout c.in-Some.layout start.now.schema holds.schema laid in
    let holding = subst (λ l. HoldsOfficeIn l start.now office) (sym same) holds in
    c.in-Err.ensures.found clean (ap version_of same ∙ own) office lawful well_formed holding

-- ---- where the tables are in no known layout

pub returns-in_default-clause-found : goal.returns-in_default-clause-found
returns-in_default-clause-found g c clean layout own office lawful well_formed holds =
    absurd (c.in_default.ensures.unknown refl layout (c.schema-2.ensures.value ∙ holds.schema))

-- ---- where the tables are in a known layout, the first three are an office's

pub returns-in-Ok-clause-unread : goal.returns-in-Ok-clause-unread
returns-in-Ok-clause-unread g c none =
    absurd (none (same_begins_office c.in-Some.layout _ (sym c.schema-2.ensures.value ∙ c.in-Some.ensures.laid)))

pub returns-in-Err-clause-unread : goal.returns-in-Err-clause-unread
returns-in-Err-clause-unread g c none =
    absurd (none (same_begins_office c.in-Some.layout _ (sym c.schema-2.ensures.value ∙ c.in-Some.ensures.laid)))

pub returns-then-not-names_round-clause-other : goal.returns-then-not-names_round-clause-other
returns-then-not-names_round-clause-other g c clean version front other =
    let start = state g.S.Store c.args.conn.now in
    absurd (true≢false (sym (office_names_round start.now.schema front) ∙ ap names_round (sym c.schema.ensures.value)
    ∙ sym c.names_round.ensures ∙ c.if-not-names_round.true))

pub returns-in-Err-clause-allowed : goal.returns-in-Err-clause-allowed
returns-in-Err-clause-allowed g c =
    let start = state g.S.Store c.args.conn.now in
    let laid = sym c.schema-2.ensures.value ∙ c.in-Some.ensures.laid in
    laid_allowed start.now.schema c.in-Some.layout c.in-Err.fault laid c.in-Err.ensures.number
