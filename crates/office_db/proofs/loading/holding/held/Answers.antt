use Rattle.std.proofs.Common.{sym, subst}
use Rattle.office_schema.proofs.statements.Steps.{intact_before}
use Rattle.sqlite.specs.Effect.{Database}
use Rattle.sqlite.specs.Held.{state}
use Rattle.office_schema.specs.rows.Tables.{rows_at}
use Rattle.office_schema.specs.tables.Layouts.{version_of}
use Rattle.office_schema.specs.tables.FirstTables.{Begins}
use Rattle.office_db.specs.loading.Numbers.{AllHaveRowids}
use Rattle.office_db.proofs.found_offices.First.{laid_first}
use Rattle.office_db.proofs.loaded.Layouts.{first_held, shown_well_formed}
use Rattle.office_db.proofs.loaded.Listings.{some_weaker}
use Rattle.office_db.proofs.loading.holding.held.Goals as goal

pub returns-clause-held_first : goal.returns-clause-held_first
returns-clause-held_first g c clean laid =
    let start = state g.S.Store c.args.conn.now in
    let one = state g.S.Store c.load.new.conn in
    let two = state g.S.Store c.all_rowids_rise.new.conn in
    let at_one =
    intact_before one two c.all_rowids_rise.ensures.reads.keeps.follows
    (clean, c.in_ok-all_rowids_rise.ensures.is_open clean) in
    let same_one = c.load.ensures.same at_one in
    let has_one = subst (λ (d : Database). Begins c.args.layout d.schema) (sym same_one) laid.schema in
    let numbers =
    subst (λ (d : Database). AllHaveRowids c.args.layout d.trees) same_one
    (c.in_ok-all_rowids_rise.ensures.risen clean has_one c.if-not-branch.false) in
    some_weaker c.in_ok-found.found _ _
    (λ office shown. first_held c.args.layout start.now (rows_at (version_of c.args.layout) office) laid numbers
    shown) (c.in_ok-found.ensures.shown at_one.0 laid.schema)

pub returns-clause-held : goal.returns-clause-held
returns-clause-held g c clean laid =
    let start = state g.S.Store c.args.conn.now in
    let first = laid_first c.args.layout start.now laid in
    some_weaker c.in_ok-found.found _ _ (λ office h. record { schema = laid.schema; rows = h.rows })
    (returns-clause-held_first g c clean first)

pub returns-clause-well_formed_first : goal.returns-clause-well_formed_first
returns-clause-well_formed_first g c clean laid =
    let one = state g.S.Store c.load.new.conn in
    let two = state g.S.Store c.all_rowids_rise.new.conn in
    let at_one =
    intact_before one two c.all_rowids_rise.ensures.reads.keeps.follows
    (clean, c.in_ok-all_rowids_rise.ensures.is_open clean) in
    some_weaker c.in_ok-found.found _ _
    (λ office shown. shown_well_formed c.args.layout _ (rows_at (version_of c.args.layout) office) shown)
    (c.in_ok-found.ensures.shown at_one.0 laid.schema)

pub returns-clause-well_formed : goal.returns-clause-well_formed
returns-clause-well_formed g c clean laid =
    returns-clause-well_formed_first g c clean (laid_first c.args.layout (state g.S.Store c.args.conn.now).now laid)

pub returns-clause-found : goal.returns-clause-found
returns-clause-found g c clean office lawful well_formed holds =
    let one = state g.S.Store c.load.new.conn in
    let two = state g.S.Store c.all_rowids_rise.new.conn in
    let at_one =
    intact_before one two c.all_rowids_rise.ensures.reads.keeps.follows
    (clean, c.in_ok-all_rowids_rise.ensures.is_open clean) in
    c.in_ok-found.ensures.found at_one.0 office lawful well_formed holds

pub returns-clause-first : goal.returns-clause-first
returns-clause-first g c clean office lawful well_formed holds =
    let one = state g.S.Store c.load.new.conn in
    let two = state g.S.Store c.all_rowids_rise.new.conn in
    let at_one =
    intact_before one two c.all_rowids_rise.ensures.reads.keeps.follows
    (clean, c.in_ok-all_rowids_rise.ensures.is_open clean) in
    c.in_ok-found.ensures.first at_one.0 office lawful well_formed holds
