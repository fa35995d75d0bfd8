use Rattle.std.proofs.Common.{sym, ◌∙◌, subst, true≢false}
use Rattle.sqlite.specs.Held.{state}
use Rattle.sqlite.specs.State.{State, HasCleanDisk}
use Rattle.office_state.specs.Office.Invariants.{IsLawful}
use Rattle.office_state.specs.declared.office.Office.{Office}
use Rattle.office_schema.specs.cells.WellFormed.{IsWellFormed}
use Rattle.office_schema.specs.rows.Tables.{rows_at}
use Rattle.office_schema.specs.tables.Crashes.{LeavesOldOr, WasOpen}
use Rattle.office_schema.specs.tables.Edits.{with_version}
use Rattle.office_schema.specs.tables.Layouts.{version_of}
use Rattle.office_schema.specs.tables.InLayout.{HoldsOfficeIn}
use Rattle.office_schema.specs.declared.tables.layouts.Layout.{Layout}
use Rattle.office_schema.proofs.statements.Steps.{intact_before}
use Rattle.office_schema.proofs.statements.Crashes.{old_or_weaker}
use Rattle.office_db.specs.loading.Numbers.{IsLaidOut}
use Rattle.office_db.specs.loading.Reading.{OnlyReads}
use Rattle.office_db.proofs.found_offices.Following.{committed_after_reading, still_has}
use Rattle.office_db.proofs.found_offices.Versions.{same_some}
use Rattle.office_migration.specs.Inner.Renewed.{HoldsSameTables}
use Rattle.office_migration.specs.Renewed.{CommitsRenewed}
use Rattle.office_migration.specs.Versions.{IsOfVersion}
use Rattle.office_migration.proofs.renewing.renewed_office.Goals as goal

pub returns-clause-renewed : goal.returns-clause-renewed
unfolding rows_at with_version
returns-clause-renewed g c clean laid =
    let layout = c.args.layout in
    let start = state g.S.Store c.args.conn.now in
    let one = state g.S.Store c.held.new.conn in
    let two = state g.S.Store c.renew_read.new.conn in
    let at_one = intact_before one two c.renew_read.ensures.follows
    (clean, c.in_ok-renew_read.ensures.is_open clean) in
    let rows = rows_at (version_of layout) c.in-Some.office in
    let has = rw c.in-Some.is at c.in_ok-office.ensures.held at_one.0 laid in
    let well_formed = rw c.in-Some.is at c.in_ok-office.ensures.well_formed at_one.0 laid in (
      has,
      well_formed,
      c.in_ok-renew_read.ensures.renewed clean rows
          (still_has layout start one rows c.held.ensures.reads at_one has) well_formed,
    )

pub returns-clause-found : goal.returns-clause-found
unfolding rows_at with_version
returns-clause-found g c clean office lawful well_formed kind holds =
    let layout = c.args.layout in
    let start = state g.S.Store c.args.conn.now in
    let one = state g.S.Store c.held.new.conn in
    let two = state g.S.Store c.renew_read.new.conn in
    let at_one = intact_before one two c.renew_read.ensures.follows
    (clean, c.in_ok-renew_read.ensures.is_open clean) in
    let rows = rows_at (version_of layout) office in
    let is = c.in_ok-office.ensures.found at_one.0 office lawful well_formed holds in (
      sym c.in-Some.is ∙ is,
      c.in_ok-renew_read.ensures.renewed clean rows
          (still_has layout start one rows c.held.ensures.reads at_one holds) well_formed,
    )

-- An office of this version passes the test.
pub returns-then-not-is_of_version-clause-found : goal.returns-then-not-is_of_version-clause-found
returns-then-not-is_of_version-clause-found g c clean office lawful well_formed kind holds =
    let layout = c.args.layout in
    let is = same_some c.in-Some.office office
    (sym c.in-Some.is ∙ c.in_ok-office.ensures.found clean office lawful well_formed holds) in
    let here = subst (λ (o : Office). IsOfVersion (version_of layout) o) (sym is) kind in
    let passes = c.is_of_version.ensures.1 (subst (λ v. IsOfVersion v c.in-Some.office) (sym c.version.ensures) here) in
    absurd (true≢false (sym passes ∙ c.if-not-is_of_version.true))

-- ---- after a crash

-- What is committed after the office was read.
renewed_once : (layout : Layout) (office : Office) (start one two : State) → IsLawful office
    → IsOfVersion (version_of layout) office
    → (HasCleanDisk one → IsLaidOut layout start.now → HoldsOfficeIn layout start.now office
    × IsWellFormed (rows_at (version_of layout) office))
    → OnlyReads start one → WasOpen one one → (HasCleanDisk two → HasCleanDisk one)
    → LeavesOldOr (HoldsSameTables layout one.now) one two
    → LeavesOldOr (CommitsRenewed layout start.now) start two
unfolding rows_at with_version
renewed_once layout office start one two lawful kind found reads is_open early renewed =
    old_or_weaker (HoldsSameTables layout start.now) (CommitsRenewed layout start.now) start two
    (λ clean after h. record {
      office = office;
      lawful = lawful;
      kind = kind;
      found = found (early clean);
      same = λ other lawful well_formed kind holds. h (rows_at (version_of layout) other) holds well_formed;
    })
    (committed_after_reading (HoldsSameTables layout) start one two reads is_open early renewed)

pub returns-in_err-renew_read-clause-crash : goal.returns-in_err-renew_read-clause-crash
returns-in_err-renew_read-clause-crash g c =
    let found = c.in_ok-office.ensures in
    let kind =
    subst (λ v. IsOfVersion v c.in-Some.office) c.version.ensures
    (c.is_of_version.ensures.0 c.if-not-is_of_version.false) in
    renewed_once c.args.layout c.in-Some.office (state g.S.Store c.args.conn.now) (state g.S.Store c.held.new.conn)
    (state g.S.Store c.renew_read.new.conn)
    (rw c.in-Some.is at found.lawful) kind
    (λ clean laid. let held = rw c.in-Some.is at found.held clean laid in
    let well_formed = rw c.in-Some.is at found.well_formed clean laid in (held, well_formed))
    c.held.ensures.reads found.is_open c.renew_read.ensures.follows.clean c.renew_read.ensures.crash

pub returns-clause-crash : goal.returns-clause-crash
returns-clause-crash g c =
    let found = c.in_ok-office.ensures in
    let kind =
    subst (λ v. IsOfVersion v c.in-Some.office) c.version.ensures
    (c.is_of_version.ensures.0 c.if-not-is_of_version.false) in
    renewed_once c.args.layout c.in-Some.office (state g.S.Store c.args.conn.now) (state g.S.Store c.held.new.conn)
    (state g.S.Store c.renew_read.new.conn)
    (rw c.in-Some.is at found.lawful) kind
    (λ clean laid. let held = rw c.in-Some.is at found.held clean laid in
    let well_formed = rw c.in-Some.is at found.well_formed clean laid in (held, well_formed))
    c.held.ensures.reads found.is_open c.renew_read.ensures.follows.clean c.renew_read.ensures.crash
