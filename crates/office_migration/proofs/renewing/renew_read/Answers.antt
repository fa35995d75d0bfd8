use Rattle.sqlite.specs.Held.{state}
use Rattle.sqlite.specs.State.{State, HasCleanDisk}
use Rattle.office_schema.specs.cells.WellFormed.{IsWellFormed}
use Rattle.office_schema.specs.declared.rows.records.OfficeRecords.{OfficeRecords}
use Rattle.office_schema.specs.declared.tables.layouts.Layout.{Layout}
use Rattle.office_schema.specs.rows.ReadsOffice.{AreRecordsOf}
use Rattle.office_schema.specs.rows.Tables.{Tables}
use Rattle.office_schema.specs.tables.Crashes.{LeavesOldOr, WasOpen}
use Rattle.office_schema.specs.tables.InLayout.{HasTablesIn}
use Rattle.office_schema.proofs.statements.Steps.{intact_before}
use Rattle.office_schema.proofs.statements.Crashes.{old_or_weaker}
use Rattle.office_db.specs.loading.Reading.{OnlyReads}
use Rattle.office_db.proofs.found_offices.Following.{committed_after_reading, still_has}
use Rattle.office_migration.specs.Inner.Renewed.{HoldsRecords, HoldsSameTables}
use Rattle.office_migration.proofs.renewing.renew_read.Goals as goal

pub returns-clause-renewed : goal.returns-clause-renewed
returns-clause-renewed g c clean tables has well_formed =
    let start = state g.S.Store c.args.conn.now in
    let one = state g.S.Store c.read_records.new.conn in
    let two = state g.S.Store c.renew.new.conn in
    let at_one = intact_before one two c.renew.ensures.follows (clean, c.in_ok-renew.ensures.is_open clean) in
    let found = rw c.in-Some.is at c.in_ok-records.ensures.found at_one.0 tables has well_formed in
    c.in_ok-renew.ensures.made.shown tables clean
    (still_has c.args.layout start one tables c.read_records.ensures.reads at_one has) found

-- What is committed after the records were read.
copied_once : (layout : Layout) (records : OfficeRecords) (start one two : State)
    → (HasCleanDisk one → (tables : Tables) → HasTablesIn layout start.now tables → IsWellFormed tables
    → AreRecordsOf tables records)
    → OnlyReads start one → WasOpen one one → (HasCleanDisk two → HasCleanDisk one)
    → LeavesOldOr (HoldsRecords layout records one.now) one two
    → LeavesOldOr (HoldsSameTables layout start.now) start two
copied_once layout records start one two found reads is_open early renewed =
    old_or_weaker (HoldsRecords layout records start.now) (HoldsSameTables layout start.now) start two
    (λ clean after h tables has well_formed. h tables has (found (early clean) tables has well_formed))
    (committed_after_reading (HoldsRecords layout records) start one two reads is_open early renewed)

pub returns-in_err-renew-clause-crash : goal.returns-in_err-renew-clause-crash
returns-in_err-renew-clause-crash g c =
    let records = c.in_ok-records.ensures in
    copied_once c.args.layout c.in-Some.records (state g.S.Store c.args.conn.now)
    (state g.S.Store c.read_records.new.conn) (state g.S.Store c.renew.new.conn)
    (λ clean tables has well_formed. rw c.in-Some.is at records.found clean tables has well_formed)
    c.read_records.ensures.reads records.is_open c.renew.ensures.follows.clean c.renew.ensures.crash

pub returns-clause-crash : goal.returns-clause-crash
returns-clause-crash g c =
    let records = c.in_ok-records.ensures in
    copied_once c.args.layout c.in-Some.records (state g.S.Store c.args.conn.now)
    (state g.S.Store c.read_records.new.conn) (state g.S.Store c.renew.new.conn)
    (λ clean tables has well_formed. rw c.in-Some.is at records.found clean tables has well_formed)
    c.read_records.ensures.reads records.is_open c.renew.ensures.follows.clean c.renew.ensures.crash
