-- What a transaction has made, once it is committed, and what a migration commits.
use Rattle.std.proofs.Common.{◌≡◌, false, sym, ◌∙◌, subst, IsTrue}
use Rattle.sqlite.specs.Effect.{Database, IsDatabase}
use Rattle.sqlite.specs.State.{State, HasCleanDisk}
use Rattle.office_schema.specs.rows.Tables.{own_version}
use Rattle.office_schema.specs.declared.rows.records.OfficeRecords.{OfficeRecords}
use Rattle.office_schema.specs.tables.Edits.{with_version}
use Rattle.office_schema.specs.tables.Refilling.{Migrates}
use Rattle.office_schema.specs.tables.Tables.{HasTables}
use Rattle.office_schema.specs.tables.InLayout.{HasTablesIn}
use Rattle.office_schema.specs.declared.tables.layouts.Layout.{Layout}
use Rattle.office_schema.specs.tables.Crashes.{LeavesOldOr, WasOpen}
use Rattle.office_schema.specs.tables.Layouts.{schema_of, version_of}
use Rattle.office_schema.proofs.statements.Crashes.{old_or_weaker}
use Rattle.office_db.specs.loading.Finding.{AreWhole}
use Rattle.office_db.specs.loading.Reading.{OnlyReads}
use Rattle.office_db.proofs.found_offices.Finding.{same_layout}
use Rattle.office_db.proofs.found_offices.Following.{committed_after_reading}
use Rattle.office_db.proofs.loaded.WholeRows.{laid_if_sound}
use Rattle.office_migration.specs.Causes.{HoldsEarlier}
use Rattle.office_migration.specs.Renewed.{CommitsMigrated, CommitsRenewed}
use Rattle.office_migration.specs.Versions.{IsEarlier}

pub committed : (layout : Layout) (records : OfficeRecords) (old begun mid new : State)
    → Migrates layout records begun mid → begun.now ≡ old.now → (HasCleanDisk new → HasCleanDisk mid)
    → (HasCleanDisk new → new.now ≡ mid.now)
    → old.in_transaction ≡ false → new.in_transaction ≡ false → Migrates layout records old new
committed layout records old begun mid new made same clean_mid shown outside ended = record {
  shown = λ tables clean has are. subst (λ (d : Database). HasTables d (with_version own_version tables))
      (sym (shown clean)) (made.shown tables (clean_mid clean)
      (subst (λ (d : Database). HasTablesIn layout d tables) (sym same) has) are);
  mode = λ clean. ended ∙ sym outside;
}

-- What is committed after the version was read. The office is in the layout that was found.
pub migrated_once : (layout : Layout) (start one two : State)
    → start.now.schema ≡ schema_of layout → IsEarlier (version_of layout)
    → (IsTrue start.is_open → IsDatabase start.now) → OnlyReads start one → WasOpen one one
    → (HasCleanDisk two → HasCleanDisk one)
    → LeavesOldOr (CommitsRenewed layout one.now) one two → LeavesOldOr (CommitsMigrated start.now) start two
migrated_once layout start one two laid earlier live reads is_open early renewed =
    old_or_weaker (CommitsRenewed layout start.now) (CommitsMigrated start.now) start two
    (λ clean after h. record {
      earlier = (layout, laid, earlier);
      found = λ other is whole.
          let same = same_layout layout other start.now.schema laid is in
          let sound = live (reads.keeps.follows.was_open (early clean) (is_open (early clean))) in
          let held =
          h.found (laid_if_sound layout start.now sound laid (subst (λ l. AreWhole l start.now.trees) same whole)) in
          let there : HoldsEarlier layout start.now h.office =
          record { earlier = earlier; lawful = h.lawful; well_formed = held.1; kind = h.kind; rows = held.0 } in
          (h.office, subst (λ l. HoldsEarlier l start.now h.office) (sym same) there);
      holds = λ other office it.
          let same = same_layout other layout start.now.schema it.rows.schema laid in
          let here = subst (λ l. HoldsEarlier l start.now office) (sym same) it in
          h.same office here.lawful here.well_formed here.kind here.rows;
    })
    (committed_after_reading (CommitsRenewed layout) start one two reads is_open early renewed)
