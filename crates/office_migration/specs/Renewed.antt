-- What a migration commits.
use Rattle.std.specs.Prelude.{◌≡◌}
use Rattle.sqlite.specs.Effect.{Database}
use Rattle.office_state.specs.Office.Invariants.{IsLawful}
use Rattle.office_state.specs.declared.office.Office.{Office}
use Rattle.office_schema.specs.rows.Tables.{rows_at}
use Rattle.office_schema.specs.cells.WellFormed.{IsWellFormed}
use Rattle.office_schema.specs.tables.Layouts.{schema_of, version_of}
use Rattle.office_schema.specs.tables.Tables.{HoldsOffice}
use Rattle.office_schema.specs.tables.InLayout.{HoldsOfficeIn}
use Rattle.office_schema.specs.declared.tables.layouts.Layout.{Layout}
use Rattle.office_db.specs.loading.Finding.{AreWhole}
use Rattle.office_db.specs.loading.Numbers.{IsLaidOut}
use Rattle.office_migration.specs.Causes.{HoldsEarlier}
use Rattle.office_migration.specs.Versions.{HasEarlierLayout, IsOfVersion}

-- If the tables of `before`, in this layout, hold the rows of a lawful office of the layout's version, `after` holds
-- the rows of the same office in the tables that this program creates.
abbrev pub HoldsSameOffice : Layout → Database → Database → Type 0
HoldsSameOffice layout before after =
    (office : Office) → IsLawful office → IsWellFormed (rows_at (version_of layout) office)
    → IsOfVersion (version_of layout) office → HoldsOfficeIn layout before office → HoldsOffice after office

-- `after` is what the recreation of the tables of `before`, in this layout, commits. It found a lawful office of the
-- layout's version (`office`). If the schema is that of the layout, and no row lacks a cell (`IsLaidOut`), the tables held
-- the rows of this office (`found`). `HoldsSameOffice` says what `after` holds (`same`).
pub record CommitsRenewed (layout : Layout) (before after : Database) : Type 0 where
  pub office : Office
  pub lawful : IsLawful office
  pub kind : IsOfVersion (version_of layout) office
  pub found : IsLaidOut layout before
      → HoldsOfficeIn layout before office × IsWellFormed (rows_at (version_of layout) office)
  pub same : HoldsSameOffice layout before after

-- `after` is what the migration of `before` commits. The tables of `before` were in a layout of an earlier version
-- (`earlier`). If no row lacks a cell (`AreWhole`), they held the rows of an office of that version (`found`). `after`
-- holds the rows of each such office in the tables that this program creates (`holds`).
pub record CommitsMigrated (before after : Database) : Type 0 where
  pub earlier : HasEarlierLayout before.schema
  pub found : (layout : Layout) → before.schema ≡ schema_of layout → AreWhole layout before.trees
      → (office : Office) × HoldsEarlier layout before office
  pub holds : (layout : Layout) (office : Office) → HoldsEarlier layout before office → HoldsOffice after office
