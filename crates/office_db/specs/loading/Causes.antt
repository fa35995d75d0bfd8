-- Why `find` refuses a database.
use Rattle.std.specs.Prelude.{◌≡◌, ◌≢◌, ◌⊎◌, ℤ, pos, Bool, true, false, Option, Some, None, ⊤}
use Rattle.sqlite_schema.specs.declared.schema.Schema.{Schema}
use Rattle.sqlite.specs.Effect.{Database}
use Rattle.office_db.specs.loading.Finding.{DeclaresTables, HoldsOtherVersion, names_round}
use Rattle.office_schema.specs.tables.FirstTables.{BeginsOffice}
use Rattle.office_state.specs.Office.Invariants.{IsLawful}
use Rattle.office_state.specs.declared.office.Office.{Office}
use Rattle.office_schema.specs.rows.Tables.{own_version, rows_at}
use Rattle.office_schema.specs.cells.WellFormed.{IsWellFormed}
use Rattle.office_schema.specs.tables.Layouts.{schema_of, version_of}
use Rattle.office_schema.specs.tables.InLayout.{HoldsOfficeIn}
use Rattle.office_schema.specs.declared.tables.layouts.Layout.{Layout}
use Rattle.office_schema.specs.declared.tables.layouts.Layout.TheVariants.{Own}
use Rattle.office_db.specs.declared.loading.finding.FindFault.{FindFault}
use Rattle.office_db.specs.declared.loading.finding.FindFault.TheVariants.{Unavailable, NotAnOffice, OtherVersion}

-- The schema is that of the layout, the row of table `round` holds no other version, and the tables do not hold the
-- rows of a lawful office.
pub record HoldsNoOfficeIn (layout : Layout) (db : Database) : Type 0 where
  pub schema : db.schema ≡ schema_of layout
  pub version : (version : ℤ) → ¬ HoldsOtherVersion db version
  pub none : (office : Office) → IsLawful office → IsWellFormed (rows_at (version_of layout) office)
      → ¬ HoldsOfficeIn layout db office

-- What holds if `find` returns this fault for a database whose schema is that of the layout.
abbrev pub HasCauseIn : Layout → Database → FindFault → Type 0
HasCauseIn layout db Unavailable = ⊤
HasCauseIn layout db NotAnOffice = HoldsNoOfficeIn layout db
HasCauseIn layout db (OtherVersion version) = BeginsOffice db.schema × HoldsOtherVersion db version

-- A table of an office is absent or declared in another way, although the database begins with the first three. The row
-- of table `round` holds no other version.
pub record IsIncomplete (db : Database) : Type 0 where
  pub first_tables : BeginsOffice db.schema
  pub version : (version : ℤ) → ¬ HoldsOtherVersion db version
  pub lacks : ¬ DeclaresTables Own db.schema

-- What holds if `find` returns this fault for the database. For `NotAnOffice`, nothing has the name of table `round`;
-- or the schema is that of a layout, and the tables do not hold the rows of a lawful office of the layout's version; or
-- a table is absent or declared in another way. For `OtherVersion`, the row of table `round` holds the version in the
-- fault, and any tables may follow the first three. `Unavailable` may have any cause.
abbrev pub HasCause : Database → FindFault → Type 0
HasCause db Unavailable = ⊤
HasCause db NotAnOffice =
    (names_round db.schema ≡ false) ⊎ ((layout : Layout) × HoldsNoOfficeIn layout db) ⊎ IsIncomplete db
HasCause db (OtherVersion version) = BeginsOffice db.schema × HoldsOtherVersion db version

-- The version that `OtherVersion` names is not the version of this program.
abbrev pub IsNotOwn : FindFault → Type 0
IsNotOwn (OtherVersion version) = version ≢ pos own_version
IsNotOwn Unavailable = ⊤
IsNotOwn NotAnOffice = ⊤

-- The schema allows this fault, even if the disk fails. For `NotAnOffice`, nothing has the name of table `round`; or
-- the schema is that of a layout; or it begins with the first three tables of an office, and one of the others is
-- absent or declared in another way. For `OtherVersion`, the schema begins with the first three tables, and the version
-- is not the version of this program.
abbrev pub IsAllowed : Schema → FindFault → Type 0
IsAllowed schema Unavailable = ⊤
IsAllowed schema NotAnOffice =
    (names_round schema ≡ false) ⊎ ((layout : Layout) × (schema ≡ schema_of layout))
    ⊎ (BeginsOffice schema × ¬ DeclaresTables Own schema)
IsAllowed schema (OtherVersion version) = BeginsOffice schema × (version ≢ pos own_version)

-- the fault for a schema in no known layout: `OtherVersion` if table `round` holds another version; if not,
-- `NotAnOffice` if a table is absent or declared in another way, and `Unavailable` if all are there
abbrev pub layout_fault : Bool → Option ℤ → FindFault
layout_fault all_there (Some version) = OtherVersion version
layout_fault true None = Unavailable
layout_fault false None = NotAnOffice
