-- The causes for which a migration fails.
use Rattle.std.specs.Prelude.{◌≡◌, ◌⊎◌, ℕ, ℤ, pos, false, IsTrue, take, ⊤}
use Rattle.sqlite_schema.specs.declared.schema.Schema.{Schema}
use Rattle.sqlite.specs.Effect.{Database}
use Rattle.office_state.specs.Office.Invariants.{IsLawful}
use Rattle.office_state.specs.declared.office.Office.{Office}
use Rattle.office_schema.specs.rows.Tables.{rows_at}
use Rattle.office_schema.specs.cells.WellFormed.{IsWellFormed}
use Rattle.office_schema.specs.tables.Layouts.{schema_of, table_count, version_of}
use Rattle.office_schema.specs.tables.InLayout.{AreHeldIn, HoldsOfficeIn}
use Rattle.office_schema.specs.declared.tables.layouts.Layout.{Layout}
use Rattle.office_db.specs.loading.Finding.{AreWhole, DeclaresTables, HoldsVersion, names_round}
use Rattle.office_schema.specs.tables.FirstTables.{Begins, BeginsOffice}
use Rattle.office_migration.specs.Names.{uses_missing_name}
use Rattle.office_migration.specs.Versions.{IsEarlier, IsNotEarlier, IsOfVersion}
use Rattle.office_migration.specs.declared.migrating.MigrateFault.{MigrateFault}
use Rattle.office_migration.specs.declared.migrating.MigrateFault.TheVariants.{Unavailable, OtherVersion, NotAnOffice, AlreadyThere}

-- The schema is exactly that of `layout`, a layout of an earlier version. The tables hold the rows of `office`, which
-- is lawful and is an office of that version.
pub record HoldsEarlier (layout : Layout) (db : Database) (office : Office) : Type 0 where
  pub earlier : IsEarlier (version_of layout)
  pub lawful : IsLawful office
  pub well_formed : IsWellFormed (rows_at (version_of layout) office)
  pub kind : IsOfVersion (version_of layout) office
  pub rows : HoldsOfficeIn layout db office

-- The schema begins with the tables of `layout`, a layout of an earlier version, and has no views. These tables hold
-- the rows of `office`, which is lawful and is an office of that version. Other tables may follow.
pub record HoldsEarlierFirst (layout : Layout) (db : Database) (office : Office) : Type 0 where
  pub earlier : IsEarlier (version_of layout)
  pub lawful : IsLawful office
  pub well_formed : IsWellFormed (rows_at (version_of layout) office)
  pub kind : IsOfVersion (version_of layout) office
  pub first_tables : BeginsOffice db.schema
  pub tables : take (table_count layout) db.schema.tables ≡ (schema_of layout).tables
  pub rows : AreHeldIn layout db.trees (rows_at (version_of layout) office)

-- The schema begins with the tables and indexes of a layout of this version, and has no views. Others may follow.
abbrev pub BeginsAt : ℕ → Schema → Type 0
BeginsAt version schema =
    (layout : Layout) × (version_of layout ≡ version) × Begins layout schema

-- The schema is exactly that of some layout, and nothing has the name of a table that this version lacks.
abbrev pub IsLaid : ℕ → Schema → Type 0
IsLaid version schema =
    ((layout : Layout) × (schema ≡ schema_of layout))
    × (uses_missing_name version schema ≡ false)

-- Each table of this version is declared, in whatever tree and order.
abbrev pub DeclaresVersion : ℕ → Schema → Type 0
DeclaresVersion version schema =
    (layout : Layout) → version_of layout ≡ version → DeclaresTables layout schema

-- A table of this version is absent or declared in another way.
abbrev pub LacksTable : ℕ → Schema → Type 0
LacksTable version schema =
    (layout : Layout) × (version_of layout ≡ version) × ¬ DeclaresTables layout schema

-- If the schema begins with the tables of a layout of this version, and no row lacks a cell (`AreWhole`), the tables
-- hold the rows of an office of this version.
abbrev pub AreEarlierRows : ℕ → Database → Type 0
AreEarlierRows version db =
    (layout : Layout) → version_of layout ≡ version → Begins layout db.schema → AreWhole layout db.trees
    → (office : Office) × HoldsEarlierFirst layout db office

-- If the row of table `round` holds an earlier version, `AreEarlierRows` holds for that version.
abbrev pub AreRowsAsStated : Database → Type 0
AreRowsAsStated db = (version : ℕ) → IsEarlier version → HoldsVersion db (pos version) → AreEarlierRows version db

-- The first tables do not hold the rows of an office of this version, in any layout of this version.
abbrev pub AreNoEarlierRows : ℕ → Database → Type 0
AreNoEarlierRows version db =
    (layout : Layout) → version_of layout ≡ version → (office : Office) → ¬ HoldsEarlierFirst layout db office

-- If the schema is that of a layout, the row of table `round` holds the version of that layout.
abbrev pub HoldsLayoutVersion : Database → Type 0
HoldsLayoutVersion db =
    (layout : Layout) → db.schema ≡ schema_of layout → HoldsVersion db (pos (version_of layout))

-- The schema begins with the first three tables of an office, and the row of table `round` holds this version.
abbrev pub StatesVersion : Database → ℤ → Type 0
StatesVersion db version = BeginsOffice db.schema × HoldsVersion db version

-- The database holds no office of an earlier version. It begins with the first three tables of an office
-- (`first_tables`). If the row of table `round` holds a version, that is 1 or 2 (`version`). The schema then begins
-- with the tables of a layout of that version; or it is exactly that of some layout, and nothing has the name of a
-- table that the version lacks; or a table of that version is absent or declared in another way (`known`). So if all
-- tables of that version are there, in an unknown order, they satisfy this record only if table `round` holds no version
-- (`HoldsVersion`); otherwise they may hold an office. In no layout of an earlier version do the first tables hold the
-- rows of an office of that version (`none`).
pub record HoldsNoEarlier (db : Database) : Type 0 where
  pub first_tables : BeginsOffice db.schema
  pub version : (version : ℤ) → IsNotEarlier version → ¬ HoldsVersion db version
  pub known : (version : ℕ) → IsEarlier version → HoldsVersion db (pos version)
      → BeginsAt version db.schema ⊎ IsLaid version db.schema ⊎ LacksTable version db.schema
  pub none : (layout : Layout) (office : Office) → ¬ HoldsEarlierFirst layout db office

-- The row of table `round` holds an earlier version, each table of this version is declared, something has the name of a
-- table that the version lacks, and `AreEarlierRows` holds for the version.
pub record HasNameTaken (db : Database) : Type 0 where
  pub version : ℕ
  pub earlier : IsEarlier version
  pub states : StatesVersion db (pos version)
  pub declared : DeclaresVersion version db.schema
  pub taken : IsTrue (uses_missing_name version db.schema)
  pub rows : AreEarlierRows version db

-- The cause that a database must have for a migration to fail with this fault. `Unavailable` needs no cause.
abbrev pub HasCause : Database → MigrateFault → Type 0
HasCause db Unavailable = ⊤
HasCause db (OtherVersion version) = StatesVersion db version × IsNotEarlier version
HasCause db NotAnOffice = (names_round db.schema ≡ false) ⊎ HoldsNoEarlier db
HasCause db AlreadyThere = HasNameTaken db

-- The condition on the schema under which a migration may return this fault, whatever the disk does.
abbrev pub IsAllowed : Schema → MigrateFault → Type 0
IsAllowed schema Unavailable = ⊤
IsAllowed schema (OtherVersion version) = BeginsOffice schema × IsNotEarlier version
IsAllowed schema NotAnOffice = (names_round schema ≡ false) ⊎ BeginsOffice schema
IsAllowed schema AlreadyThere =
    BeginsOffice schema × IsTrue (uses_missing_name 1 schema)

-- The fault is `Unavailable`, `NotAnOffice`, or `OtherVersion` with a version other than 1 and 2.
abbrev pub IsVersionFault : MigrateFault → Type 0
IsVersionFault Unavailable = ⊤
IsVersionFault (OtherVersion version) = IsNotEarlier version
IsVersionFault NotAnOffice = ⊤
IsVersionFault AlreadyThere = ⊥

-- The fault is not `OtherVersion`.
abbrev pub IsNameFault : MigrateFault → Type 0
IsNameFault Unavailable = ⊤
IsNameFault (OtherVersion version) = ⊥
IsNameFault NotAnOffice = ⊤
IsNameFault AlreadyThere = ⊤
