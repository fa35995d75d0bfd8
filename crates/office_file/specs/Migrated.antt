-- What `migrate_in` does when it migrates an office in a file, and when it fails.
use Rattle.std.specs.Prelude.{◌≡◌, ◌⊎◌, ℕ, ℤ, List, false, IfErr, IsSome, IsTrue, Result}
use Rattle.sqlite.specs.Held.{Held, state}
use Rattle.sqlite.specs.State.{HasCleanDisk}
use Rattle.sqlite_trees.specs.declared.store.Store.{Ghosts}
use Rattle.office_state.specs.declared.office.Office.{Office}
use Rattle.office_file.specs.Access.{FileAccess}
use Rattle.office_db.specs.loading.Finding.{AreWhole, names_round}
use Rattle.office_schema.specs.tables.FirstTables.{BeginsOffice}
use Rattle.office_migration.specs.Causes.{AreRowsAsStated, HoldsLayoutVersion, StatesVersion, HoldsEarlierFirst}
use Rattle.office_migration.specs.Names.{uses_missing_name}
use Rattle.office_migration.specs.Renewed.{CommitsMigrated}
use Rattle.office_migration.specs.Versions.{HasEarlierLayout, IsNotEarlier, IsOfVersion}
use Rattle.office_store.specs.Desk.{DeskState, Shows}
use Rattle.office_store.specs.Migrating.{IsFaultOfMigration, MayNotMigrate}
use Rattle.office_store.specs.declared.desk.faults.DeskFault.{DeskFault}
use Rattle.office_store.specs.declared.desk.faults.DeskFault.TheVariants.{AlreadyThere, NotAnOffice, OtherVersion, Unavailable}
use Rattle.office_schema.specs.tables.Crashes.{LeavesOldOr, ShowsCommitted}
use Rattle.office_schema.specs.tables.Layouts.{schema_of, version_of}
use Rattle.office_schema.specs.tables.Steps.{Follows, IsIntact}
use Rattle.office_schema.specs.tables.InLayout.{HoldsOfficeIn}
use Rattle.office_schema.specs.declared.tables.layouts.Layout.{Layout}

module _ {S : Type 0} (g : Ghosts S) where
  -- Suppose that the disk returned what was written, the schema was that of a layout, and no row lacked a cell
  -- (`AreWhole`). Then the database of the connection held the rows of an office of the version of that layout, and the
  -- desk shows that office.
  abbrev pub ShowsMigrated : Held S → DeskState S → Type 0
  ShowsMigrated connection desk =
      HasCleanDisk (state g desk.conn) → (layout : Layout)
      → (state g connection).now.schema ≡ schema_of layout → AreWhole layout (state g connection).now.trees
      → (office : Office) × IsOfVersion (version_of layout) office × HoldsOfficeIn layout (state g connection).now office
      × Shows g desk office

  -- `Desk::migrate` refuses the database of `connection` with this fault, and returns the connection as `refused`,
  -- which is in no transaction. If `refused` is intact, the tables are unchanged (`undone`). If the schema does not
  -- begin with the first three tables of an office, the connection is unchanged (`unread`). If nothing has the name
  -- of table `round`, the fault is `NotAnOffice` (`absent`). The schema allows the fault, whatever the disk does
  -- (`allowed`). A crash leaves what it could leave before, or the same office in migrated tables (`crash`).
  --
  -- The other fields hold if the disk returned what was written. The database has a cause for the fault (`cause`).
  -- Suppose that the database begins with the rows of an office of an earlier version, and something has the name of a
  -- table that this version lacks; then the fault is `AlreadyThere` or `Unavailable` (`taken`). If the fault is
  -- `AlreadyThere`, `AreRowsAsStated` holds (`rows`). If the first three tables are an office's and the row of table
  -- `round` holds a version other than 1 and 2, the fault is `OtherVersion` with that version, or `Unavailable`
  -- (`other`).
  pub record RefusesMigration (connection refused : Held S) (fault : DeskFault) : Type 0 where
    pub outside : refused.in_transaction ≡ false
    pub follows : Follows (state g connection) (state g refused)
    pub undone : IsIntact (state g refused) → (state g refused).now ≡ (state g connection).now
    pub unread : ¬ BeginsOffice (state g connection).now.schema → refused ≡ connection
    pub absent : names_round (state g connection).now.schema ≡ false → fault ≡ NotAnOffice
    pub allowed : IsFaultOfMigration (state g connection).now.schema fault
    pub cause : HasCleanDisk (state g refused) → MayNotMigrate (state g connection).now fault
    pub taken : (layout : Layout) (office : Office) → HoldsEarlierFirst layout (state g connection).now office
        → IsTrue (uses_missing_name (version_of layout) (state g connection).now.schema)
        → HasCleanDisk (state g refused) → (fault ≡ Unavailable) ⊎ (fault ≡ AlreadyThere)
    pub rows : fault ≡ AlreadyThere → HasCleanDisk (state g refused) → AreRowsAsStated (state g connection).now
    pub other : (version : ℤ) → StatesVersion (state g connection).now version → IsNotEarlier version
        → HasCleanDisk (state g refused) → (fault ≡ Unavailable) ⊎ (fault ≡ OtherVersion version)
    pub crash : LeavesOldOr (CommitsMigrated (state g connection).now) (state g connection) (state g refused)

module _ {F S : Type 0} (access : FileAccess F S) where
  -- The desk uses the database that was opened. Its tables had a layout of an earlier version (`laid`). While its
  -- connection is open, the desk shows what was committed last (`committed`). It caches an office (`cached`), and shows
  -- the one that the tables held (`shows`). If the disk returned what was written, the row of table `round` held the
  -- version of that layout (`stated`). In two cases the disk did not return what was written: the row of table `round`
  -- held a version other than 1 and 2 (`other`); or the database began with the rows of an office of an earlier
  -- version, and something had the name of a table that this version lacks (`taken`). A crash leaves what it could
  -- leave before, or the same office in migrated tables (`crash`).
  pub record OpensMigrated (files : F) (path : List ℕ) (desk : DeskState S) (files' : F) : Type 0 where
    pub connection : Held S
    pub opened : access.finds files path connection files'
    pub laid : HasEarlierLayout (state access.base connection).now.schema
    pub follows : Follows (state access.base connection) (state access.base desk.conn)
    pub committed : ShowsCommitted (state access.base desk.conn)
    pub cached : IsSome desk.cached
    pub stated : HasCleanDisk (state access.base desk.conn) → HoldsLayoutVersion (state access.base connection).now
    pub shows : ShowsMigrated access.base connection desk
    pub taken : (layout : Layout) (office : Office) → HoldsEarlierFirst layout (state access.base connection).now office
        → IsTrue (uses_missing_name (version_of layout) (state access.base connection).now.schema)
        → ¬ HasCleanDisk (state access.base desk.conn)
    pub other : (version : ℤ) → StatesVersion (state access.base connection).now version → IsNotEarlier version
        → ¬ HasCleanDisk (state access.base desk.conn)
    pub crash : LeavesOldOr (CommitsMigrated (state access.base connection).now) (state access.base connection)
        (state access.base desk.conn)

  -- The file was opened, its database was refused with this fault (`RefusesMigration`), and the connection was
  -- closed.
  pub record ClosesUnmigrated (files : F) (path : List ℕ) (fault : DeskFault) (files' : F) : Type 0 where
    pub connection : Held S
    pub between : F
    pub opened : access.finds files path connection between
    pub refused : Held S
    pub refuses : RefusesMigration access.base connection refused fault
    pub closed : access.closes between refused files'

  -- On an error, either the file was not opened and the fault is `Unavailable`, or `ClosesUnmigrated` holds.
  abbrev pub IsMigrateFault : F → List ℕ → Result (DeskState S) DeskFault → F → Type 0
  IsMigrateFault files path result files' =
      IfErr result (λ fault. ((fault ≡ Unavailable) × access.fails files path files') ⊎ ClosesUnmigrated files path fault files')
