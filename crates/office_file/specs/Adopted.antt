-- What `find_in` does when it finds an office in a file, and when it fails.
use Rattle.std.specs.Prelude.{◌≡◌, ◌⊎◌, ℕ, ℤ, List, false, IfErr, IsSome, Result}
use Rattle.sqlite.specs.Held.{Held, state}
use Rattle.sqlite.specs.State.{HasCleanDisk}
use Rattle.sqlite_trees.specs.declared.store.Store.{Ghosts}
use Rattle.office_state.specs.declared.office.Office.{Office}
use Rattle.office_file.specs.Access.{FileAccess}
use Rattle.office_db.specs.loading.Finding.{AreWhole, HoldsOtherVersion, names_round}
use Rattle.office_schema.specs.tables.FirstTables.{BeginsOffice}
use Rattle.office_store.specs.Adopting.{CommitsAdopted, IsFaultOf, MayRefuse, HasOwnLayout}
use Rattle.office_store.specs.Desk.{DeskState, Shows}
use Rattle.office_store.specs.declared.desk.faults.DeskFault.{DeskFault}
use Rattle.office_store.specs.declared.desk.faults.DeskFault.TheVariants.{NotAnOffice, OtherVersion, Unavailable}
use Rattle.office_schema.specs.tables.Crashes.{LeavesOldOr, ShowsCommitted}
use Rattle.office_schema.specs.tables.Layouts.{schema_of}
use Rattle.office_schema.specs.tables.Steps.{Follows, IsIntact}
use Rattle.office_schema.specs.tables.InLayout.{HoldsOfficeIn}
use Rattle.office_schema.specs.declared.tables.layouts.Layout.{Layout}
use Rattle.office_schema.specs.declared.tables.layouts.Layout.TheVariants.{Own}

module _ {S : Type 0} (g : Ghosts S) where
  -- Suppose that the disk returned what was written, the schema is that of a layout, and no row lacks a cell
  -- (`AreWhole`). Then the database of the connection held the rows of an office, and the desk shows that office.
  abbrev pub ShowsFound : Held S → DeskState S → Type 0
  ShowsFound connection desk =
      HasCleanDisk (state g desk.conn) → (layout : Layout)
      → (state g connection).now.schema ≡ schema_of layout → AreWhole layout (state g connection).now.trees
      → (office : Office) × HoldsOfficeIn layout (state g connection).now office × Shows g desk office

  -- If the connection had its tables in the layout that this program creates, the database of the desk is the same,
  -- provided that the disk returned what was written and the connection is open.
  abbrev pub LeavesFound : Held S → DeskState S → Type 0
  LeavesFound connection desk =
      (state g connection).now.schema ≡ schema_of Own → IsIntact (state g desk.conn)
      → (state g desk.conn).now ≡ (state g connection).now

  -- `Desk::adopt` refuses the database of `connection` with this fault, and returns the connection as `refused`,
  -- which is in no transaction. If `refused` is intact, the tables are unchanged (`undone`). If the schema does not
  -- begin with the first three tables of an office, the connection is unchanged (`unread`). If nothing has the name
  -- of table `round`, the fault is `NotAnOffice` (`absent`). The schema allows the fault, whatever the disk does
  -- (`allowed`). A crash leaves what it could leave before, or the same office in tables made anew (`crash`).
  --
  -- Suppose that the disk returned what was written. Then the database has a cause for the fault (`cause`). If the
  -- first three tables are an office's, and the row of table `round` holds another version, the fault is `OtherVersion`
  -- with that version, or `Unavailable` (`other`).
  pub record RefusesFound (connection refused : Held S) (fault : DeskFault) : Type 0 where
    pub outside : refused.in_transaction ≡ false
    pub follows : Follows (state g connection) (state g refused)
    pub undone : IsIntact (state g refused) → (state g refused).now ≡ (state g connection).now
    pub unread : ¬ BeginsOffice (state g connection).now.schema → refused ≡ connection
    pub absent : names_round (state g connection).now.schema ≡ false → fault ≡ NotAnOffice
    pub allowed : IsFaultOf (state g connection).now.schema fault
    pub cause : HasCleanDisk (state g refused) → MayRefuse (state g connection).now fault
    pub other : (version : ℤ) → BeginsOffice (state g connection).now.schema → HoldsOtherVersion (state g connection).now version
        → HasCleanDisk (state g refused) → (fault ≡ Unavailable) ⊎ (fault ≡ OtherVersion version)
    pub crash : LeavesOldOr (CommitsAdopted (state g connection).now) (state g connection) (state g refused)

module _ {F S : Type 0} (access : FileAccess F S) where
  -- The desk uses the database that was opened. Its tables had a layout of the version of this program (`laid`). While
  -- its connection is open, the desk shows what was committed last (`committed`). It caches an office (`cached`). It
  -- shows the office that the tables held (`shows`), and leaves tables in the layout that this program creates
  -- unchanged (`unchanged`); `ShowsFound` and `LeavesFound` state the premises. If the first three tables are an
  -- office's and the row of table `round` holds another version, the disk did not return what was written (`other`). A
  -- crash leaves what it could leave before, or the same office in tables made anew (`crash`).
  pub record OpensFound (files : F) (path : List ℕ) (desk : DeskState S) (files' : F) : Type 0 where
    pub connection : Held S
    pub opened : access.finds files path connection files'
    pub laid : HasOwnLayout (state access.base connection).now.schema
    pub follows : Follows (state access.base connection) (state access.base desk.conn)
    pub committed : ShowsCommitted (state access.base desk.conn)
    pub cached : IsSome desk.cached
    pub shows : ShowsFound access.base connection desk
    pub unchanged : LeavesFound access.base connection desk
    pub other : (version : ℤ) → BeginsOffice (state access.base connection).now.schema
        → HoldsOtherVersion (state access.base connection).now version → ¬ HasCleanDisk (state access.base desk.conn)
    pub crash : LeavesOldOr (CommitsAdopted (state access.base connection).now) (state access.base connection)
        (state access.base desk.conn)

  -- The file was opened, its database was refused with this fault (`RefusesFound`), and the connection was closed.
  pub record ClosesFound (files : F) (path : List ℕ) (fault : DeskFault) (files' : F) : Type 0 where
    pub connection : Held S
    pub between : F
    pub opened : access.finds files path connection between
    pub refused : Held S
    pub refuses : RefusesFound access.base connection refused fault
    pub closed : access.closes between refused files'

  -- On an error, either the file was not opened and the fault is `Unavailable`, or `ClosesFound` holds.
  abbrev pub IsFileFault : F → List ℕ → Result (DeskState S) DeskFault → F → Type 0
  IsFileFault files path result files' =
      IfErr result (λ fault. ((fault ≡ Unavailable) × access.fails files path files') ⊎ ClosesFound files path fault files')
