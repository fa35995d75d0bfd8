-- What `create_in` does when it creates an office in a file, and when it fails.
use Rattle.std.specs.Prelude.{◌≡◌, ◌≢◌, ◌⊎◌, ℕ, List, IfErr, Result, false}
use Rattle.sqlite.specs.Held.{Held, state}
use Rattle.sqlite_trees.specs.declared.store.Store.{Ghosts}
use Rattle.office_state.specs.Office.{empty_office}
use Rattle.office_db.specs.creation.Names.{NameIsTaken}
use Rattle.office_file.specs.Access.{FileAccess}
use Rattle.office_store.specs.Desk.{DeskState}
use Rattle.office_store.specs.declared.desk.faults.DeskFault.{DeskFault}
use Rattle.office_store.specs.declared.desk.faults.DeskFault.TheVariants.{AlreadyThere, Unavailable}
use Rattle.office_schema.specs.tables.Crashes.{LeavesOldOr, ShowsCommitted}
use Rattle.office_schema.specs.tables.Schema.{no_schema}
use Rattle.office_schema.specs.tables.Steps.{Follows, IsIntact}
use Rattle.office_schema.specs.tables.Tables.{HoldsOffice}

module _ {S : Type 0} (g : Ghosts S) where
  -- `Desk::create` refuses the database of `connection` with this fault, and returns the connection as `refused`,
  -- which is in no transaction. The fault is `AlreadyThere` if and only if something has the name of one of an
  -- office's tables; otherwise it is `Unavailable`. If the schema is not empty, the connection is unchanged (`taken`,
  -- `foreign`). If `refused` is intact, the tables are unchanged (`undone`). A crash leaves what it could leave before,
  -- or the empty office (`crash`).
  pub record RefusesNew (connection refused : Held S) (fault : DeskFault) : Type 0 where
    pub outside : refused.in_transaction ≡ false
    pub follows : Follows (state g connection) (state g refused)
    pub undone : IsIntact (state g refused) → (state g refused).now ≡ (state g connection).now
    pub cause : (fault ≡ Unavailable) ⊎ ((fault ≡ AlreadyThere) × NameIsTaken (state g connection).now)
    pub taken : NameIsTaken (state g connection).now → (fault ≡ AlreadyThere) × (refused ≡ connection)
    pub foreign : ¬ NameIsTaken (state g connection).now → (state g connection).now.schema ≢ no_schema
        → (fault ≡ Unavailable) × (refused ≡ connection)
    pub crash : LeavesOldOr (λ after. HoldsOffice after empty_office) (state g connection) (state g refused)

module _ {F S : Type 0} (access : FileAccess F S) where
  -- The desk uses the database that was opened, whose schema was empty. While its connection is open, it shows what was
  -- committed last (`committed`). A crash leaves what it could leave before, or the empty office (`crash`).
  pub record OpensBlank (files : F) (path : List ℕ) (desk : DeskState S) (files' : F) : Type 0 where
    pub connection : Held S
    pub opened : access.opens files path connection files'
    pub blank : (state access.base connection).now.schema ≡ no_schema
    pub follows : Follows (state access.base connection) (state access.base desk.conn)
    pub committed : ShowsCommitted (state access.base desk.conn)
    pub crash : LeavesOldOr (λ after. HoldsOffice after empty_office) (state access.base connection)
        (state access.base desk.conn)

  -- The file was opened, its database was refused with this fault (`RefusesNew`), and the connection was closed.
  pub record ClosesNew (files : F) (path : List ℕ) (fault : DeskFault) (files' : F) : Type 0 where
    pub connection : Held S
    pub between : F
    pub opened : access.opens files path connection between
    pub refused : Held S
    pub refuses : RefusesNew access.base connection refused fault
    pub closed : access.closes between refused files'

  -- On an error, either the file was not opened and the fault is `Unavailable`, or `ClosesNew` holds.
  abbrev pub IsCreateFault : F → List ℕ → Result (DeskState S) DeskFault → F → Type 0
  IsCreateFault files path result files' =
      IfErr result (λ fault. ((fault ≡ Unavailable) × access.fails files path files') ⊎ ClosesNew files path fault files')
