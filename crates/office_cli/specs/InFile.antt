-- How a subcommand is carried out on an office file.
use Rattle.std.specs.Prelude.{◌≡◌, ◌⊎◌, ℕ, [], ◌∷◌, Err, codes, false}
use Rattle.sqlite.specs.Held.{state}
use Rattle.sqlite.specs.State.{HasCleanDisk}
use Rattle.office_cli.specs.AtDesk.{Performs}
use Rattle.office_cli.specs.DeskFaults.{RefusesDesk}
use Rattle.office_cli.specs.ListAccess.{ListAccess}
use Rattle.office_cli.specs.Actions.{Action}
use Rattle.office_state.specs.Office.{empty_office}
use Rattle.office_schema.specs.tables.Crashes.{ShowsCommitted}
use Rattle.office_file.specs.Adopted.{OpensFound, IsFileFault}
use Rattle.office_file.specs.Access.{FileAccess}
use Rattle.office_file.specs.Created.{OpensBlank, IsCreateFault}
use Rattle.office_file.specs.Migrated.{OpensMigrated, IsMigrateFault}
use Rattle.room_types.specs.Printing.{Prints}
use Rattle.office_store.specs.Desk.{DeskState, Shows}
use Rattle.office_store.specs.declared.desk.faults.DeskFault.{DeskFault}
use Rattle.room_types.specs.OutputLines.{line_of}
use Rattle.resident_http.specs.server.Network.{Network}
use Rattle.room_types.specs.Streams.{Input, Output}
use Rattle.room_types.specs.Texts.{Text}

module _ {F S : Type 0} (access : FileAccess F S) where
  -- The program opened the file at the path, whose database had an empty schema. It made the tables of the empty
  -- office, and printed `ok`. If the disk returned what was written to it, the desk shows the empty office. The
  -- program closed the desk's connection with no transaction open. If the connection was open until then, it showed
  -- what was committed last (`begins.committed`), so the empty office was committed.
  pub record MakesNew (files : F) (path : Text) (status : ℕ) (files' : F) (out out' : Output) : Type 0 where
    pub desk : DeskState S
    pub between : F
    pub begins : OpensBlank access files path desk between
    pub shows : HasCleanDisk (state access.base desk.conn) → Shows access.base desk empty_office
    pub prints : Prints (line_of (codes "ok" ∷ [])) 0 status out out'
    pub outside : desk.conn.in_transaction ≡ false
    pub closed : access.closes between desk.conn files'

  -- The program makes an empty office in the file, or prints the reason why it cannot.
  abbrev pub MakesInFile : F → Text → ℕ → F → Output → Output → Type 0
  MakesInFile files path status files' out out' =
      MakesNew files path status files' out out'
      ⊎ ((fault : DeskFault) × IsCreateFault access files path (Err fault) files' × RefusesDesk fault status out out')

  -- The program opened the file at the path, migrated the tables of its office to this program's version, and printed
  -- `ok`. It closed the desk's connection with no transaction open. If the connection was open until then, it showed
  -- what was committed last (`begins.committed`).
  pub record MigratesOffice (files : F) (path : Text) (status : ℕ) (files' : F) (out out' : Output) : Type 0 where
    pub desk : DeskState S
    pub between : F
    pub begins : OpensMigrated access files path desk between
    pub prints : Prints (line_of (codes "ok" ∷ [])) 0 status out out'
    pub outside : desk.conn.in_transaction ≡ false
    pub closed : access.closes between desk.conn files'

  -- The program migrates the tables to its own version, or prints the reason why it cannot.
  abbrev pub MigratesInFile : F → Text → ℕ → F → Output → Output → Type 0
  MigratesInFile files path status files' out out' =
      MigratesOffice files path status files' out out'
      ⊎ ((fault : DeskFault) × IsMigrateFault access files path (Err fault) files' × RefusesDesk fault status out out')

  -- The program opened the file at the path, and `desk` is the desk over its office. `IsDone` holds between `desk`
  -- and the desk `last` after the action. The program closed the connection of `last` with no transaction open. If the
  -- connection was open until then, it showed what was committed last (`committed`).
  pub record AtFound (IsDone : DeskState S → DeskState S → Type 0) (files : F) (path : Text) (files' : F) : Type 0 where
    pub desk : DeskState S
    pub between : F
    pub last : DeskState S
    pub begins : OpensFound access files path desk between
    pub done : IsDone desk last
    pub outside : last.conn.in_transaction ≡ false
    pub committed : ShowsCommitted (state access.base last.conn)
    pub closed : access.closes between last.conn files'

  -- Either the program performs the action at the desk of the file's office. Or the file gives no desk: then the
  -- program prints the reason, opens no list, listens on no port, and reads no input.
  abbrev pub PerformsInFile : {L P : Type 0} → ListAccess L → Network P → F → Text → Action → L → P → ℕ → F → L → P → Input → Input → Output → Output → Type 0
  PerformsInFile list_access network files path action lists ports status files' lists' ports' input input' out out' =
      AtFound (λ desk last. Performs access.base list_access network action lists ports desk status lists' ports' last input input' out out') files path files'
      ⊎ ((fault : DeskFault) × IsFileFault access files path (Err fault) files' × RefusesDesk fault status out out' × (lists' ≡ lists) × (ports' ≡ ports)
      × (input' ≡ input))
