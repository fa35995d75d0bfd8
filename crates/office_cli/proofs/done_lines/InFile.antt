-- What is done in a file, from the desk that was found, what was done there, and how its connection was closed.
use Rattle.std.proofs.Common.{◌≡◌, ℕ, false, List, Result, Ok, Err, IfOk, OnErr, inl, inr, subst, sym}
use Rattle.sqlite.specs.Held.{state}
use Rattle.sqlite.specs.State.{HasCleanDisk}
use Rattle.office_cli.specs.AtDesk.{PrintsMade}
use Rattle.office_cli.specs.InFile.{MakesInFile, MigratesInFile}
use Rattle.office_state.specs.Office.{empty_office}
use Rattle.office_file.specs.Access.{FileAccess}
use Rattle.office_file.specs.Created.{OpensBlank, IsCreateFault}
use Rattle.office_file.specs.Migrated.{OpensMigrated, IsMigrateFault}
use Rattle.office_store.specs.Desk.{DeskState, Shows}
use Rattle.office_store.specs.declared.desk.faults.DeskFault.{DeskFault}
use Rattle.room_types.specs.Streams.{Output}

module _ {F S : Type 0} (access : FileAccess F S) (files : F) (path : List ℕ) (between files' : F) where
  pub made_in_file : (made : Result (DeskState S) DeskFault) (status : ℕ) (out out' : Output)
      → IfOk made (λ desk. HasCleanDisk (state access.base desk.conn) → Shows access.base desk empty_office)
      → IfOk made (λ desk. OpensBlank access files path desk between) → IsCreateFault access files path made between
      → PrintsMade made status out out'
      → IfOk made (λ desk. desk.conn.in_transaction ≡ false)
      → IfOk made (λ desk. access.closes between desk.conn files') → OnErr made (files' ≡ between)
      → MakesInFile access files path status files' out out'
  made_in_file (Ok desk) status out out' shows begins cause prints outside closed same =
      inl (record {
        desk = desk;
        between = between;
        begins = begins;
        shows = shows;
        prints = prints;
        outside = outside;
        closed = closed;
      })
  made_in_file (Err fault) status out out' shows begins cause prints outside closed same =
      inr (fault, subst (λ (f : F). IsCreateFault access files path (Err fault) f) (sym same) cause, prints)

  pub migrated_in_file : (migrated : Result (DeskState S) DeskFault) (status : ℕ) (out out' : Output)
      → IfOk migrated (λ desk. OpensMigrated access files path desk between)
      → IsMigrateFault access files path migrated between → PrintsMade migrated status out out'
      → IfOk migrated (λ desk. desk.conn.in_transaction ≡ false)
      → IfOk migrated (λ desk. access.closes between desk.conn files') → OnErr migrated (files' ≡ between)
      → MigratesInFile access files path status files' out out'
  migrated_in_file (Ok desk) status out out' begins cause prints outside closed same =
      inl (record {
        desk = desk;
        between = between;
        begins = begins;
        prints = prints;
        outside = outside;
        closed = closed;
      })
  migrated_in_file (Err fault) status out out' begins cause prints outside closed same =
      inr (fault, subst (λ (f : F). IsMigrateFault access files path (Err fault) f) (sym same) cause, prints)
