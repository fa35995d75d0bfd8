-- What holds for any place of files, for the files of the system, whose states hold no information.
use Rattle.std.specs.Prelude.{⊤}
use Rattle.std.proofs.Common.{ℕ, List, Result, Ok, Err, IfOk, inl, inr}
use Rattle.sqlite.specs.Held.{Held}
use Rattle.sqlite_trees.specs.declared.store.Store.{Ghosts}
use Rattle.office_file.specs.Access.{FileAccess, file_access}
use Rattle.office_file.specs.Adopted.{OpensFound, IsFileFault}
use Rattle.office_file.specs.Created.{OpensBlank, IsCreateFault}
use Rattle.office_file.specs.Migrated.{OpensMigrated, IsMigrateFault}
use Rattle.office_store.specs.Desk.{DeskState}
use Rattle.office_store.specs.declared.desk.faults.DeskFault.{DeskFault}

module _ {F S : Type 0} (base : Ghosts S) (opens finds : Held S → Type 0) (fails : F → List ℕ → F → Type 0)
    (closes : F → Held S → F → Type 0) (files files' : F) (path : List ℕ) where
  abbrev place : FileAccess F S
  place = file_access base (λ _ _ connection _. opens connection) (λ _ _ connection _. finds connection) fails closes

  abbrev system : FileAccess ⊤ S
  system = file_access base (λ _ _ connection _. opens connection) (λ _ _ connection _. finds connection)
      (λ _ _ _. ⊤) (λ _ _ _. ⊤)

  pub begins_blank : (made : Result (DeskState S) DeskFault)
      → IfOk made (λ desk. OpensBlank place files path desk files')
      → IfOk made (λ desk. OpensBlank system tt path desk tt)
  begins_blank (Ok desk) h =
      record {
        connection = h.connection;
        opened = h.opened;
        blank = h.blank;
        follows = h.follows;
        committed = h.committed;
        crash = h.crash;
      }
  begins_blank (Err fault) h = tt

  pub create_fault : (made : Result (DeskState S) DeskFault) → IsCreateFault place files path made files'
      → IsCreateFault system tt path made tt
  create_fault (Ok desk) h = tt
  create_fault (Err fault) (inl h) = inl (h.0, tt)
  create_fault (Err fault) (inr h) =
      inr (record {
        connection = h.connection;
        between = tt;
        opened = h.opened;
        refused = h.refused;
        refuses = h.refuses;
        closed = tt;
      })

  pub begins_found : (found : Result (DeskState S) DeskFault)
      → IfOk found (λ desk. OpensFound place files path desk files')
      → IfOk found (λ desk. OpensFound system tt path desk tt)
  begins_found (Ok desk) h = record {
    connection = h.connection;
    opened = h.opened;
    laid = h.laid;
    follows = h.follows;
    committed = h.committed;
    cached = h.cached;
    shows = h.shows;
    unchanged = h.unchanged;
    other = h.other;
    crash = h.crash;
  }
  begins_found (Err fault) h = tt

  pub file_fault : (found : Result (DeskState S) DeskFault) → IsFileFault place files path found files'
      → IsFileFault system tt path found tt
  file_fault (Ok desk) h = tt
  file_fault (Err fault) (inl h) = inl (h.0, tt)
  file_fault (Err fault) (inr h) =
      inr (record {
        connection = h.connection;
        between = tt;
        opened = h.opened;
        refused = h.refused;
        refuses = h.refuses;
        closed = tt;
      })

  pub begins_migrated : (found : Result (DeskState S) DeskFault)
      → IfOk found (λ desk. OpensMigrated place files path desk files')
      → IfOk found (λ desk. OpensMigrated system tt path desk tt)
  begins_migrated (Ok desk) h = record {
    connection = h.connection;
    opened = h.opened;
    laid = h.laid;
    follows = h.follows;
    committed = h.committed;
    cached = h.cached;
    stated = h.stated;
    shows = h.shows;
    taken = h.taken;
    other = h.other;
    crash = h.crash;
  }
  begins_migrated (Err fault) h = tt

  pub migrate_fault : (found : Result (DeskState S) DeskFault) → IsMigrateFault place files path found files'
      → IsMigrateFault system tt path found tt
  migrate_fault (Ok desk) h = tt
  migrate_fault (Err fault) (inl h) = inl (h.0, tt)
  migrate_fault (Err fault) (inr h) =
      inr (record {
        connection = h.connection;
        between = tt;
        opened = h.opened;
        refused = h.refused;
        refuses = h.refuses;
        closed = tt;
      })
