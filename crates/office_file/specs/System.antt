-- What opening and closing a file of the system does.
use Rattle.std.specs.Prelude.{⊤}
use Rattle.sqlite.specs.Files.{over_files}
use Rattle.sqlite_disk.specs.declared.Disk.{Ghosts}
use Rattle.sqlite_store.specs.declared.store.FileStore.{FileStore}
use Rattle.sqlite_wal.specs.Recovery.{Image}
use Rattle.office_file.specs.Access.{FileAccess}
use Rattle.office_file.specs.Files.{IsOpenedOver}

-- A file of the system and its log had these contents when the file was opened, if the disk returned what they held.
-- The record does not say which file a path names, whether it can be opened, or what closing does.
abbrev pub system_access : {D : Type 0} {g : Ghosts D} → Image → FileAccess ⊤ (FileStore D g)
system_access contents = record {
  base = over_files;
  opens = λ _ _ connection _. IsOpenedOver contents connection;
  finds = λ _ _ connection _. IsOpenedOver contents connection;
  fails = λ _ _ _. ⊤;
  closes = λ _ _ _. ⊤;
}
