use Rattle.std.specs.Prelude.{⊤}
use Rattle.sqlite.specs.Files.{over_files}
use Rattle.sqlite_wal.specs.Files.{image_at}
use Rattle.office_file.specs.Files.{IsOpenedOver}
use Rattle.office_file.proofs.system_files.Opened.{begins_migrated, migrate_fault}
use Rattle.office_file.proofs.system.migrate_over.Goals as goal

pub returns-clause-shows : goal.returns-clause-shows
returns-clause-shows g c =
    let opened = IsOpenedOver (image_at g.S.Start) in
    begins_migrated over_files opened opened _ _ _ _ _ c.migrate_in.result c.migrate_in.ensures.shows

pub returns-clause-cause : goal.returns-clause-cause
returns-clause-cause g c =
    let opened = IsOpenedOver (image_at g.S.Start) in
    migrate_fault over_files opened opened (λ _ _ _. ⊤) (λ _ _ _. ⊤) c.new-files.result c.migrate_in.new.files _
    c.migrate_in.result c.migrate_in.ensures.cause
