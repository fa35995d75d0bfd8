use Rattle.std.specs.Prelude.{⊤}
use Rattle.sqlite.specs.Files.{over_files}
use Rattle.sqlite_wal.specs.Files.{image_at}
use Rattle.office_file.specs.Files.{IsOpenedOver}
use Rattle.office_file.proofs.system_files.Opened.{begins_blank, create_fault}
use Rattle.office_file.proofs.system.create_over.Goals as goal

pub returns-clause-blank : goal.returns-clause-blank
returns-clause-blank g c =
    let opened = IsOpenedOver (image_at g.S.Start) in
    begins_blank over_files opened opened _ _ _ _ _ c.create_in.result c.create_in.ensures.blank

pub returns-clause-cause : goal.returns-clause-cause
returns-clause-cause g c =
    let opened = IsOpenedOver (image_at g.S.Start) in
    create_fault over_files opened opened (λ _ _ _. ⊤) (λ _ _ _. ⊤) c.new-files.result c.create_in.new.files _
    c.create_in.result c.create_in.ensures.cause
