use Rattle.std.proofs.Common.{◌≡◌, ◌∙◌, ap, ap₂}
use Rattle.std.proofs.lemmas.Result.{IfOk-weaker}
use Rattle.clap.specs.Words.{app_of}
use Rattle.office_cli.specs.Usage.{plain_usage, with_file_usages, with_line_usages, with_usage}
use Rattle.office_cli.proofs.usage.rooms_command.Goals as goal

pub returns : goal.returns
returns c =
    let lines : app_of c.in_ok-lines.lines ≡ with_line_usages plain_usage =
    c.in_ok-lines.ensures ∙ ap with_line_usages c.plain_command.ensures.0 in
    let files : app_of c.in_ok-files.files ≡ with_file_usages (with_line_usages plain_usage) =
    c.in_ok-files.ensures ∙ ap with_file_usages lines in
    IfOk-weaker c.with_command.result _ _
    (λ whole added. added ∙ ap₂ with_usage files c.in_ok-migrate_command.ensures.0) c.with_command.ensures
