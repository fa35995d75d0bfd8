use Rattle.std.proofs.Common.{◌≡◌, ◌∙◌, ap, ap₂}
use Rattle.std.proofs.lemmas.Result.{IfOk-weaker}
use Rattle.clap.specs.Words.{App, app_of}
use Rattle.office_cli.specs.Usage.{export_usage, import_usage, with_usage}
use Rattle.office_cli.proofs.usage.add_file_commands.Goals as goal

pub returns : goal.returns
returns c =
    let old : App = app_of c.args.command in
    let one : app_of c.in_ok-command.command ≡ with_usage old import_usage =
    c.in_ok-command.ensures ∙ ap (with_usage old) c.in_ok-import_command.ensures.0 in
    let two : app_of c.in_ok-command-2.command ≡ with_usage (with_usage old import_usage) export_usage =
    c.in_ok-command-2.ensures ∙ ap₂ with_usage one c.in_ok-export_command.ensures.0 in
    IfOk-weaker c.with_command-3.result _ _ (λ whole added. added ∙ ap₂ with_usage two c.in_ok-serve_command.ensures.0)
    c.with_command-3.ensures
