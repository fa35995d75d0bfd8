use Rattle.std.proofs.Common.{◌≡◌, ◌∙◌, ap, ap₂}
use Rattle.std.proofs.lemmas.Result.{IfOk-weaker}
use Rattle.clap.specs.Words.{App, app_of}
use Rattle.office_cli.specs.Usage.{do_usage, lines_usage, new_usage, rehearse_usage, with_usage}
use Rattle.office_cli.proofs.usage.add_line_commands.Goals as goal

pub returns : goal.returns
returns c =
    let old : App = app_of c.args.command in
    let one : app_of c.in_ok-command.command ≡ with_usage old new_usage =
    c.in_ok-command.ensures ∙ ap (with_usage old) c.in_ok-new_command.ensures.0 in
    let two : app_of c.in_ok-command-2.command ≡ with_usage (with_usage old new_usage) do_usage =
    c.in_ok-command-2.ensures ∙ ap₂ with_usage one c.in_ok-do_command.ensures.0 in
    let three : app_of c.in_ok-command-3.command ≡ with_usage (with_usage (with_usage old new_usage) do_usage)
    lines_usage = c.in_ok-command-3.ensures ∙ ap₂ with_usage two c.in_ok-lines_command.ensures.0 in
    let four : app_of c.in_ok-command-4.command ≡ with_usage
    (with_usage (with_usage (with_usage old new_usage) do_usage) lines_usage) rehearse_usage =
    c.in_ok-command-4.ensures ∙ ap₂ with_usage three c.new.ensures.app in
    IfOk-weaker c.with_command-5.result _ _ (λ whole added. added ∙ ap₂ with_usage four c.in_ok-words_command.ensures.0)
    c.with_command-5.ensures
