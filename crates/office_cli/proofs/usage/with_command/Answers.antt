use Rattle.std.proofs.lemmas.Result.{IfOk-weaker}
use Rattle.office_cli.proofs.usage.with_command.Goals as goal

pub returns : goal.returns
returns c = IfOk-weaker c.subcommand.result _ _ (λ whole added. added.shape c.requires.local) c.subcommand.ensures
