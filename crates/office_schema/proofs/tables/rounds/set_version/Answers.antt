use Rattle.office_schema.proofs.statements.Made.{makes_version}
use Rattle.office_schema.proofs.statements.Runs.{runs_so}
use Rattle.office_schema.proofs.tables.rounds.set_version.Goals as goal

pub returns : goal.returns
returns g c = runs_so c.run.ensures (makes_version _ _)
