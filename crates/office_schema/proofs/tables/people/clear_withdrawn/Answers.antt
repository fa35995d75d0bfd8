use Rattle.office_schema.proofs.statements.Made.{makes_none_withdrawn}
use Rattle.office_schema.proofs.statements.Runs.{runs_so}
use Rattle.office_schema.proofs.tables.people.clear_withdrawn.Goals as goal

pub returns : goal.returns
returns g c = runs_so c.run.ensures (makes_none_withdrawn _ _)
