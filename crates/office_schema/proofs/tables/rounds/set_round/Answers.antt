use Rattle.office_schema.proofs.statements.Made.{makes_round}
use Rattle.office_schema.proofs.statements.Runs.{runs_so}
use Rattle.office_schema.proofs.tables.rounds.set_round.Goals as goal

pub returns : goal.returns
returns g c =
    runs_so c.run.ensures
    (λ ran. makes_round _ _ c.args.number c.args.phase
    (λ clean. rw (c.params-to_sql.ensures, c.params-to_sql-2.ensures, c.as_str.ensures, c.from.ensures)
    at (ran clean)))
