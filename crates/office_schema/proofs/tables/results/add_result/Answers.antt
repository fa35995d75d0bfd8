use Rattle.office_schema.proofs.statements.Made.{makes_result}
use Rattle.office_schema.proofs.statements.Runs.{runs_so}
use Rattle.office_schema.proofs.tables.results.add_result.Goals as goal

pub returns : goal.returns
returns g c =
    runs_so c.run.ensures
    (λ ran. makes_result _ _ c.args.person.now c.args.room.now
    (λ clean. rw (c.params-to_sql.ensures, c.params-to_sql-2.ensures, c.as_str.ensures.text, c.code_or_null.ensures)
    at (ran clean)))
