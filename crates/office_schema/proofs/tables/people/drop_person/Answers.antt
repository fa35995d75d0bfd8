use Rattle.office_schema.proofs.statements.Made.{makes_no_person}
use Rattle.office_schema.proofs.statements.Runs.{runs_so}
use Rattle.office_schema.proofs.tables.people.drop_person.Goals as goal

pub returns : goal.returns
returns g c =
    runs_so c.run.ensures
    (λ ran. makes_no_person _ _ c.args.id.now
    (λ clean. rw (c.params-to_sql.ensures, c.as_str.ensures.text) at (ran clean)))
