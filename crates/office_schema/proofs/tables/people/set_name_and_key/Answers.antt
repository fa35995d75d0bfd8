use Rattle.office_schema.proofs.statements.Made.{makes_name_and_key}
use Rattle.office_schema.proofs.statements.Runs.{runs_so}
use Rattle.office_schema.proofs.tables.people.set_name_and_key.Goals as goal

pub returns : goal.returns
returns g c =
    runs_so c.run.ensures
    (λ ran. makes_name_and_key _ _ c.args.id.now c.args.name.now c.args.key.now
    (λ clean. rw (
      c.params-to_sql.ensures,
      c.params-to_sql-2.ensures,
      c.params-to_sql-3.ensures,
      c.as_str.ensures.text,
      c.as_str-2.ensures.text,
      c.as_str-3.ensures.text,
    ) at (ran clean)))
