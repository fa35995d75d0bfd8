use Rattle.office_schema.proofs.statements.Made.{makes_person}
use Rattle.office_schema.proofs.statements.Runs.{runs_so}
use Rattle.office_schema.proofs.tables.people.add_person.Goals as goal

pub returns : goal.returns
returns g c =
    runs_so c.run.ensures
    (λ ran. makes_person _ _ c.args.id.now
    (record { name = c.args.name.now; key = c.args.key.now; home = c.args.home.now })
    (λ clean. rw (
      c.params-to_sql.ensures,
      c.params-to_sql-2.ensures,
      c.params-to_sql-3.ensures,
      c.params-to_sql-4.ensures,
      c.as_str.ensures.text,
      c.as_str-2.ensures.text,
      c.as_str-3.ensures.text,
      c.code_or_null.ensures,
    ) at (ran clean)))
