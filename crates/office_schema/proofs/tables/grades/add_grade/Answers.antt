use Rattle.office_schema.proofs.statements.Made.{makes_grade}
use Rattle.office_schema.proofs.statements.Runs.{runs_so}
use Rattle.office_schema.proofs.tables.grades.add_grade.Goals as goal

pub returns : goal.returns
returns g c =
    runs_so c.run.ensures
    (λ ran. makes_grade _ _ c.args.person.now c.args.grade
    (λ clean. rw (
      c.params-to_sql.ensures,
      c.params-to_sql-2.ensures,
      c.as_str.ensures.text,
      c.from.ensures,
      c.value.ensures.value,
    ) at (ran clean)))
