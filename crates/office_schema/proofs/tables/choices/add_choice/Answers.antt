use Rattle.office_schema.proofs.statements.Made.{makes_choice}
use Rattle.office_schema.proofs.statements.Runs.{runs_so}
use Rattle.office_schema.proofs.tables.choices.add_choice.Goals as goal

pub returns : goal.returns
returns g c =
    runs_so c.run.ensures
    (λ ran. makes_choice _ _ c.args.person.now c.args.place c.args.room.now
    (λ clean. rw (
      c.params-to_sql.ensures,
      c.params-to_sql-2.ensures,
      c.params-to_sql-3.ensures,
      c.as_str.ensures.text,
      c.as_str-2.ensures.text,
    ) at (ran clean)))
