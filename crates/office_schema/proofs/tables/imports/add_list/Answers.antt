use Rattle.office_schema.proofs.statements.Made.{makes_list}
use Rattle.office_schema.proofs.statements.Runs.{runs_so}
use Rattle.office_schema.proofs.tables.imports.add_list.Goals as goal

pub returns : goal.returns
returns g c =
    runs_so c.run.ensures
    (λ ran. makes_list _ _ c.args.label.now
    (record { kind = c.args.kind; bytes = c.args.bytes.now; count = c.args.count })
    (λ clean. rw (
      c.params-to_sql.ensures,
      c.params-to_sql-2.ensures,
      c.params-to_sql-3.ensures,
      c.params-to_sql-4.ensures,
      c.as_str.ensures.text,
      c.as_str-2.ensures,
      c.as_slice.ensures,
      c.from.ensures,
    )
    at (ran clean)))
