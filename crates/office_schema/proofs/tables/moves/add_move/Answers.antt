use Rattle.office_schema.proofs.statements.Made.{makes_move}
use Rattle.office_schema.proofs.statements.Runs.{runs_so}
use Rattle.office_schema.proofs.tables.moves.add_move.Goals as goal

pub returns : goal.returns
returns g c =
    runs_so c.run.ensures
    (λ ran. makes_move _ _ c.args.row.now
    (λ clean. rw (
      c.params-to_sql.ensures,
      c.params-to_sql-2.ensures,
      c.params-to_sql-3.ensures,
      c.params-to_sql-4.ensures,
      c.params-to_sql-5.ensures,
      c.as_str.ensures.text,
      c.code_or_null.ensures,
      c.code_or_null-2.ensures,
      c.number_or_null.ensures,
      c.from.ensures,
    ) at (ran clean)))
