use Rattle.office_schema.proofs.statements.Made.{makes_body}
use Rattle.office_schema.proofs.statements.Runs.{runs_so}
use Rattle.office_schema.proofs.tables.imports.set_body.Goals as goal

pub returns : goal.returns
returns g c =
    runs_so c.run.ensures
    (λ ran. makes_body _ _ c.args.label.now c.args.bytes.now
    (λ clean. rw (c.params-to_sql.ensures, c.params-to_sql-2.ensures, c.as_str.ensures.text, c.as_slice.ensures)
    at (ran clean)))
