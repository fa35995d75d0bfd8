use Rattle.office_schema.proofs.statements.Runs.{runs_so}
use Rattle.office_db.proofs.changed_rows.Calls.{stores_bytes}
use Rattle.office_db.proofs.changes.imports.put_bytes.Goals as goal

pub returns : goal.returns
returns g c = runs_so c.set_body.ensures (stores_bytes _ _ c.args.label.now c.args.bytes.now)
