use Rattle.office_schema.proofs.statements.Runs.{runs_so}
use Rattle.office_db.proofs.changed_rows.Calls.{stores_withdrawn}
use Rattle.office_db.proofs.changes.people.put_withdrawn.Goals as goal

pub returns : goal.returns
returns g c = runs_so c.set_withdrawn.ensures (stores_withdrawn _ _ c.args.person.now)
