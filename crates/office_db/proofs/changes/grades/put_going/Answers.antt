use Rattle.office_schema.proofs.statements.Runs.{runs_so}
use Rattle.office_db.proofs.changed_rows.Calls.{stores_going}
use Rattle.office_db.proofs.changes.grades.put_going.Goals as goal

pub returns : goal.returns
returns g c = runs_so c.add_going.ensures (stores_going _ _ c.args.person.now c.lemma_text.ensures)
