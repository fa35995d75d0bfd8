use Rattle.office_schema.proofs.statements.Runs.{runs_so}
use Rattle.office_db.proofs.changed_rows.Calls.{stores_name_and_key}
use Rattle.office_db.proofs.changes.people.put_name_and_key.Goals as goal

pub returns : goal.returns
returns g c =
    runs_so c.set_name_and_key.ensures
    (stores_name_and_key _ _ c.args.person.now c.args.name.now c.args.key.now
    c.lemma_text.ensures c.lemma_text-2.ensures)
