use Rattle.office_schema.proofs.statements.Runs.{runs_so}
use Rattle.office_db.proofs.changed_rows.Calls.{stores_person}
use Rattle.office_db.proofs.changes.people.put_person.Goals as goal

pub returns : goal.returns
returns g c =
    runs_so c.add_person.ensures
    (stores_person _ _ c.args.person.now c.args.name.now c.args.key.now c.args.home.now
    c.lemma_text.ensures c.lemma_text-2.ensures c.lemma_text-3.ensures c.lemma_optional_text.ensures)
