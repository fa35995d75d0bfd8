use Rattle.office_schema.proofs.statements.Runs.{runs_so}
use Rattle.office_db.proofs.changed_rows.Calls.{stores_home}
use Rattle.office_db.proofs.changes.people.put_home.Goals as goal

pub returns : goal.returns
returns g c =
    runs_so c.set_home.ensures
    (stores_home _ _ c.args.person.now c.args.home.now c.lemma_optional_text.ensures)
