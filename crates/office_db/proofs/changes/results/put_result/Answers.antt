use Rattle.office_schema.proofs.statements.Runs.{runs_so}
use Rattle.office_db.proofs.changed_rows.Calls.{stores_result}
use Rattle.office_db.proofs.changes.results.put_result.Goals as goal

pub returns : goal.returns
returns g c =
    runs_so c.add_result.ensures
    (stores_result _ _ c.args.person.now c.args.room.now c.lemma_text.ensures c.lemma_optional_text.ensures)
