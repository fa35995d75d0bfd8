use Rattle.office_schema.proofs.statements.Runs.{runs_so}
use Rattle.office_db.proofs.changed_rows.Calls.{stores_word}
use Rattle.office_db.proofs.changes.words.put_word.Goals as goal

pub returns : goal.returns
returns g c =
    runs_so c.add_word.ensures
    (stores_word _ _ c.args.person.now c.args.word c.lemma_text.ensures c.lemma_word.ensures)
