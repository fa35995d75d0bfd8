use Rattle.office_schema.proofs.statements.Runs.{runs_so}
use Rattle.office_db.proofs.changed_rows.Calls.{stores_move}
use Rattle.office_db.proofs.changes.results.record_move.Goals as goal

pub returns : goal.returns
returns g c = runs_so c.add_move.ensures (stores_move _ _ c.args.moved.now c.lemma_move.ensures)
