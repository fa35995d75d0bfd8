use Rattle.std.proofs.Common.{arith}
use Rattle.office_schema.proofs.statements.Runs.{runs_so}
use Rattle.office_db.proofs.changed_rows.Calls.{stores_round}
use Rattle.office_db.proofs.changes.round.put_round.Goals as goal

pub returns : goal.returns
returns g c = runs_so c.set_round.ensures (stores_round _ _ c.args.number c.args.phase (omega (arith, c.ranges.number)))
