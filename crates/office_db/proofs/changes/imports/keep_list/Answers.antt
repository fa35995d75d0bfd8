use Rattle.std.proofs.Common.{arith}
use Rattle.office_schema.proofs.statements.Runs.{runs_so}
use Rattle.office_db.proofs.changed_rows.Calls.{stores_list}
use Rattle.office_db.proofs.changes.imports.keep_list.Goals as goal

pub returns : goal.returns
returns g c =
    runs_so c.add_list.ensures
    (stores_list _ _ c.args.label.now c.args.kind c.args.bytes.now c.args.count
    c.lemma_text.ensures (omega (arith, c.ranges.count)))
