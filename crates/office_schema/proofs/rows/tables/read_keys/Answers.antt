use Rattle.std.proofs.Common.{sym, subst}
use Rattle.std.proofs.lemmas.Result.{IfOk-weaker}
use Rattle.office_schema.specs.rows.Reads.{Reads, IsAny}
use Rattle.office_schema.specs.rows.Rows.{key_rows}
use Rattle.office_schema.proofs.rows_read.Keys.{keys_filled}
use Rattle.office_schema.proofs.rows.tables.read_keys.Goals as goal

pub returns-clause-reads : goal.returns-clause-reads
returns-clause-reads g c =
    IfOk-weaker c.fill_keys.result _ _
    (λ found e. subst (λ o. Reads IsAny key_rows c.args.rows.items o) (sym e) (keys_filled c.args.rows.items))
    c.fill_keys.ensures.fills
