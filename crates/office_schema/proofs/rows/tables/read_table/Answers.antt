use Rattle.std.proofs.Common.{sym, subst}
use Rattle.std.specs.FinMap as map
use Rattle.std.proofs.lemmas.Result.{IfOk-weaker}
use Rattle.office_schema.specs.rows.Reads.{Reads, IsAny}
use Rattle.office_schema.proofs.rows_read.Filling.{filled-reads}
use Rattle.office_schema.proofs.rows.tables.read_table.Goals as goal

pub returns-clause-reads : goal.returns-clause-reads
returns-clause-reads g c =
    IfOk-weaker c.fill.result _ _
    (λ found e. subst (λ o. Reads IsAny map.entries c.args.rows.items o) (sym e) (filled-reads c.args.rows.items))
    c.fill.ensures.fills
