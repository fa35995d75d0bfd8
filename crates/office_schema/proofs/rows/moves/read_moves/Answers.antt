use Rattle.std.proofs.Common.{sym, subst}
use Rattle.std.proofs.lemmas.Result.{IfOk-weaker}
use Rattle.office_schema.specs.rows.Rows.{AreStorableMoves, rows_of_moves}
use Rattle.office_schema.specs.rows.Reads.{Reads}
use Rattle.office_schema.proofs.rows_read.Moving.{recorded_moves-reads}
use Rattle.office_schema.proofs.rows.moves.read_moves.Goals as goal

pub returns-clause-reads : goal.returns-clause-reads
returns-clause-reads c =
    IfOk-weaker c.fill_moves.result _ _
    (λ found e. subst (λ o. Reads AreStorableMoves rows_of_moves c.args.rows.items o) (sym e)
    (recorded_moves-reads c.args.rows.items)) c.fill_moves.ensures.fills
