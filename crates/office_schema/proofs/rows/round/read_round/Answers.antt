use Rattle.office_schema.proofs.rows_read.Rounds.{one_row, row_of_other, other_rows}
use Rattle.office_schema.proofs.rows.round.read_round.Goals as goal

pub returns-then-rows-ne1 : goal.returns-then-rows-ne1
returns-then-rows-ne1 c = other_rows c.args.version c.args.rows.now c.if-rows-ne1.true

pub returns-then-row-version : goal.returns-then-row-version
returns-then-row-version c = one_row c.args.version c.args.rows.now _ c.if-rows-ne1.false c.if-row-version.true

pub returns-else-row-version : goal.returns-else-row-version
returns-else-row-version c = row_of_other c.args.version c.args.rows.now _ c.if-rows-ne1.false c.if-row-version.false
