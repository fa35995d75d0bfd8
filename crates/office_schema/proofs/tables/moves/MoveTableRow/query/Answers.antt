use Rattle.office_schema.specs.declared.tables.names.TableName.TheVariants.{Moves}
use Rattle.office_schema.proofs.table_rows.QueryMeanings.{asked, listed}
use Rattle.office_schema.proofs.table_rows.Records.{moves_loaded}
use Rattle.office_schema.proofs.tables.moves.MoveTableRow.query.Goals as goal

pub returns-clause-lists : goal.returns-clause-lists
returns-clause-lists c layout there = listed Moves layout there

pub returns-clause-asks : goal.returns-clause-asks
returns-clause-asks c = asked Moves

pub returns-clause-determines : goal.returns-clause-determines
returns-clause-determines c = moves_loaded
