use Rattle.office_schema.specs.declared.tables.names.TableName.TheVariants.{Rounds}
use Rattle.office_schema.proofs.table_rows.QueryMeanings.{asked, listed}
use Rattle.office_schema.proofs.table_rows.Records.{rounds_loaded}
use Rattle.office_schema.proofs.tables.rounds.RoundRecordTableRow.query.Goals as goal

pub returns-clause-lists : goal.returns-clause-lists
returns-clause-lists c layout there = listed Rounds layout there

pub returns-clause-asks : goal.returns-clause-asks
returns-clause-asks c = asked Rounds

pub returns-clause-determines : goal.returns-clause-determines
returns-clause-determines c = rounds_loaded
