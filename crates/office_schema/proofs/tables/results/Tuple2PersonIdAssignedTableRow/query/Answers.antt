use Rattle.office_schema.specs.declared.tables.names.TableName.TheVariants.{Results}
use Rattle.office_schema.proofs.table_rows.QueryMeanings.{asked, listed}
use Rattle.office_schema.proofs.table_rows.Records.{results_loaded}
use Rattle.office_schema.proofs.tables.results.Tuple2PersonIdAssignedTableRow.query.Goals as goal

pub returns-clause-lists : goal.returns-clause-lists
returns-clause-lists c layout there = listed Results layout there

pub returns-clause-asks : goal.returns-clause-asks
returns-clause-asks c = asked Results

pub returns-clause-determines : goal.returns-clause-determines
returns-clause-determines c = results_loaded
