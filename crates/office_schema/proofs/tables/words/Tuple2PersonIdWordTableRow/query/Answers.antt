use Rattle.office_schema.specs.declared.tables.names.TableName.TheVariants.{Words}
use Rattle.office_schema.proofs.table_rows.QueryMeanings.{asked, listed}
use Rattle.office_schema.proofs.table_rows.Records.{words_loaded}
use Rattle.office_schema.proofs.tables.words.Tuple2PersonIdWordTableRow.query.Goals as goal

pub returns-clause-lists : goal.returns-clause-lists
returns-clause-lists c layout there = listed Words layout there

pub returns-clause-asks : goal.returns-clause-asks
returns-clause-asks c = asked Words

pub returns-clause-determines : goal.returns-clause-determines
returns-clause-determines c = words_loaded
