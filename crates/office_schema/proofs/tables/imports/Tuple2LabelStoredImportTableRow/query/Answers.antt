use Rattle.office_schema.specs.declared.tables.names.TableName.TheVariants.{Lists}
use Rattle.office_schema.proofs.table_rows.QueryMeanings.{asked, listed}
use Rattle.office_schema.proofs.table_rows.Records.{lists_loaded}
use Rattle.office_schema.proofs.tables.imports.Tuple2LabelStoredImportTableRow.query.Goals as goal

pub returns-clause-lists : goal.returns-clause-lists
returns-clause-lists c layout there = listed Lists layout there

pub returns-clause-asks : goal.returns-clause-asks
returns-clause-asks c = asked Lists

pub returns-clause-determines : goal.returns-clause-determines
returns-clause-determines c = lists_loaded
