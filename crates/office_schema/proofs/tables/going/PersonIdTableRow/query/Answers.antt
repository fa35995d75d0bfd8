use Rattle.office_schema.specs.declared.tables.names.TableName.TheVariants.{Going}
use Rattle.office_schema.proofs.table_rows.QueryMeanings.{asked, listed}
use Rattle.office_schema.proofs.table_rows.Records.{going_loaded}
use Rattle.office_schema.proofs.tables.going.PersonIdTableRow.query.Goals as goal

pub returns-clause-lists : goal.returns-clause-lists
returns-clause-lists c layout there = listed Going layout there

pub returns-clause-asks : goal.returns-clause-asks
returns-clause-asks c = asked Going

pub returns-clause-determines : goal.returns-clause-determines
returns-clause-determines c = going_loaded
