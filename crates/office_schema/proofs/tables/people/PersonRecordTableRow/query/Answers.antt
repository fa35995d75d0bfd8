use Rattle.office_schema.specs.declared.tables.names.TableName.TheVariants.{People}
use Rattle.office_schema.proofs.table_rows.QueryMeanings.{asked, listed}
use Rattle.office_schema.proofs.table_rows.Records.{people_loaded}
use Rattle.office_schema.proofs.tables.people.PersonRecordTableRow.query.Goals as goal

pub returns-clause-lists : goal.returns-clause-lists
returns-clause-lists c layout there = listed People layout there

pub returns-clause-asks : goal.returns-clause-asks
returns-clause-asks c = asked People

pub returns-clause-determines : goal.returns-clause-determines
returns-clause-determines c = people_loaded
