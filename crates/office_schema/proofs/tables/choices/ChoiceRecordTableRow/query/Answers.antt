use Rattle.office_schema.specs.declared.tables.names.TableName.TheVariants.{Choices}
use Rattle.office_schema.proofs.table_rows.QueryMeanings.{asked, listed}
use Rattle.office_schema.proofs.table_rows.Records.{choices_loaded}
use Rattle.office_schema.proofs.tables.choices.ChoiceRecordTableRow.query.Goals as goal

pub returns-clause-lists : goal.returns-clause-lists
returns-clause-lists c layout there = listed Choices layout there

pub returns-clause-asks : goal.returns-clause-asks
returns-clause-asks c = asked Choices

pub returns-clause-determines : goal.returns-clause-determines
returns-clause-determines c = choices_loaded
