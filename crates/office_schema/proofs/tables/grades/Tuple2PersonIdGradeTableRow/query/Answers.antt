use Rattle.office_schema.specs.declared.tables.names.TableName.TheVariants.{Grades}
use Rattle.office_schema.proofs.table_rows.QueryMeanings.{asked, listed}
use Rattle.office_schema.proofs.table_rows.Records.{grades_loaded}
use Rattle.office_schema.proofs.tables.grades.Tuple2PersonIdGradeTableRow.query.Goals as goal

pub returns-clause-lists : goal.returns-clause-lists
returns-clause-lists c layout there = listed Grades layout there

pub returns-clause-asks : goal.returns-clause-asks
returns-clause-asks c = asked Grades

pub returns-clause-determines : goal.returns-clause-determines
returns-clause-determines c = grades_loaded
