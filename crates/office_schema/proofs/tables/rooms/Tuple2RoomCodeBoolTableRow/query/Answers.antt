use Rattle.office_schema.specs.declared.tables.names.TableName.TheVariants.{Rooms}
use Rattle.office_schema.proofs.table_rows.QueryMeanings.{asked, listed}
use Rattle.office_schema.proofs.table_rows.Records.{rooms_loaded}
use Rattle.office_schema.proofs.tables.rooms.Tuple2RoomCodeBoolTableRow.query.Goals as goal

pub returns-clause-lists : goal.returns-clause-lists
returns-clause-lists c layout there = listed Rooms layout there

pub returns-clause-asks : goal.returns-clause-asks
returns-clause-asks c = asked Rooms

pub returns-clause-determines : goal.returns-clause-determines
returns-clause-determines c = rooms_loaded
