use Rattle.office_store.proofs.export_answers.Rooming.{rooms_exported_by_query}
use Rattle.office_store.proofs.exports.kinds.RoomRowExported.query.Goals as goal

pub returns-clause-asks : goal.returns-clause-asks
returns-clause-asks c = rooms_exported_by_query
