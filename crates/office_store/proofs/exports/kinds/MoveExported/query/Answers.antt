use Rattle.office_store.proofs.export_answers.Moving.{moves_exported_by_query}
use Rattle.office_store.proofs.exports.kinds.MoveExported.query.Goals as goal

pub returns-clause-asks : goal.returns-clause-asks
returns-clause-asks c = moves_exported_by_query
