use Rattle.office_store.proofs.export_answers.Peopling.{people_exported_by_query}
use Rattle.office_store.proofs.exports.kinds.PersonRowExported.query.Goals as goal

pub returns-clause-asks : goal.returns-clause-asks
returns-clause-asks c = people_exported_by_query
