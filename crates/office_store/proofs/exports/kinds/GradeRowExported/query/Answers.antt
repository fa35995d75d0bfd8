use Rattle.office_store.proofs.export_answers.Grading.{grades_exported_by_query}
use Rattle.office_store.proofs.exports.kinds.GradeRowExported.query.Goals as goal

pub returns-clause-asks : goal.returns-clause-asks
returns-clause-asks c = grades_exported_by_query
