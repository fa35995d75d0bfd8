use Rattle.office_core.specs.declared.query.Query.TheVariants as query
use Rattle.office_core.proofs.reply_rows.Replies.{answer_ascends}
use Rattle.office_core.proofs.query.answer.answer.Goals as goal

pub returns-in-Rooms-clause-ascending : goal.returns-in-Rooms-clause-ascending
returns-in-Rooms-clause-ascending c =
    answer_ascends c.args.office.now query.Rooms c.rooms.result c.rooms.ensures

pub returns-in-People-clause-ascending : goal.returns-in-People-clause-ascending
returns-in-People-clause-ascending c =
    answer_ascends c.args.office.now query.People c.people.result c.people.ensures

pub returns-in-Results-clause-ascending : goal.returns-in-Results-clause-ascending
returns-in-Results-clause-ascending c =
    answer_ascends c.args.office.now query.Results c.results.result c.results.ensures
