use Rattle.office_core.proofs.commands.Commands.{decision_leads}
use Rattle.office_core.proofs.reply_rows.Replies.{decision_ascends}
use Rattle.office_core.proofs.command.decide.decide.Goals as goal

pub returns-clause-leads : goal.returns-clause-leads
returns-clause-leads c =
    decision_leads c.args.office.now c.args.command.now c.dispatch.result c.requires
    c.dispatch.ensures.formed c.dispatch.ensures.decides

pub returns-clause-ascending : goal.returns-clause-ascending
returns-clause-ascending c =
    decision_ascends c.args.office.now c.args.command.now c.dispatch.result
    c.dispatch.ensures.decides
