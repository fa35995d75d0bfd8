use Rattle.std.proofs.Common.{arith}
use Rattle.office_lines.proofs.handled.Sessions.{Finished-unflushed}
use Rattle.office_lines.proofs.session.Session.finish.Goals as goal

pub returns-in-Err-clause-unfinished : goal.returns-in-Err-clause-unfinished
returns-in-Err-clause-unfinished g c =
    Finished-unflushed _ _ _ _ (omega (arith, c.args.self.now.partial_line.ok.0, c.args.self.now.short))
    c.in_ok-answer_rest.ensures.finished c.in-Err.ensures.bytes c.in-Err.ensures.taken c.flush.ensures.flushes
