use Rattle.office_lines.proofs.rehearsals.Runs.{Step-unavailable}
use Rattle.office_lines.proofs.line.handle_line.Goals as goal

pub returns-in-Err-clause-step : goal.returns-in-Err-clause-step
returns-in-Err-clause-step g c =
    Step-unavailable g.H.Handler.handles c.args.handler.now c.args.line.now c.in-Err.ensures.not_ignored
    c.in-Err.ensures.named
