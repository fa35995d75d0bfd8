use Rattle.std.proofs.Common.{arith, ◌∙◌}
use Rattle.office_lines.proofs.rehearsals.Rehearsals.{is_start, InputHandled-started, Rehearses-stopped}
use Rattle.office_lines.proofs.rehearsals.Rehearsals.{Rehearses-unfinished, Stopped-started, WholeInput-finished}
use Rattle.office_lines.proofs.rehearse.rehearse.Goals as goal

pub returns-in-Ok-finish-clause-rehearses : goal.returns-in-Ok-finish-clause-rehearses
returns-in-Ok-finish-clause-rehearses g c =
    let new = c.new-session.ensures in
    let handled =
    InputHandled-started _ _ _ _ _ _ _ _ (is_start _ _ _ _ _ new.line new.sent new.status)
    c.in-Ok.ensures.handled in
    WholeInput-finished _ _ _ _ _ _ _ handled.0 c.in-Ok.ensures.end handled.1
    (omega (arith, c.handle_input.new.session.partial_line.ok.0, c.handle_input.new.session.short))
    c.in-Ok-finish.ensures.finished c.in-Ok-finish.ensures.flushed
    (c.in-Ok.ensures.kept ∙ c.requires.fresh_input.failed) c.requires.fresh_output.failed

pub returns-in-Ok-clause-rehearses : goal.returns-in-Ok-clause-rehearses
returns-in-Ok-clause-rehearses g c =
    let new = c.new-session.ensures in
    let handled =
    InputHandled-started _ _ _ _ _ _ _ _ (is_start _ _ _ _ _ new.line new.sent new.status)
    c.in-Ok.ensures.handled in
    Rehearses-unfinished _ _ _ _ _ _ _ _ _ handled.0 handled.1 c.in-Ok.ensures.end c.in-Err-finish.ensures.unfinished
    c.in-Err-finish.ensures.failed
    (c.in-Ok.ensures.kept ∙ c.requires.fresh_input.failed) c.requires.fresh_output.failed

pub returns-clause-rehearses : goal.returns-clause-rehearses
returns-clause-rehearses g c =
    let new = c.new-session.ensures in
    let stopped =
    Stopped-started _ _ _ _ _ _ _ _ _ (is_start _ _ _ _ _ new.line new.sent new.status) c.in-Err.ensures.stopped in
    Rehearses-stopped _ _ _ _ _ _ _ _ stopped c.in-Err.ensures.failed c.requires.fresh_input.failed
    c.requires.fresh_output.failed
