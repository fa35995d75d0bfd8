use Rattle.office_cli.proofs.done_lines.Rehearsed.{rehearsal_follows, rehearsal_represented}
use Rattle.office_cli.proofs.carrying_out.rehearse.Goals as goal

pub returns-clause-follows : goal.returns-clause-follows
returns-clause-follows g c = rehearsal_follows g.S.Store _ _ _ _ _ _ _ _ c.rehearse.ensures.rehearses

pub returns-clause-lawful : goal.returns-clause-lawful
returns-clause-lawful g c = rehearsal_represented g.S.Store _ _ _ _ _ _ _ _ c.rehearse.ensures.rehearses
