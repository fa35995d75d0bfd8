use Rattle.sqlite.specs.Steps.{over_memory}
use Rattle.office_lines.proofs.rehearsals.Simulations.{rehearsal_shown}
use Rattle.office_store.proofs.desks.Runs.{step_in_memory}
use Rattle.office_store.specs.Desk.{Shows}
use Rattle.office_store.specs.Handling.{HandlesAt}
use Rattle.office_store.specs.LawfulSteps.{HandlesLawfully}
use Rattle.office_cli.proofs.carrying_out.rehearse_in_memory.Goals as goal

pub returns-clause-lawful : goal.returns-clause-lawful
returns-clause-lawful g c office shows =
    rehearsal_shown (HandlesAt over_memory) HandlesLawfully (Shows over_memory) step_in_memory c.rehearse.result.ending
    c.rehearse.result.status _ _ _ _ _ _
    c.rehearse.ensures.rehearses office shows
