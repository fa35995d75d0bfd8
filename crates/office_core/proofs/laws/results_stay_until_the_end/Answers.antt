use Rattle.office_core.proofs.commands.Kept.{results_kept}
use Rattle.office_core.proofs.laws.results_stay_until_the_end.Goals as goal

pub returns : goal.returns
returns c = results_kept
