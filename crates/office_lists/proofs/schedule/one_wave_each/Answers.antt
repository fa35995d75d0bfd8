use Rattle.office_lists.proofs.move_days.Leavers.{waves_agree}
use Rattle.office_lists.proofs.schedule.one_wave_each.Goals as goal

pub returns : goal.returns
returns c = waves_agree
