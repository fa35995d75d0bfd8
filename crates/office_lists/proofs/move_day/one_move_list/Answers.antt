use Rattle.office_lists.proofs.move_days.MoveDayLists.{move_day_lists_agree}
use Rattle.office_lists.proofs.move_day.one_move_list.Goals as goal

pub returns : goal.returns
returns c = move_day_lists_agree
