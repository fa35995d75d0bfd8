use Rattle.office_state.proofs.moving_people.Leavers.{leaver_unplaced, only_leavers}
use Rattle.office_state.proofs.round.laws.only_leavers_move_out.Goals as goal

pub returns : goal.returns
returns c = record { no_room = leaver_unplaced; nobody_else = only_leavers }
