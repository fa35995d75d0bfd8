use Rattle.room_types.proofs.arranged.Arrangements.{arrangements_agree}
use Rattle.room_types.proofs.laws.one_arrangement.Goals as goal

pub returns : goal.returns
returns g c = arrangements_agree
