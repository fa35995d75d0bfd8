use Rattle.office_lists.proofs.csv.ReadBack.{are_read_back}
use Rattle.office_lists.proofs.laws.exports_read_back.Goals as goal

pub returns : goal.returns
returns c = are_read_back
