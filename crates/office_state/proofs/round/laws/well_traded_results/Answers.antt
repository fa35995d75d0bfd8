use Rattle.office_state.proofs.round_outcomes.WellTraded.{recorded_traded}
use Rattle.office_state.proofs.round.laws.well_traded_results.Goals as goal

pub returns : goal.returns
returns c = recorded_traded
