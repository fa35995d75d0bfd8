use Rattle.office_state.proofs.round_problems.Problem.{lawful-IsMarket}
use Rattle.office_state.proofs.round_outcomes.WellTraded.{outcome_is_well_traded}
use Rattle.office_state.proofs.round.laws.well_traded_rounds.Goals as goal

pub returns : goal.returns
returns c = record { well_formed = λ office lawful. lawful-IsMarket office lawful; traded = outcome_is_well_traded }
