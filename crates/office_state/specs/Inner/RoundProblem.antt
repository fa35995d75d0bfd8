-- The round's problem, as the code builds it.
use Rattle.std.specs.Prelude.{◌≡◌}
use Rattle.std.specs.FinMap as map
use Rattle.room_types.specs.Texts.{Text}
use Rattle.office_state.specs.Round.{round_people, round_rooms, round_market, number_in}
use Rattle.office_state.specs.declared.office.Office.{Office}
use Rattle.office_state.specs.declared.round.problem.RoundProblem.{RoundProblem}

-- `round` holds the problem of the office's round, the names of the round's people and rooms, and the number of each
-- room
pub record IsProblemOf (office : Office) (round : RoundProblem) : Type 0 where
  pub people : round.people.items ≡ round_people office
  pub rooms : round.rooms.items ≡ round_rooms office
  pub numbers : (room : Text) → map.get round.numbers room ≡ number_in (round_rooms office) room
  pub market : round.problem ≡ round_market office
