-- Recording moves one by one.
use Rattle.std.specs.Prelude.{List, [], ◌∷◌, Option, Some, None, if◌then◌else◌}
use Rattle.std.specs.FinMap as maps
use Rattle.room_types.specs.declared.moves.Move.{Move}
use Rattle.office_state.specs.Office.Moves.{RoundMap, moves_of, with_move}
use Rattle.office_state.specs.declared.office.moves.RoundMoves.{RoundMoves}

-- Adds the moves of the rows in order. The result is `None` if a person moves twice in a round.
abbrev pub recorded_moves : RoundMap RoundMoves → List Move → Option (RoundMap RoundMoves)
recorded_moves moves [] = Some moves
recorded_moves moves (row ∷ rows) =
    if maps.contains_key (moves_of moves row.round) row.person then None
    else recorded_moves (with_move moves row) rows
