-- The moves of all rounds, as finite maps.
use Rattle.std.specs.Prelude.{ℕ, unwrap_or}
use Rattle.std.specs.Option.{option_map}
use Rattle.std.specs.Ordering.{nat_cmp}
use Rattle.std.specs.FinMap as map
use Rattle.std.specs.FinMap.{FinMap}
use Rattle.room_types.specs.Texts.{TextMap}
use Rattle.room_types.specs.declared.moves.Move.{Move}
use Rattle.office_state.specs.declared.office.moves.Moved.{Moved}
use Rattle.office_state.specs.declared.office.moves.RoundMoves.{RoundMoves}

-- finite maps from round numbers
abbrev pub RoundMap : Type 0 → Type 0
RoundMap X = FinMap nat_cmp X

-- the recorded moves of a round, by person; the empty map if the round has none
abbrev pub moves_of : RoundMap RoundMoves → ℕ → TextMap Moved
moves_of moves round =
    unwrap_or (option_map (λ (kept : RoundMoves). kept.by_person) (map.get moves round)) map.empty

-- the moves after recording `move` under its round and person
abbrev pub with_move : RoundMap RoundMoves → Move → RoundMap RoundMoves
with_move moves move =
    map.insert moves move.round
    (record {
      by_person = map.insert (moves_of moves move.round) move.person
          (record { from = move.from; to = move.to; wave = move.wave });
    })
