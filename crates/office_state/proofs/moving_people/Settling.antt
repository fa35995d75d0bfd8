-- Where the people who move in a settlement come to, and the moves of a round, one after the other.
use Rattle.std.proofs.Common.{◌≡◌, false, List, [], ◌∷◌, Option, Some, cond, ap, ◌∙◌}
use Rattle.std.specs.Prelude.{unwrap_or}
use Rattle.std.specs.Option.{option_map}
use Rattle.std.specs.Ordering.{is_eq}
use Rattle.std.specs.Cmp.{nat_cmp_total, tied_itself}
use Rattle.std.specs.FinMap as map
use Rattle.std.specs.FinMap.{get-insert}
use Rattle.room_types.specs.Texts.{Text, TextMap}
use Rattle.room_types.specs.declared.moves.Move.{Move}
use Rattle.office_state.specs.Office.Moves.{RoundMap, moves_of, with_move}
use Rattle.office_state.specs.Office.{had_by}
use Rattle.office_state.specs.declared.office.moves.RoundMoves.{RoundMoves}
use Rattle.office_state.specs.declared.office.person.Person.{Person}

-- where a person lives among these
abbrev pub home_in : TextMap Person → Text → Option Text
home_in people q = had_by (λ p. p.home) people q

-- each move is of a person who has none in that round yet
abbrev pub AreFresh : RoundMap RoundMoves → List Move → Type 0
AreFresh kept [] = Unit {0}
AreFresh kept (move ∷ moves) =
    (map.contains_key (moves_of kept move.round) move.person ≡ false)
    × AreFresh (with_move kept move) moves

-- the moves of a round after one more
pub moves_of-with_move : (kept : RoundMap RoundMoves) (move : Move)
    → moves_of (with_move kept move) move.round
    ≡ map.insert (moves_of kept move.round) move.person
    (record { from = move.from; to = move.to; wave = move.wave })
moves_of-with_move kept move =
    let value : RoundMoves =
    record {
      by_person = map.insert (moves_of kept move.round) move.person
          (record { from = move.from; to = move.to; wave = move.wave });
    } in
    ap (λ (o : Option RoundMoves). unwrap_or
    (option_map (λ (k : RoundMoves). k.by_person) o) map.empty)
    (get-insert nat_cmp_total kept move.round value move.round
    ∙ ap (λ o. cond (is_eq o) (Some value) (map.get kept move.round))
    (tied_itself nat_cmp_total move.round))
