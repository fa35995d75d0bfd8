-- The moves of a settlement, one by one.
use Rattle.std.proofs.Common.{◌≡◌, ℕ, ◌+◌, ◌<◌, List, [], ◌∷◌, ◌++◌, length, take, drop, get_or, cond, not, ap, ◌∙◌}
use Rattle.std.specs.Option.{is_some}
use Rattle.std.proofs.lemmas.List.{drop_more}
use Rattle.std.proofs.lemmas.List.Elements.{filter_more}
use Rattle.room_types.specs.declared.moves.Move.{Move}
use Rattle.room_types.specs.declared.moves.Wave.{Wave}
use Rattle.office_lists.specs.MoveDay.{is_swap}
use Rattle.office_lists.specs.Waves.{Relocation, waves_of}
use Rattle.office_lists.proofs.move_days.Leavers.{length-waves_of}
use Rattle.office_state.specs.Round.Settlement.{relocations, moves_with, settled_moves}
use Rattle.office_state.specs.declared.office.Office.{Office}
use Rattle.office_core.specs.Command.Changes.{departures, swaps}
use Rattle.office_core.proofs.settlements.Moving.{length-moves_with}

pub moves_with_more : (round : ℕ) (ms : List Relocation) (waves : List Wave) (i : ℕ) (d : Relocation)
    (e : Wave) → i < length ms → i < length waves
    → moves_with round (drop i ms) (drop i waves)
    ≡ record {
      round = round;
      person = (get_or ms i d).0;
      from = (get_or ms i d).1;
      to = (get_or ms i d).2;
      wave =
          get_or waves i e;
    } ∷ moves_with round (drop (i + 1) ms) (drop (i + 1) waves)
moves_with_more round ms waves i d e h k =
    ap (λ m. moves_with round m (drop i waves)) (drop_more ms i d h)
    ∙ ap (λ w. moves_with round (get_or ms i d ∷ drop (i + 1) ms) w) (drop_more waves i e k)

pub swaps_more : (moves : List Move) (i : ℕ) (d : Move) → i < length moves
    → swaps (take (i + 1) moves)
    ≡ swaps (take i moves) ++ cond (is_swap (get_or moves i d).wave) (get_or moves i d ∷ []) []
swaps_more moves i d within = filter_more (λ move. is_swap move.wave) moves i d within

pub departures_more : (moves : List Move) (i : ℕ) (d : Move) → i < length moves
    → departures (take (i + 1) moves)
    ≡ departures (take i moves) ++ cond (not (is_some (get_or moves i d).to)) (get_or moves i d ∷ []) []
departures_more moves i d within = filter_more (λ move. not (is_some move.to)) moves i d within

-- there are as many moves as relocations
pub as_many_settled : (office : Office) → length (settled_moves office) ≡ length (relocations office)
as_many_settled office =
    length-moves_with office.number (relocations office) (waves_of (relocations office))
    (length-waves_of (relocations office))
