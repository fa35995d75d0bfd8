-- The list of moves for the day of moving.
use Rattle.std.specs.Prelude.{◌≡◌, ℕ, Bool, true, false, List, [], ◌∷◌, codes}
use Rattle.std.specs.declared.cmp.Ordering.{Ordering}
use Rattle.std.specs.Ordering.{bool_cmp, nat_cmp, on, then_cmp}
use Rattle.std.specs.Fmt.{decimal}
use Rattle.room_types.specs.Ascending.{IsArrangement, ascending}
use Rattle.room_types.specs.Texts.{Text, text_cmp}
use Rattle.room_types.specs.declared.moves.Wave.{Wave}
use Rattle.room_types.specs.declared.moves.Wave.TheVariants.{Swap, Nth}
use Rattle.room_types.specs.declared.moves.Move.{Move}
use Rattle.office_lists.specs.Tables.{table, or_none}

-- whether the wave is a swap
abbrev pub is_swap : Wave → Bool
is_swap Swap = true
is_swap (Nth number) = false

-- the number of a numbered wave, and 0 for a swap
abbrev pub wave_number : Wave → ℕ
wave_number Swap = 0
wave_number (Nth number) = number

-- the order of waves: by number, with swaps last
abbrev pub wave_cmp : Wave → Wave → Ordering
wave_cmp = then_cmp (on is_swap bool_cmp) (on wave_number nat_cmp)

-- the order of moves: by wave, and within a wave by the person's identifier
abbrev pub move_cmp : Move → Move → Ordering
move_cmp = then_cmp (on (λ move. move.wave) wave_cmp) (on (λ move. move.person) text_cmp)

-- a wave as it is printed: its number, or `swap`
abbrev pub wave_text : Wave → Text
wave_text (Nth number) = decimal number
wave_text Swap = codes "swap"

-- the table of moves, in the order given
abbrev pub moves_table : List Move → Text
moves_table =
    table (4 ∷ 12 ∷ 8 ∷ []) (codes "wave" ∷ codes "person" ∷ codes "from" ∷ codes "to" ∷ [])
    (λ row. wave_text row.wave ∷ row.person ∷ or_none row.from ∷ or_none row.to ∷ [])

-- `text` is the list for the day of moving: the table of the moves, sorted by `move_cmp`
pub record IsMoveDayList (moves : List Move) (text : Text) : Type 0 where
  pub rows : List Move
  pub in_order : IsArrangement move_cmp moves rows
  pub lines : text ≡ moves_table rows

-- computes the list for the day of moving
abbrev pub move_day_table : List Move → Text
move_day_table moves = moves_table (ascending move_cmp moves)

-- the moves have exactly one list for the day of moving, and `move_day_table` computes this list
pub record HaveOneMoveDayList (moves : List Move) : Type 0 where
  pub some : IsMoveDayList moves (move_day_table moves)
  pub one : (text : Text) → IsMoveDayList moves text → text ≡ move_day_table moves
