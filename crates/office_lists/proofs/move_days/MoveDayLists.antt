-- Moves have exactly one list for the day of moving.
use Rattle.std.proofs.Common.{◌≡◌, List, refl, sym, ap, ◌∙◌, subst}
use Rattle.std.specs.Cmp.{IsTotalOrder, bool_cmp_total}
use Rattle.std.proofs.lemmas.Cmp.{then_total, on_total, nat_cmp_total, nat_list_cmp_total}
use Rattle.room_types.specs.declared.moves.Move.{Move}
use Rattle.room_types.specs.Ascending.{ascending}
use Rattle.room_types.specs.Texts.{Text}
use Rattle.room_types.proofs.arranged.Arrangements.{arrangements_agree}
use Rattle.office_lists.specs.MoveDay.{is_swap, wave_number, move_cmp, moves_table, IsMoveDayList, HaveOneMoveDayList}

pub move_total : IsTotalOrder move_cmp
move_total =
    then_total
    (then_total (on_total (λ m. is_swap m.wave) bool_cmp_total) (on_total (λ m. wave_number m.wave) nat_cmp_total))
    (on_total (λ m. m.person) nat_list_cmp_total)

pub move_day_lists_agree : (moves : List Move) → HaveOneMoveDayList moves
move_day_lists_agree moves =
    let one = arrangements_agree move_cmp move_total moves in
    record {
      some = record { rows = _; in_order = one.some; lines = refl };
      one = λ text listed. listed.lines ∙ ap moves_table (one.one listed.rows listed.in_order);
    }

-- a text made of the moves in order is the list for the day of moving
pub listed_by_order : (moves rows : List Move) (text : Text) → rows ≡ ascending move_cmp moves → text ≡ moves_table rows
    → IsMoveDayList moves text
listed_by_order moves rows text in_order lines =
    subst (λ t. IsMoveDayList moves t) (sym (lines ∙ ap moves_table in_order)) (move_day_lists_agree moves).some
