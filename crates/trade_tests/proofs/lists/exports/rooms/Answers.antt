use Rattle.std.proofs.Common.{List, sym, subst}
use Rattle.std.specs.List.Sorted.{IsStrictlySortedBy}
use Rattle.room_types.specs.Ascending.{AscendsBy}
use Rattle.room_types.specs.Texts.{text_cmp}
use Rattle.room_types.specs.declared.rows.RoomRow.{RoomRow}
use Rattle.trade_tests.proofs.lists.exports.rooms.Goals as goal

pub returns : goal.returns
unfolding IsStrictlySortedBy
returns g c =
    subst (λ (rows : List RoomRow). AscendsBy (λ row. row.room) rows) (sym c.in_ok-rows.ensures.items)
    ((λ i. text_cmp (c.room_row.ensures i) (c.room_row-2.ensures i), tt), (tt, tt))
