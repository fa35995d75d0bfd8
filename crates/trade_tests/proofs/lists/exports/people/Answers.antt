use Rattle.std.proofs.Common.{List, sym, subst}
use Rattle.std.specs.List.Sorted.{IsStrictlySortedBy}
use Rattle.room_types.specs.Ascending.{AscendsBy}
use Rattle.room_types.specs.Texts.{text_cmp}
use Rattle.room_types.specs.declared.rows.PersonRow.{PersonRow}
use Rattle.trade_tests.proofs.lists.exports.people.Goals as goal

pub returns : goal.returns
unfolding IsStrictlySortedBy
returns g c =
    subst (λ (rows : List PersonRow). AscendsBy (λ row. row.person) rows) (sym c.in_ok-rows.ensures.items) (
      (λ i. text_cmp (c.person_row.ensures i) (c.person_row-2.ensures i), (λ i. text_cmp (c.person_row.ensures i) (c.person_row-3.ensures i), (λ i. text_cmp (c.person_row.ensures i) (c.person_row-4.ensures i), tt))),
      (
        (λ i. text_cmp (c.person_row-2.ensures i) (c.person_row-3.ensures i), (λ i. text_cmp (c.person_row-2.ensures i) (c.person_row-4.ensures i), tt)),
        ((λ i. text_cmp (c.person_row-3.ensures i) (c.person_row-4.ensures i), tt), (tt, tt)),
      ),
    )
