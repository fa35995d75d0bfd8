use Rattle.std.proofs.Common.{List, sym, subst}
use Rattle.std.specs.List.Sorted.{IsStrictlySortedBy}
use Rattle.room_types.specs.Ascending.{AscendsBy}
use Rattle.room_types.specs.Texts.{text_cmp}
use Rattle.room_types.specs.declared.rows.GradeRow.{GradeRow}
use Rattle.trade_tests.proofs.lists.exports.grades.Goals as goal

pub returns : goal.returns
unfolding IsStrictlySortedBy
returns g c =
    subst (λ (rows : List GradeRow). AscendsBy (λ row. row.person) rows) (sym c.in_ok-rows.ensures.items) (
      (λ i. text_cmp (c.grade_row.ensures i) (c.grade_row-2.ensures i), (λ i. text_cmp (c.grade_row.ensures i) (c.grade_row-3.ensures i), tt)),
      ((λ i. text_cmp (c.grade_row-2.ensures i) (c.grade_row-3.ensures i), tt), (tt, tt)),
    )
