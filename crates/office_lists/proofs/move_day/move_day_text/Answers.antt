use Rattle.std.proofs.Common.{map, ap, ◌∙◌}
use Rattle.std.proofs.lemmas.List.{take_all}
use Rattle.office_lists.specs.MoveDay.{moves_table}
use Rattle.office_lists.proofs.move_days.MoveDayLists.{listed_by_order}
use Rattle.office_lists.proofs.move_day.move_day_text.Goals as goal

pub returns-clause-listed : goal.returns-clause-listed
returns-clause-listed c =
    listed_by_order c.args.moves.now _ _ (ap (map (λ row. row.now)) c.deref-row-items.ensures.value
    ∙ c.in_ok-rows.ensures.ordered)
    (c.loop-row.invariant ∙ ap (λ rows. moves_table (map (λ row. row.now) rows))
    (take_all c.loop-row.row-index _ c.loop-row-test.false))
