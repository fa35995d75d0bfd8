use Rattle.std.proofs.Common.{◌≡◌, Bor, map, ap, ◌∙◌, rules}
use Rattle.std.specs.Ordering.{on}
use Rattle.std.proofs.lemmas.Cmp.{on_total}
use Rattle.std.proofs.lemmas.List.Sorted.{ranks_by, answers_always}
use Rattle.std.proofs.lemmas.Iterator.{YieldsList-from_slice}
use Rattle.std.proofs.lemmas.Iterator.Consumers.{map_from_collect}
use Rattle.std.proofs.lemmas.Result.{IfOk-at_ok}
use Rattle.room_types.specs.declared.moves.Move.{Move}
use Rattle.room_types.specs.Ascending.{ascending}
use Rattle.room_types.proofs.arranged.Arrangements.{arrangements_agree, map-ascending}
use Rattle.office_lists.specs.MoveDay.{move_cmp}
use Rattle.office_lists.proofs.move_days.MoveDayLists.{move_total}
use Rattle.office_lists.proofs.move_day.in_moving_order.Goals as goal

pub returns-clause-ordered : goal.returns-clause-ordered
returns-clause-ordered c =
    let view : Bor Move → Move = λ row. row.now in
    let shows : map view c.in_ok-rows.rows.items ≡ c.args.moves.now =
    IfOk-at_ok _ c.in_ok-rows.was
    (map_from_collect _ c.collect.ensures.ran (YieldsList-from_slice c.args.moves.now cc)) in
    let weak = ranks_by move_total view in
    let sorted = c.in_ok-sort_by.ensures.sorted _ weak (search (rules, answers_always)) in
    let stable = c.sort_by.ensures.stable _ weak (search (rules, answers_always)) in
    let one = arrangements_agree (on view move_cmp) (on_total view move_total) c.in_ok-rows.rows.items in
    ap (map view)
    (one.one c.sort_by.new.self.items
    (record { same_items = c.sort_by.ensures.permutation; ascends = sorted; ties_stay = stable }))
    ∙ map-ascending view move_cmp c.in_ok-rows.rows.items ∙ ap (ascending move_cmp) shows
