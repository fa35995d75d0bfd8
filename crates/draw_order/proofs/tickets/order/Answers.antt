use Rattle.std.proofs.Common.{length, map, sym, ◌∙◌, subst, ap}
use Rattle.std.proofs.lemmas.Result.{IfOk-weaker}
use Rattle.std.proofs.lemmas.List.{nil_from_length}
use Rattle.std.proofs.lemmas.Bool.{eqb-true}
use Rattle.draw_order.specs.Draw.{IsDrawnOrder, drawn_order}
use Rattle.draw_order.proofs.draws.Orders.{drawn_by_sort, drawn_orders_agree}
use Rattle.draw_order.proofs.tickets.order.Goals as goal

pub returns-clause-drawn : goal.returns-clause-drawn
returns-clause-drawn c =
    let drawn =
    drawn_by_sort c.args.tickets.now _ _ c.in_ok-ascending.ensures c.sort_ascending.ensures.permuted
    c.sort_ascending.ensures.ascending in
    IfOk-weaker c.identifiers.result _ _
    (λ people listed. subst (λ ps. IsDrawnOrder c.args.tickets.now ps)
    (sym (listed ∙ ap (map (λ sort_key. sort_key.2.now)) c.deref.ensures.value)) drawn) c.identifiers.ensures

pub returns-clause-computed : goal.returns-clause-computed
returns-clause-computed c =
    IfOk-weaker c.identifiers.result _ _
    (λ people drawn. (drawn_orders_agree c.args.tickets.now).one people.items drawn) (returns-clause-drawn c)

pub returns-then-is_empty-clause-computed : goal.returns-then-is_empty-clause-computed
returns-then-is_empty-clause-computed c =
    let none =
    nil_from_length c.args.tickets.now
    (eqb-true (length c.args.tickets.now) 0 (sym c.is_empty.ensures ∙ c.if-is_empty.true)) in
    c.new.ensures.items ∙ ap drawn_order (sym none)

pub returns-then-is_empty-clause-drawn : goal.returns-then-is_empty-clause-drawn
returns-then-is_empty-clause-drawn c =
    subst (λ people. IsDrawnOrder c.args.tickets.now people)
    (sym (returns-then-is_empty-clause-computed c)) (drawn_orders_agree c.args.tickets.now).some
