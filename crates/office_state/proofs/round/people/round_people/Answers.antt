use Rattle.std.proofs.Common.{ap, ◌∙◌}
use Rattle.std.proofs.lemmas.Result.{IfOk-weaker}
use Rattle.draw_order.specs.Draw.{drawn_order}
use Rattle.office_state.specs.Round.{round_people}
use Rattle.office_state.proofs.round.people.round_people.Goals as goal

pub returns-clause-people : goal.returns-clause-people
unfolding round_people
returns-clause-people c =
    IfOk-weaker c.order.result _ _
    (λ people is. is ∙ ap drawn_order (c.deref.ensures.value ∙ c.in_ok-tickets.ensures.tickets))
    c.order.ensures.computed
