use Rattle.draw_order.proofs.draws.Orders.{drawn_orders_agree}
use Rattle.draw_order.proofs.tickets.one_drawn_order.Goals as goal

pub returns : goal.returns
returns c = drawn_orders_agree
