-- The sort key of a ticket. Its parts are in the order in which they are compared: grade, word, identifier.
use Rattle.std.specs.Prelude.{ℕ}
use Rattle.std.specs.Borrow.{Bor}
use Rattle.room_types.specs.Texts.{Text}
use Rattle.draw_order.specs.Draw.{Ticket}

abbrev pub ticket_of : ℕ × ℕ × Bor Text → Ticket
ticket_of sort_key = (sort_key.2.now, sort_key.0, sort_key.1)
