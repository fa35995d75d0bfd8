use Rattle.trade_line.specs.Inner.Marks.{Marked}
use Rattle.trade_line.proofs.draft.is_distinct.Given as goal

abbrev pub invariant-loop-room : goal.invariant-loop-room
invariant-loop-room l = Marked l.list l.fn.last l.last l.person l.room-index
