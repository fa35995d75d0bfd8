use Rattle.std.proofs.Common.{length}
use Rattle.trade_line.specs.Inner.State.{state_of}
use Rattle.trade_line.specs.Inner.Loop.{Closing}
use Rattle.trade_line.proofs.trade.close_loop.Given as goal

abbrev pub invariant-loop-person : goal.invariant-loop-person
invariant-loop-person g l =
    Closing l.problem l.tenant l.room (state_of (g.L.Line.people l.fn.line) l.fn.progress)
    (state_of (g.L.Line.people l.line) l.progress) l.next

abbrev pub decreases-loop-person : goal.decreases-loop-person
decreases-loop-person g l = length (g.L.Line.people l.line)
