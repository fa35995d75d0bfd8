use Rattle.std.proofs.Common.{◌≤◌, ◌*◌, ◌^◌}
use Rattle.trade_line.specs.Inner.State.{state_of}
use Rattle.trade_line.specs.Inner.Turn.{pending}
use Rattle.trade_line.specs.Inner.Run.{Underway}
use Rattle.trade_line.specs.Inner.Looks.{ReadSoFar}
use Rattle.trade_line.proofs.trade.run.Given as goal

abbrev pub invariant-loop-person : goal.invariant-loop-person
invariant-loop-person g l = record {
  underway : Underway l.problem (state_of (g.L.Line.people l.line) l.progress) l.asks;
  read : ReadSoFar l.problem (state_of (g.L.Line.people l.line) l.progress) l.cursors.items l.asks l.looks;
  few : l.looks ≤ l.asks * 2 ^ 63;
}

abbrev pub decreases-loop-person : goal.decreases-loop-person
decreases-loop-person g l = pending l.problem (state_of (g.L.Line.people l.line) l.progress)
