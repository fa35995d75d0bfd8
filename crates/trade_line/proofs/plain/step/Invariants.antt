use Rattle.trade_line.specs.Inner.Plain.{remains, Stepping}
use Rattle.trade_line.proofs.plain.step.Given as goal

abbrev pub invariant-loop-person : goal.invariant-loop-person
invariant-loop-person l =
    Stepping l.problem (remains l.stage) l.fn.given.items l.given.items l.next.people.items l.next.rooms.items l.person
