use Rattle.std.proofs.Common.{◌≡◌, ◌≤◌}
use Rattle.trade_line.specs.Below.{count_below}
use Rattle.trade_line.specs.Inner.Plain.{remains}
use Rattle.trade_line.proofs.plain.count.Given as goal

abbrev pub invariant-loop-person : goal.invariant-loop-person
invariant-loop-person l = (l.count ≡ count_below l.person (remains l.stage).people) × (l.count ≤ l.person)
