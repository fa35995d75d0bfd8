use Rattle.std.proofs.Common.{◌≡◌, None}
use Rattle.trade_line.specs.Below.{first_below}
use Rattle.trade_line.specs.Inner.Plain.{remains}
use Rattle.trade_line.proofs.plain.first.Given as goal

abbrev pub invariant-loop-person : goal.invariant-loop-person
invariant-loop-person l = first_below l.person (remains l.stage).people ≡ None
