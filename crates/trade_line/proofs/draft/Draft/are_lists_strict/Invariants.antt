use Rattle.trade_line.specs.Inner.Draft.{drafted}
use Rattle.trade_line.specs.Inner.Marks.{AreDistinct}
use Rattle.trade_line.proofs.draft.Draft.are_lists_strict.Given as goal

abbrev pub invariant-loop-person : goal.invariant-loop-person
invariant-loop-person l = AreDistinct (drafted l.self) l.last.items l.person
