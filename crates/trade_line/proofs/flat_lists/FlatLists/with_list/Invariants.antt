use Rattle.std.proofs.Common.{take, set}
use Rattle.trade_line.specs.Inner.Flat.{AreFlat}
use Rattle.trade_line.proofs.flat_lists.FlatLists.with_list.Given as goal

abbrev pub invariant-loop-other : goal.invariant-loop-other
invariant-loop-other l = AreFlat l.entries.items l.starts.items (take l.other (set l.self l.person l.list))
