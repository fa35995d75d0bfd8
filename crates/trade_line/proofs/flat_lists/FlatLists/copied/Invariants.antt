use Rattle.std.proofs.Common.{map, take}
use Rattle.trade_line.specs.Inner.Flat.{AreFlat}
use Rattle.trade_line.proofs.flat_lists.FlatLists.copied.Given as goal

abbrev pub invariant-loop-list : goal.invariant-loop-list
invariant-loop-list l = AreFlat l.entries.items l.starts.items (take l.list-index (map (λ list. list.items) l.lists))
