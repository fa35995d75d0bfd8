use Rattle.std.proofs.Common.{◌≡◌, ◌∷◌, replicate, true}
use Rattle.std.specs.List.{range_with_len}
use Rattle.trade_line.proofs.linked_line.LinkedLineLine.whole.Given as goal

abbrev pub invariant-loop-person : goal.invariant-loop-person
invariant-loop-person l = record {
  next : l.next.items ≡ range_with_len 1 l.person;
  previous : l.previous.items ≡ l.count ∷ range_with_len 0 l.person;
  waits : l.waits.items ≡ replicate l.count true;
}
