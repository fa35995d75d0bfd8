use Rattle.std.proofs.Common.{◌≡◌, ◌+◌, find, drop}
use Rattle.trade_line.specs.Inner.Reads.{is_marked, reads, skipped}
use Rattle.trade_line.proofs.reading.read_on.Given as goal

abbrev pub invariant-loop-place : goal.invariant-loop-place
invariant-loop-place l = record {
  room : find (is_marked l.remaining) (drop l.from l.list) ≡ find (is_marked l.remaining) (drop l.place l.list);
  skips : l.from + skipped (is_marked l.remaining) (drop l.from l.list) ≡ l.place + skipped (is_marked l.remaining)
      (drop l.place l.list);
  looks : reads (is_marked l.remaining) (drop l.from l.list) ≡ l.looks + reads (is_marked l.remaining)
      (drop l.place l.list);
  counted : l.from + l.looks ≡ l.place;
}
