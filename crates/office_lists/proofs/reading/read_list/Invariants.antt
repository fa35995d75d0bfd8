use Rattle.std.proofs.Common.{◌<◌}
use Rattle.office_lists.proofs.csv.Records.{IsReadTo}
use Rattle.office_lists.proofs.reading.read_list.Given as goal

-- the records so far are read and good, and the reader's iterator has turns left
abbrev pub invariant-loop-row : goal.invariant-loop-row
invariant-loop-row g l = IsReadTo g.E.ListEntry.form l.bytes l.entries.items l.row-iterator.rdr
    × (0 < l.row-iterator.left)
