use Rattle.std.proofs.Common.{◌≡◌, ◌≤◌, ◌-◌, length}
use Rattle.std.specs.Io.KnownBytes.{Consumes}
use Rattle.room_types.specs.Watched.{StopsAtEnd, watched_ended, watched_failed, watched_inner, watched_reads}
use Rattle.office_cli.specs.Importing.{list_limit}
use Rattle.office_cli.specs.ListReads.{Reads}
use Rattle.office_cli.proofs.importing.read_bytes.Given as goal

-- All bytes read so far are stored, and each read returned at least one.
abbrev pub invariant-reads : goal.invariant-reads
invariant-reads g l =
    let remaining = g.R.Read.remaining in
    record {
      called : Reads g.R.Source.reads l.bytes.items (watched_inner l.fn.source) (watched_inner l.source);
      consumed : Consumes (remaining (watched_inner l.fn.source)) (remaining (watched_inner l.source)) l.bytes.items;
      bounded : length l.bytes.items ≤ list_limit;
      count : watched_reads l.source ≤ length l.bytes.items;
      failed : watched_failed l.source ≡ watched_failed l.fn.source;
      ended : watched_ended l.source ≡ watched_ended l.fn.source;
      no_wasted_read : StopsAtEnd l.fn.source l.source;
    }

abbrev pub decreases-reads : goal.decreases-reads
decreases-reads g l = list_limit - length l.bytes.items
