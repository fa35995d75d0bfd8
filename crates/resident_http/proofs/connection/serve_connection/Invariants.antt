use Rattle.std.proofs.Common.{length, ◌-◌, ◌≡◌, ◌≤◌, take, false}
use Rattle.std.specs.Io.KnownBytes.{Consumes}
use Rattle.room_types.specs.Streams.{output_of}
use Rattle.room_types.specs.Watched.{StopsAtEnd, watched_ended, watched_failed, watched_inner, watched_reads}
use Rattle.resident_http.specs.Calls.{Reads}
use Rattle.resident_http.specs.Connections.{IsUntouched}
use Rattle.resident_http.proofs.connection.serve_connection.Given as goal

-- A prefix of the buffer was read from the stream, and nothing else was done.
abbrev pub invariant-reads : goal.invariant-reads
invariant-reads g l =
    let contents = g.T.Write.contents in
    let remaining = g.T.Read.remaining in
    record {
      size : length l.buffer ≡ 9216;
      within : l.filled ≤ 9216;
      called : Reads g.T.Stream (take l.filled l.buffer) (watched_inner l.fn.stream) (watched_inner l.stream);
      read : Consumes (remaining (watched_inner l.fn.stream)) (remaining (watched_inner l.stream))
          (take l.filled l.buffer);
      untouched : IsUntouched (output_of contents l.fn.stream) (output_of contents l.stream);
      reads : watched_reads l.stream ≤ l.filled;
      failed : watched_failed l.stream ≡ false;
      ended : watched_ended l.stream ≡ watched_ended l.fn.stream;
      no_wasted : StopsAtEnd l.fn.stream l.stream;
      same : l.handler ≡ l.fn.handler;
      ready : g.H.Handler.is_ready l.handler;
    }

abbrev pub decreases-reads : goal.decreases-reads
decreases-reads g l = 9216 - l.filled
