use Rattle.std.proofs.Common.{◌≡◌, ◌*◌, ◌^◌, ◌≤◌, length}
use Rattle.room_types.specs.Streams.{output_of}
use Rattle.room_types.specs.Watched.{watched_inner, watched_failed, watched_reads, watched_ended, StopsAtEnd}
use Rattle.room_types.specs.Watched.{StopsAtFailure}
use Rattle.office_lines.specs.Lines.{line_limit}
use Rattle.office_lines.specs.Inner.Sessions.{InputHandled, state}
use Rattle.office_lines.proofs.rehearse.handle_input.Given as goal

-- All bytes read so far were handled, and each read returned at least one.
abbrev pub invariant-reads : goal.invariant-reads
invariant-reads g l =
    let contents = g.W.Write.contents in
    let remaining = g.R.Read.remaining in
    record {
      handled : InputHandled g.H.Handler.handles
          (state l.fn.handler (output_of contents l.fn.output) l.fn.session)
          (state l.handler (output_of contents l.output) l.session)
          (remaining (watched_inner l.fn.input)) (remaining (watched_inner l.input));
      each : l.counter ≤ length handled.bytes;
      bound : l.session.sent ≤ l.counter * 2 ^ 76;
      count : watched_reads l.input ≡ l.counter;
      failed : watched_failed l.input ≡ watched_failed l.fn.input;
      ended : watched_ended l.input ≡ watched_ended l.fn.input;
      begun : length l.session.partial_line.items ≤ line_limit;
      no_wasted_read : StopsAtEnd l.fn.input l.input;
      no_wasted_write : StopsAtFailure l.fn.output l.output;
      ready : g.H.Handler.is_ready l.handler;
    }
