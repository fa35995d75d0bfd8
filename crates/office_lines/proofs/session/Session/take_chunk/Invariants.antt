use Rattle.std.proofs.Common.{◌+◌, ◌*◌, ◌^◌, ◌≤◌, take}
use Rattle.room_types.specs.Streams.{output_of}
use Rattle.room_types.specs.Watched.{StopsAtFailure}
use Rattle.office_lines.specs.Inner.Sessions.{Handled, state}
use Rattle.office_lines.proofs.session.Session.take_chunk.Given as goal

-- the bytes so far were handled
abbrev pub invariant-loop-byte : goal.invariant-loop-byte
invariant-loop-byte g l =
    let contents = g.W.Write.contents in
    record {
      handled : Handled g.H.Handler.handles
          (state l.fn.handler (output_of contents l.fn.output) l.fn.self)
          (state l.handler (output_of contents l.output) l.self) (take l.byte-index l.chunk);
      bound : l.self.sent ≤ l.fn.self.sent + l.byte-index * 2 ^ 64;
      stops : StopsAtFailure l.fn.output l.output;
      ready : g.H.Handler.is_ready l.handler;
    }
