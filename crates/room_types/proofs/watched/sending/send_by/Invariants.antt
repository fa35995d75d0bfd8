use Rattle.std.proofs.Common.{length, ◌-◌, ◌≡◌, ◌<◌, ◌≤◌, take, true}
use Rattle.std.specs.Io.KnownBytes.{Keeps}
use Rattle.room_types.specs.Sending.{Writes}
use Rattle.room_types.specs.Streams.{Puts, output_of}
use Rattle.room_types.specs.Watched.{StopsAtFailure, watched_ended, watched_failed, watched_flushes, watched_inner}
use Rattle.room_types.specs.Watched.{watched_pending, watched_reads}
use Rattle.room_types.proofs.watched.sending.send_by.Given as goal

-- the first `sent` bytes are written, and no write has failed
abbrev pub invariant-loop-sent : goal.invariant-loop-sent
invariant-loop-sent g l =
    let contents = g.M.Way.contents in
    let remaining = g.M.Way.remaining in
    record {
      within : l.sent ≤ length l.text;
      written : Puts (output_of contents l.fn.device) (output_of contents l.device) (take l.sent l.text);
      writes : Writes g.M.Way.writes l.text l.sent (watched_inner l.fn.device) (watched_inner l.device);
      flushes : watched_flushes l.device ≡ watched_flushes l.fn.device;
      pends : 0 < l.sent → watched_pending l.device ≡ true;
      failed : watched_failed l.device ≡ watched_failed l.fn.device;
      left : Keeps (remaining (watched_inner l.fn.device)) (remaining (watched_inner l.device));
      reads : watched_reads l.device ≡ watched_reads l.fn.device;
      ended : watched_ended l.device ≡ watched_ended l.fn.device;
      stops : StopsAtFailure l.fn.device l.device;
    }

abbrev pub decreases-loop-sent : goal.decreases-loop-sent
decreases-loop-sent g l = length l.text - l.sent
