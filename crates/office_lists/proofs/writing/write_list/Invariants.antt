use Rattle.std.proofs.Common.{◌≡◌, ◌+◌}
use Rattle.room_types.specs.Streams.{output_of}
use Rattle.room_types.specs.Watched.{StopsAtFailure, watched_failed, watched_flushes}
use Rattle.office_lists.specs.Exports.{export}
use Rattle.office_lists.proofs.csv.Sending.{IsWritten}
use Rattle.office_lists.proofs.writing.write_list.Given as goal

-- the header and the records of the rows so far are written, and no write has failed
abbrev pub invariant-loop-row : goal.invariant-loop-row
invariant-loop-row g l =
    let contents = g.W.Write.contents in
    record {
      written : IsWritten (export l.fn.kind g.R.ExportRow.fields l.rows) (l.row-index + 1) l.sent
          (output_of contents l.fn.output) (output_of contents l.output);
      failed : watched_failed l.output ≡ watched_failed l.fn.output;
      flushes : watched_flushes l.output ≡ watched_flushes l.fn.output;
      stops : StopsAtFailure l.fn.output l.output;
    }
