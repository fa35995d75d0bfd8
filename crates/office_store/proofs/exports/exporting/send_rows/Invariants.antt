use Rattle.std.proofs.Common.{◌≡◌, ◌≤◌, ◌+◌, ◌*◌, ◌^◌, false}
use Rattle.room_types.specs.Streams.{output_of}
use Rattle.room_types.specs.Watched.{StopsAtFailure, watched_failed, watched_flushes}
use Rattle.sqlite.specs.Held.{state}
use Rattle.sqlite.specs.State.{HasCleanDisk, Survives}
use Rattle.office_store.specs.exports.Stepping.{KeepsTables}
use Rattle.office_store.proofs.sent_rows.Stepping.{UnderWay}
use Rattle.office_store.proofs.exports.exporting.send_rows.Given as goal

-- The header and the records of the rows so far are written, the connection is as it was, and no write has failed.
abbrev pub invariant-loop : goal.invariant-loop
invariant-loop g l =
    let first = l.fn.rows.conn.now in
    let now = l.rows.conn.now in
    let contents = g.W.Write.contents in
    record {
      same : l.rows.conn.ghost_name ≡ l.fn.rows.conn.ghost_name;
      mode : first.in_transaction ≡ false → now.in_transaction ≡ false;
      survives : Survives (state g.S.Store first) (state g.S.Store now) (λ _. ⊥);
      keeps : HasCleanDisk (state g.S.Store now) → KeepsTables (state g.S.Store first) (state g.S.Store now);
      sent : UnderWay g.S.Store g.E.Exported.kind g.E.Exported.text g.E.Exported.fields first now l.sent
          (output_of contents l.fn.output) (output_of contents l.output);
      room : l.sent ≤ (l.counter + 1) * 2 ^ 64;
      failed : watched_failed l.output ≡ watched_failed l.fn.output;
      flushes : watched_flushes l.output ≡ watched_flushes l.fn.output;
      stops : StopsAtFailure l.fn.output l.output;
    }
