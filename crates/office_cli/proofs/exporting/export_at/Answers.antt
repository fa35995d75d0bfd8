use Rattle.std.proofs.Common.{◌∙◌, inl, inr, refl}
use Rattle.std.proofs.Math.Bool.{or-true}
use Rattle.office_cli.proofs.done_lines.AtDesk.{ends_early, Prints-unflushed}
use Rattle.office_cli.proofs.exporting.export_at.Goals as goal

pub returns-in-Err-flush-clause-exports : goal.returns-in-Err-flush-clause-exports
returns-in-Err-flush-clause-exports g c =
    let sent = c.in-Ok.ensures in
    let flush = c.in-Err-flush.ensures in
    let formed = sent.formed in
    record {
      reads = sent.reads;
      written = inl (formed.0, Prints-unflushed _ _ _ _ formed.1 flush.bytes flush.taken (flush.failed ∙ or-true _));
      done = λ clean office represents. (
        inl (Prints-unflushed _ _ _ _ (sent.whole clean office represents) flush.bytes flush.taken
            (flush.failed ∙ or-true _)),
        sent.same clean office represents,
      );
    }

pub returns-in-Err-clause-exports : goal.returns-in-Err-clause-exports
returns-in-Err-clause-exports g c =
    let end = c.in-Err.ensures in
    record {
      reads = end.reads;
      written = inr (refl, end.flushes, c.in-Err._end, end.counted, end.between, end.failed);
      done = λ clean office represents. (
        inr (
          refl,
          end.flushes,
          ends_early _ c.in-Err._end _ _ (end.prefix clean office represents)
              (end.short clean office represents) end.failed,
        ),
        end.same clean office represents,
      );
    }
