use Rattle.std.proofs.Common.{◌≡◌, ◌+◌, ◌++◌, ◌∙◌, ℕ, ap, inr, take, length, arith, length-append, length-take}
use Rattle.std.proofs.lemmas.List.{take-append-le}
use Rattle.std.proofs.KnownBytes.{Consumes-trans}
use Rattle.std.proofs.lemmas.Grind.{common_steps}
use Rattle.office_cli.proofs.done_lines.ListReads.{one_more_read}
use Rattle.office_cli.proofs.importing.read_bytes.Goals as goal

-- Bytes had been read, the last of them by a read that returned some.
pub returns-in-Err-extend_from_slice-clause-cannot_read : goal.returns-in-Err-extend_from_slice-clause-cannot_read
returns-in-Err-extend_from_slice-clause-cannot_read g c =
    let held = c.reads.invariant in
    let read = c.in-Ok.ensures in
    let some = c.in-Ok.n-test.1 in
    let bytes = c.reads.bytes.items in
    let came = take c.in-Ok.n c.read.new.buf in
    let joined = length-append {A = ℕ} bytes came in
    let sized = read.bound.1 in
    let buffer : length c.read.new.buf ≡ length (take c.min-asked.result c.reads.chunk) = c.read.auto.buf in
    let room = length-take c.min-asked.result c.reads.chunk in
    let ended = read.ended in
    record {
      asked = omega arith;
      early = grind (arith, common_steps);
      cause = inr (
        bytes ++ came,
        omega arith,
        omega arith,
        one_more_read g.R.Source.reads bytes _ c.read.new.buf c.in-Ok.n _ _ _ held.called read.called (omega arith)
            (omega arith),
        Consumes-trans _ _ _ _ _ held.consumed read.bytes.0,
      );
    }

pub reads-preserved : goal.reads-preserved
reads-preserved g c =
    let held = c.reads.invariant in
    let read = c.in-Ok.ensures in
    let some = c.in-Ok.n-test.1 in
    let bytes = c.reads.bytes.items in
    let came = take c.in-Ok.n c.read.new.buf in
    let joined = length-append {A = ℕ} bytes came in
    let sized = read.bound.1 in
    let buffer : length c.read.new.buf ≡ length (take c.min-asked.result c.reads.chunk) = c.read.auto.buf in
    let room = length-take c.min-asked.result c.reads.chunk in
    let ended = read.ended in
    let failed = read.failed in
    let stored : c.extend_from_slice.new.self.items ≡ bytes ++ came =
    c.in-Ok-extend_from_slice.ensures.items
    ∙ ap (λ l. bytes ++ l) (take-append-le c.in-Ok.n c.read.new.buf _ (omega arith)) in
    let size : length c.extend_from_slice.new.self.items ≡ length bytes + length came = ap length stored ∙ joined in
    record {
      called = rw stored
          (one_more_read g.R.Source.reads bytes _ c.read.new.buf c.in-Ok.n _ _ _ held.called read.called (omega arith)
          (omega arith));
      consumed = rw stored (Consumes-trans _ _ _ _ _ held.consumed read.bytes.0);
      bounded = omega arith;
      count = omega arith;
      failed = grind (arith, common_steps);
      ended = grind (arith, common_steps);
      no_wasted_read = grind (arith, common_steps);
    }
