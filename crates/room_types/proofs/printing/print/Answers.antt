use Rattle.std.proofs.Common.{◌≡◌, ◌∙◌, length, take, inr, refl, arith}
use Rattle.std.proofs.lemmas.List.{take_all}
use Rattle.std.proofs.Math.Bool.{or-true}
use Rattle.room_types.proofs.watched_bytes.Streams.{Puts-kept}
use Rattle.room_types.proofs.printing.print.Goals as goal

pub returns-in-Err-flush-clause-prints : goal.returns-in-Err-flush-clause-prints
returns-in-Err-flush-clause-prints g c =
    let text = c.args.text.now in
    let whole : take (length text) text ≡ text = take_all (length text) text (omega arith) in
    let sent = rw c.as_bytes.ensures.value at c.in-Ok.ensures.sent in
    inr (
      refl,
      c.in-Err-flush.ensures.failed ∙ or-true _,
      length text,
      rw whole (Puts-kept _ _ _ _ sent c.in-Err-flush.ensures.bytes c.in-Err-flush.ensures.taken),
    )
