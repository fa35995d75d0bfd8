use Rattle.std.proofs.Common.{arith}
use Rattle.std.proofs.lemmas.Bool.Decides.{Decides-at}
use Rattle.office_state.proofs.sound_offices.InvariantTests.{as_well, short-decides}
use Rattle.office_state.proofs.soundness.imports.are_valid_imports.Goals as goal

pub returns : goal.returns
returns c =
    let lists = c.args.office.now.lists in
    as_well _
    (λ short. record {
      few = omega (arith, c.len.ensures, c.if-len-gt-LABEL_LIMIT.false);
      short = short.short;
      counted = short.counted;
    })
    (λ k. record { short = k.short; counted = k.counted })
    (Decides-at _ _ c.are_imports_short.ensures (short-decides lists))
