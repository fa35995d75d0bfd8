use Rattle.std.proofs.Common.{sym, ◌∙◌}
use Rattle.std.proofs.lemmas.Bool.Decides.{Decides-at}
use Rattle.std.proofs.lemmas.Bool.{both_ways}
use Rattle.office_state.proofs.sound_offices.InvariantTests.{never, as_well, rounds_over-decides}
use Rattle.office_state.proofs.sound_offices.InvariantTests.{rounds_recorded-decides}
use Rattle.office_state.proofs.soundness.moves.are_valid_moves.Goals as goal

pub returns-then-not-are_rounds_over : goal.returns-then-not-are_rounds_over
returns-then-not-are_rounds_over c =
    never (λ l. both_ways _ (sym c.are_rounds_over.ensures ∙ c.if-not-are_rounds_over.true)
    ((rounds_over-decides c.args.office.now).1 l.over))

pub returns : goal.returns
returns c =
    let office = c.args.office.now in
    as_well _
    (λ kept. record {
      over = (rounds_over-decides office).0 (sym c.are_rounds_over.ensures ∙ c.if-not-are_rounds_over.false);
      none_empty = kept.none_empty;
      arrived = kept.arrived;
    })
    (λ l. record { none_empty = l.none_empty; arrived = l.arrived })
    (Decides-at _ _ c.are_rounds_recorded.ensures (rounds_recorded-decides office))
