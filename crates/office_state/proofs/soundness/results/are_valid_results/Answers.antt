use Rattle.std.proofs.Common.{sym, ap, ◌∙◌}
use Rattle.std.specs.Prelude.{eqb}
use Rattle.std.proofs.lemmas.Bool.Decides.{Decides-at}
use Rattle.std.proofs.lemmas.Bool.{both_ways}
use Rattle.office_state.proofs.sound_offices.InvariantTests.{as_well, empty-decides}
use Rattle.office_state.proofs.soundness.results.are_valid_results.Goals as goal

pub returns-then-not-has_results-clause-lawful : goal.returns-then-not-has_results-clause-lawful
returns-then-not-has_results-clause-lawful c =
    let before = sym c.has_results.ensures ∙ c.if-not-has_results.true in
    as_well _
    (λ none. record { none = λ _. none; given = λ after. absurd (both_ways _ before after) })
    (λ l. l.none before)
    (Decides-at (eqb c.len.result 0) _ (ap (λ n. eqb n 0) c.len.ensures) (empty-decides c.args.office.now.results))
