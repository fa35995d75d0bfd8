use Rattle.std.proofs.Common.{sym, ◌∙◌}
use Rattle.std.proofs.lemmas.Bool.{both_ways}
use Rattle.office_state.proofs.sound_offices.InvariantTests.{never, results-sound, results-first, results-second}
use Rattle.office_state.proofs.soundness.results.are_same.Goals as goal

pub returns-then-not-are_given : goal.returns-then-not-are_given
returns-then-not-are_given c =
    never (λ same. both_ways _ (sym c.are_given.ensures ∙ c.if-not-are_given.true)
    (results-first c.args.found.now c.args.given.now same))

pub returns : goal.returns
returns c =
    let found = c.args.found.now in
    let given = c.args.given.now in (
      λ e. results-sound found given (sym c.are_given.ensures ∙ c.if-not-are_given.false)
          (sym c.are_results_found.ensures ∙ e),
      λ same. c.are_results_found.ensures ∙ results-second found given same,
    )
