use Rattle.std.proofs.Common.{sym, ap, subst, ◌∙◌}
use Rattle.std.specs.Prelude.{eqb}
use Rattle.std.proofs.lemmas.Bool.Decides.{Decides-at}
use Rattle.office_state.specs.Office.Invariants.{AreValidLeavers}
use Rattle.office_state.proofs.offices.Empty.{no_leavers}
use Rattle.office_state.proofs.sound_offices.GradeTests.{leavers-decide}
use Rattle.office_state.proofs.sound_offices.InvariantTests.{as_well, empty-decides}
use Rattle.office_state.proofs.soundness.leavers.are_valid_leavers.Goals as goal

pub returns-then-is_idle : goal.returns-then-is_idle
returns-then-is_idle c =
    let office = c.args.office.now in
    as_well _
    (λ none. subst (λ going. AreValidLeavers office.phase office.people office.withdrawn going) (sym none)
    (no_leavers office.phase office.people office.withdrawn))
    (λ l. l.idle_going (sym c.is_idle.ensures ∙ c.if-is_idle.true))
    (Decides-at (eqb c.len.result 0) _ (ap (λ n. eqb n 0) c.len.ensures) (empty-decides office.going))

pub returns : goal.returns
returns c =
    let office = c.args.office.now in
    Decides-at _ _ c.are_leavers_eligible.ensures
    (leavers-decide office.phase office.people office.withdrawn office.going
    (sym c.is_idle.ensures ∙ c.if-is_idle.false))
