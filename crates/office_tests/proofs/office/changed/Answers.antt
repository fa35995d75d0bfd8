use Rattle.std.proofs.Common.{◌∙◌, ap, sym, take}
use Rattle.office_state.specs.Change.{applied, applied_all}
use Rattle.office_state.proofs.offices.Apply.{applied_all-more}
use Rattle.office_tests.proofs.office.changed.Goals as goal

pub loop-change-preserved : goal.loop-change-preserved
loop-change-preserved c =
    c.in_ok-apply.ensures.ok
    ∙ ap (λ office. applied office c.change-item.result) c.loop-change.invariant
    ∙ ap (λ change. applied (applied_all c.args.office.now
    (take c.loop-change.change-index c.args.changes.now)) change) c.change-item.is
    ∙ sym (applied_all-more c.args.office.now c.args.changes.now c.loop-change.change-index
    c.change-item.result c.loop-change-test.true)
