use Rattle.std.proofs.Common.{inl, inr, refl}
use Rattle.office_state.specs.Office.{empty_office}
use Rattle.office_cli.proofs.carrying_out.rehearse_anew.Goals as goal

pub returns-in-Ok-clause-rehearses : goal.returns-in-Ok-clause-rehearses
returns-in-Ok-clause-rehearses g c =
    let shown = c.rehearse_in_memory.ensures.lawful empty_office c.in-Ok.ensures.shows in
    inl (c.rehearse_in_memory.result.ending, shown.0, shown.1)

pub returns-in-Err-clause-rehearses : goal.returns-in-Err-clause-rehearses
returns-in-Err-clause-rehearses g c = inr (c.print_unavailable.ensures.prints, refl)
