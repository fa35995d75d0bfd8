use Rattle.std.proofs.Common.{inr, refl}
use Rattle.office_cli.proofs.importing.import_list.Goals as goal

pub returns-in-Err-clause-imports : goal.returns-in-Err-clause-imports
returns-in-Err-clause-imports g c = inr (refl, c.in-Err.ensures.cannot_read, c.print_unavailable.ensures.prints)
