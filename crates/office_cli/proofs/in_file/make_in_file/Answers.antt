use Rattle.office_cli.proofs.done_lines.InFile.{made_in_file}
use Rattle.office_cli.proofs.in_file.make_in_file.Goals as goal

pub returns-clause-makes : goal.returns-clause-makes
returns-clause-makes g c =
    let made = c.create_in-made.ensures in
    let closed = c.close.ensures in
    made_in_file _ _ _ _ _ c.create_in-made.result c.print_made-status.result _ _ made.shows made.blank made.cause
    c.print_made-status.ensures.prints closed.outside closed.closed closed.none
