use Rattle.office_cli.proofs.done_lines.InFile.{migrated_in_file}
use Rattle.office_cli.proofs.in_file.migrate_in_file.Goals as goal

pub returns-clause-migrates : goal.returns-clause-migrates
returns-clause-migrates g c =
    let migrated = c.migrate_in-migrated.ensures in
    let closed = c.close.ensures in
    migrated_in_file _ _ _ _ _ c.migrate_in-migrated.result c.print_made-status.result _ _ migrated.shows migrated.cause
    c.print_made-status.ensures.prints closed.outside closed.closed closed.none
