use Rattle.std.proofs.Common.{inr}
use Rattle.sqlite.specs.Held.{state}
use Rattle.office_db.proofs.found_offices.Versions.{none_some}
use Rattle.office_migration.proofs.earlier.Causes.{none_without_version}
use Rattle.office_migration.proofs.migrating.earlier_version.Goals as goal

pub returns-in-Ok-None-clause-cause : goal.returns-in-Ok-None-clause-cause
returns-in-Ok-None-clause-cause g c clean first_tables =
    let start = state g.S.Store c.args.conn.now in
    inr (none_without_version start.now first_tables (λ version h.
    none_some version ((rw c.in-Ok-None.field-0-is at c.in-Ok-None.ensures.returned) clean first_tables version h)))

pub returns-in-Ok-None-clause-returned : goal.returns-in-Ok-None-clause-returned
returns-in-Ok-None-clause-returned g c clean first_tables version h =
    absurd (none_some version
    ((rw c.in-Ok-None.field-0-is at c.in-Ok-None.ensures.returned) clean first_tables version h))
