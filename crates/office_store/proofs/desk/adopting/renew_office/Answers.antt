use Rattle.office_db.proofs.found_offices.Versions.{same_some}
use Rattle.office_store.proofs.desk.adopting.renew_office.Goals as goal

pub returns-clause-stored : goal.returns-clause-stored
returns-clause-stored g c clean found lawful well_formed kind holds =
    let there = (rw c.in-Ok-Some.field-0-is at c.in-Ok-Some.ensures.found) clean found lawful well_formed kind holds in
    (same_some c.in-Ok-Some.office found there.0, there.1)
