use Rattle.office_store.proofs.desks.Crashes.{leaves_after_request, leaves_nothing_once_closed}
use Rattle.office_store.proofs.laws.crash_leaves_before_or_after.Goals as goal

pub returns-clause-request : goal.returns-clause-request
returns-clause-request g c = leaves_after_request g.S.Store g.met.S.Store.settled

pub returns-clause-closed : goal.returns-clause-closed
returns-clause-closed g c = leaves_nothing_once_closed g.S.Store
