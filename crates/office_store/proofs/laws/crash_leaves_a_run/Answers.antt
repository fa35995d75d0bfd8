use Rattle.office_store.proofs.desks.Crashes.{leaves_after_run}
use Rattle.office_store.proofs.laws.crash_leaves_a_run.Goals as goal

pub returns : goal.returns
returns g c = leaves_after_run g.S.Store g.met.S.Store.settled
