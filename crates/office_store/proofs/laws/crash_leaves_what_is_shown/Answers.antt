use Rattle.office_store.proofs.desks.Crashes.{leaves_what_is_shown}
use Rattle.office_store.proofs.laws.crash_leaves_what_is_shown.Goals as goal

pub returns : goal.returns
returns g c = leaves_what_is_shown g.S.Store g.met.S.Store.settled
