use Rattle.sqlite.specs.Held.{state}
use Rattle.office_db.specs.loading.Finding.{HoldsVersion}
use Rattle.office_db.proofs.loaded.Listings.{some_weaker}
use Rattle.office_db.proofs.found_offices.Versions.{held_of}
use Rattle.office_db.proofs.loading.versions.other_version.Goals as goal

pub returns-clause-other : goal.returns-clause-other
returns-clause-other g c clean has =
    some_weaker c.unless_own.result _ _
    (λ version h. (
      held_of (HoldsVersion (state g.S.Store c.args.conn.now).now) c.in_ok-found.found version h.0
          (c.in_ok-found.ensures.held clean has),
      h.1,
    )) c.unless_own.ensures.other

pub returns-clause-returned : goal.returns-clause-returned
returns-clause-returned g c clean has version other =
    c.unless_own.ensures.returned version (c.in_ok-found.ensures.returned clean has version other.0) other.1
