use Rattle.std.proofs.Common.{sym, subst}
use Rattle.std.proofs.lemmas.Result.{IfOk-weaker}
use Rattle.sqlite.specs.Held.{state}
use Rattle.office_db.specs.loading.Versions.{IsOnly}
use Rattle.office_db.proofs.loaded.Listings.{some_weaker}
use Rattle.office_db.proofs.loaded.OnlyRows.{held_if_read, read_if_held}
use Rattle.office_db.proofs.loading.versions.version_held.Goals as goal

pub returns-clause-held : goal.returns-clause-held
returns-clause-held g c =
    IfOk-weaker c.version_in.result _ _ (λ found only clean has. some_weaker found _ _
    (λ version h. held_if_read (state g.S.Store c.args.conn.now).now _ version (c.in_ok-rows.ensures.shown clean has)
    (subst (λ rows. IsOnly rows version) c.as_slice.ensures.value h)) only)
    c.version_in.ensures.held

pub returns-clause-returned : goal.returns-clause-returned
returns-clause-returned g c =
    IfOk-weaker c.version_in.result _ _ (λ found returned clean has version holds. returned version
    (subst (λ rows. IsOnly rows version) (sym c.as_slice.ensures.value)
    (read_if_held (state g.S.Store c.args.conn.now).now _ version (c.in_ok-rows.ensures.shown clean has) holds)))
    c.version_in.ensures.returned
