use Rattle.std.proofs.Common.{[], not, refl, ap, ◌∙◌, codes}
use Rattle.sqlite.specs.Held.{state}
use Rattle.office_db.specs.loading.Versions.{only_version}
use Rattle.office_db.proofs.loaded.Listings.{shows_table}
use Rattle.office_db.proofs.loaded.VersionMeanings.{versions_asked, versions_listed}
use Rattle.office_db.proofs.found_offices.States.{asks_nothing_new, reads_shown, reads_failed, shown_is_open}
use Rattle.office_db.proofs.loading.versions.versions.Goals as goal

pub returns-in_err-rows-clause-reads : goal.returns-in_err-rows-clause-reads
returns-in_err-rows-clause-reads g c =
    reads_failed (codes "SELECT version FROM round") [] _ _ _ c.query_all.ensures.survives
    (asks_nothing_new (codes "SELECT version FROM round") [] _ _ versions_asked c.query_all.ensures.survives) _
    (c.is_autocommit-outside.ensures.settled (c.is_autocommit-outside.ensures.value ∙ ap not c.requires))
    c.in_err-rows.ensures.err

pub returns-clause-reads : goal.returns-clause-reads
returns-clause-reads g c =
    reads_shown (codes "SELECT version FROM round") [] _ _ c.query_all.ensures.survives _ versions_asked
    c.in_ok-rows.ensures.ok

pub returns-clause-shown : goal.returns-clause-shown
returns-clause-shown g c clean has =
    let schema = (state g.S.Store c.args.conn.now).now.schema in
    shows_table schema (codes "SELECT version FROM round") 6 only_version _ (versions_listed schema has)
    (state g.S.Store c.args.conn.now) _ _ refl (c.in_ok-rows.ensures.ok clean)

pub returns-clause-is_open : goal.returns-clause-is_open
returns-clause-is_open g c clean =
    shown_is_open (codes "SELECT version FROM round") [] _ _ c.in_ok-rows.rows.items (c.in_ok-rows.ensures.ok clean)
