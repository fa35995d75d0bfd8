use Rattle.std.proofs.Common.{sym, subst}
use Rattle.office_schema.specs.rows.ReadsOffice.{AreRecordsOf}
use Rattle.office_schema.specs.rows.Tables.{rows_at}
use Rattle.office_schema.specs.tables.Layouts.{version_of}
use Rattle.office_db.proofs.loaded.Listings.{some_weaker}
use Rattle.office_db.proofs.loading.reading.load.Goals as goal

pub returns-in_default-clause-found : goal.returns-in_default-clause-found
returns-in_default-clause-found g c clean office lawful well_formed holds =
    absurd (rw c.in_default.is at c.in_ok-records.ensures.found clean (rows_at (version_of c.args.layout) office)
    holds well_formed)

pub returns-in-Ok-clause-found : goal.returns-in-Ok-clause-found
returns-in-Ok-clause-found g c clean office lawful well_formed holds =
    let are =
    rw c.in-Some.is at c.in_ok-records.ensures.found clean (rows_at (version_of c.args.layout) office) holds
    well_formed in
    c.in-Ok.ensures.reads.only office lawful
    (subst (λ n. AreRecordsOf (rows_at n office) c.in-Some.records) (sym c.version.ensures) are)

pub returns-in_default-clause-first : goal.returns-in_default-clause-first
returns-in_default-clause-first g c clean office lawful well_formed holds =
    absurd (rw c.in_default.is at c.in_ok-records.ensures.first clean (rows_at (version_of c.args.layout) office)
    holds well_formed)

pub returns-in-Ok-clause-first : goal.returns-in-Ok-clause-first
returns-in-Ok-clause-first g c clean office lawful well_formed holds =
    let are =
    rw c.in-Some.is at c.in_ok-records.ensures.first clean (rows_at (version_of c.args.layout) office) holds
    well_formed in
    c.in-Ok.ensures.reads.only office lawful
    (subst (λ n. AreRecordsOf (rows_at n office) c.in-Some.records) (sym c.version.ensures) are)

pub returns-in-Ok-clause-shown : goal.returns-in-Ok-clause-shown
returns-in-Ok-clause-shown g c clean has =
    let shown = rw c.in-Some.is at c.in_ok-records.ensures.shown clean has in
    some_weaker c.in-Ok.found _ _
    (λ office returned. shown (rows_at (version_of c.args.layout) office)
    (subst (λ n. AreRecordsOf (rows_at n office) c.in-Some.records) c.version.ensures returned.1))
    c.in-Ok.ensures.reads.returned
