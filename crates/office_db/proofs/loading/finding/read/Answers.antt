use Rattle.std.proofs.Common.{◌≡◌, pos, rules, inr, sym, ap, ◌∙◌, subst, of_z, to_z, to_z-of_z, w64}
use Rattle.sqlite.specs.Effect.{Database}
use Rattle.sqlite.specs.Held.{state}
use Rattle.office_schema.specs.rows.Tables.{own_version}
use Rattle.office_schema.specs.tables.Layouts.{version_of}
use Rattle.office_schema.specs.tables.InLayout.{HoldsOfficeIn}
use Rattle.office_schema.proofs.statements.Steps.{intact_before}
use Rattle.office_db.specs.loading.Finding.{HoldsVersion, HoldsOtherVersion}
use Rattle.office_db.specs.declared.loading.finding.FindFault.TheVariants.{OtherVersion}
use Rattle.office_db.proofs.found_offices.Versions.{none_some, one_version, layout_states_version, same_some}
use Rattle.office_db.proofs.loaded.VersionMeanings.{same_begins_office}
use Rattle.office_db.proofs.loading.finding.read.Goals as goal

pub returns-in-Ok-Some-clause-found : goal.returns-in-Ok-Some-clause-found
returns-in-Ok-Some-clause-found g c clean own office lawful well_formed holds =
    let start = state g.S.Store c.args.conn.now in
    let layout = c.args.layout in
    let other =
    (rw c.in-Ok-Some.field-0-is at c.in-Ok-Some.ensures.other) clean
    (same_begins_office layout start.now.schema holds.schema) in
    let held = subst (λ n. HoldsVersion start.now (pos n)) own (layout_states_version layout start.now office holds) in
    absurd (other.1 (one_version start.now c.in-Ok-Some.version (pos own_version) other.0 held))

pub returns-in-Ok-Some-clause-cause : goal.returns-in-Ok-Some-clause-cause
returns-in-Ok-Some-clause-cause g c clean has =
    let start = state g.S.Store c.args.conn.now in
    let same : to_z w64 (of_z w64 c.in-Ok-Some.version) ≡ c.in-Ok-Some.version = to_z-of_z {w = w64} (search rules) in
    let other =
    (rw c.in-Ok-Some.field-0-is at c.in-Ok-Some.ensures.other) clean
    (same_begins_office c.args.layout start.now.schema has) in
    (same_begins_office c.args.layout start.now.schema has, subst (HoldsOtherVersion start.now) (sym same) other)

pub returns-then-version-ne3-clause-cause : goal.returns-then-version-ne3-clause-cause
returns-then-version-ne3-clause-cause g c clean has =
    let start = state g.S.Store c.args.conn.now in
    let layout = c.args.layout in
    let front = same_begins_office layout start.now.schema has in
    let returned = (rw c.in-Ok-None.field-0-is at c.in-Ok-None.ensures.returned) clean front in
    record {
      schema = has;
      version = λ version other. none_some version (returned version other);
      none = λ office lawful well_formed holds. none_some (pos (version_of layout))
          (returned (pos (version_of layout)) (
            layout_states_version layout start.now office holds,
            λ same. let own : version_of layout ≡ own_version = cc in c.if-version-ne3.true (c.version.ensures ∙ own),
          ));
    }

pub returns-in-Ok-None-held-clause-cause : goal.returns-in-Ok-None-held-clause-cause
returns-in-Ok-None-held-clause-cause g c clean has =
    let start = state g.S.Store c.args.conn.now in
    let layout = c.args.layout in
    let between =
    intact_before (state g.S.Store c.other_version.new.conn) (state g.S.Store c.held.new.conn)
    c.held.ensures.reads.keeps.follows (clean, c.in-Ok-None-held.ensures.is_open clean) in
    let same = c.other_version.ensures.reads.keeps.same between in
    let front = same_begins_office layout start.now.schema has in
    let returned = (rw c.in-Ok-None.field-0-is at c.in-Ok-None.ensures.returned) between.0 front in
    record {
      schema = has;
      version = λ version other. none_some version (returned version other);
      none = λ office lawful well_formed holds. none_some office
          ((rw c.in-Ok-None-held.field-0-is at c.in-Ok-None-held.ensures.found) clean office lawful well_formed
          (subst (λ (d : Database). HoldsOfficeIn layout d office) (sym same) holds));
    }

pub returns-in-Ok-Some-clause-other : goal.returns-in-Ok-Some-clause-other
returns-in-Ok-Some-clause-other g c clean version front other =
    let is = same_some c.in-Ok-Some.version version
    ((rw c.in-Ok-Some.field-0-is at c.in-Ok-Some.ensures.returned) clean front version other) in
    let same : to_z w64 (of_z w64 c.in-Ok-Some.version) ≡ c.in-Ok-Some.version = to_z-of_z {w = w64} (search rules) in
    inr (ap (λ v. OtherVersion v) (same ∙ is))

pub returns-then-version-ne3-clause-other : goal.returns-then-version-ne3-clause-other
returns-then-version-ne3-clause-other g c clean version front other =
    absurd (none_some version ((rw c.in-Ok-None.field-0-is at c.in-Ok-None.ensures.returned) clean front version other))

pub returns-in-Ok-None-held-clause-other : goal.returns-in-Ok-None-held-clause-other
returns-in-Ok-None-held-clause-other g c clean version front other =
    let before = c.held.ensures.reads.keeps.follows.clean clean in
    absurd (none_some version
    ((rw c.in-Ok-None.field-0-is at c.in-Ok-None.ensures.returned) before front version other))

pub returns-in-Ok-Some-held-clause-other : goal.returns-in-Ok-Some-held-clause-other
returns-in-Ok-Some-held-clause-other g c clean version front other =
    let before = c.held.ensures.reads.keeps.follows.clean clean in
    absurd (none_some version
    ((rw c.in-Ok-None.field-0-is at c.in-Ok-None.ensures.returned) before front version other))
