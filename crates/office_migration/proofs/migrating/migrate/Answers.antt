use Rattle.std.proofs.Common.{◌≡◌, true, false, true≢false, pos, sym, ap, ap₂, ◌∙◌, subst, inl, inr}
use Rattle.std.proofs.lemmas.Result.{err_from_is_err_and}
use Rattle.sqlite.specs.Effect.{Database}
use Rattle.sqlite.specs.Held.{state}
use Rattle.office_schema.specs.cells.WellFormed.{IsWellFormed}
use Rattle.office_schema.specs.rows.Tables.{rows_at}
use Rattle.office_schema.specs.tables.Layouts.{version_of}
use Rattle.office_schema.specs.tables.InLayout.{HoldsOfficeIn}
use Rattle.office_schema.proofs.statements.Steps.{intact_before}
use Rattle.office_db.specs.loading.Finding.{AreWhole, HoldsVersion, names_round}
use Rattle.office_schema.specs.tables.FirstTables.{BeginsOffice}
use Rattle.office_db.specs.loading.Numbers.{IsLaidOut}
use Rattle.office_db.proofs.found_offices.Finding.{same_layout}
use Rattle.office_db.proofs.found_offices.Versions.{none_some, own_round}
use Rattle.office_db.proofs.found_offices.Versions.{layout_states_version, same_some}
use Rattle.office_db.proofs.loaded.VersionMeanings.{same_begins_office}
use Rattle.office_db.proofs.loaded.WholeRows.{laid_if_sound}
use Rattle.office_migration.specs.Causes.{AreEarlierRows, AreNoEarlierRows, BeginsAt, HoldsEarlier, IsVersionFault}
use Rattle.office_migration.specs.Causes.{HoldsEarlierFirst}
use Rattle.office_migration.specs.declared.migrating.MigrateFault.TheVariants.{AlreadyThere}
use Rattle.office_migration.specs.Names.{uses_missing_name, takes_name}
use Rattle.office_migration.specs.Versions.{IsEarlier, IsOfVersion}
use Rattle.office_migration.proofs.earlier.Causes.{none_in_layout, none_of_other, only_unavailable}
use Rattle.office_migration.proofs.earlier.Causes.{declared_then, declares_then, name_allowed, name_cause}
use Rattle.office_migration.proofs.earlier.Causes.{none_declared}
use Rattle.office_migration.proofs.earlier.Causes.{pos_injective, takes_none}
use Rattle.office_migration.proofs.earlier.Causes.{first_states_version, takes_used}
use Rattle.office_migration.proofs.earlier.Committed.{migrated_once}
use Rattle.office_migration.proofs.earlier.First.{declares_first, declares_laid, layout_begins_office}
use Rattle.office_db.proofs.found_offices.LayoutTests.{office_names_round}
use Rattle.office_migration.proofs.migrating.migrate.Goals as goal

pub returns-then-not-names_round-clause-accepts :
    goal.returns-then-not-names_round-clause-accepts
returns-then-not-names_round-clause-accepts g c clean layout office h =
    absurd (true≢false (sym (own_round layout) ∙ ap names_round (sym h.rows.schema)
    ∙ ap names_round (sym c.schema.ensures.value) ∙ sym c.names_round.ensures ∙ c.if-not-names_round.true))

pub returns-then-not-names_round-clause-other :
    goal.returns-then-not-names_round-clause-other
returns-then-not-names_round-clause-other g c clean version states later =
    let start = state g.S.Store c.args.conn.now in
    absurd (true≢false (sym (office_names_round start.now.schema states.0) ∙ ap names_round (sym c.schema.ensures.value)
    ∙ sym c.names_round.ensures ∙ c.if-not-names_round.true))

pub returns-in_err-version-clause-cause : goal.returns-in_err-version-clause-cause
returns-in_err-version-clause-cause g c =
    let p = err_from_is_err_and c.from_residual.result c.from_residual.ensures.1 in
    let first_tables =
    subst BeginsOffice c.schema-2.ensures.value (c.begins_office.ensures.0 c.if-not-begins_office.false) in
    rw (p.1, p.2) (λ clean. c.in_err-version.ensures.cause clean first_tables)

pub returns-in_err-version-clause-accepts : goal.returns-in_err-version-clause-accepts
returns-in_err-version-clause-accepts g c clean layout office h =
    let start = state g.S.Store c.args.conn.now in
    let p = err_from_is_err_and c.from_residual.result c.from_residual.ensures.1 in
    let first_tables = same_begins_office layout start.now.schema h.rows.schema in
    let returned = c.in_err-version.ensures.returned clean first_tables (pos (version_of layout))
    (layout_states_version layout start.now office h.rows) in
    rw (p.1, p.2) (only_unavailable
    (version_of layout) c.in_err-version.field-0.0 h.earlier c.in_err-version.ensures.number returned)

pub returns-in_err-version-clause-other : goal.returns-in_err-version-clause-other
returns-in_err-version-clause-other g c clean version states later =
    let p = err_from_is_err_and c.from_residual.result c.from_residual.ensures.1 in
    rw (p.1, p.2) (c.in_err-version.ensures.returned clean states.0 version states.1)

pub returns-then-takes_name-clause-accepts : goal.returns-then-takes_name-clause-accepts
returns-then-takes_name-clause-accepts g c clean layout office h =
    let start = state g.S.Store c.args.conn.now in
    let clean_one = c.refused_for_name.ensures.reads.keeps.follows.clean clean in
    let first_tables = same_begins_office layout start.now.schema h.rows.schema in
    let version = pos_injective _ _
    (c.in_ok-version.ensures.returned clean_one first_tables (pos (version_of layout))
    (layout_states_version layout start.now office h.rows)) in
    let free = takes_none layout c.schema-3.result.now _ _ c.in_ok-version.version h.earlier
    (c.schema-3.ensures.value ∙ h.rows.schema) c.of-declared.ensures.grade c.of-declared.ensures.going version in
    absurd (true≢false (sym c.if-takes_name.true ∙ c.takes_name.ensures ∙ free))

pub returns-then-version-clause-cause : goal.returns-then-version-clause-cause
returns-then-version-clause-cause g c clean =
    let start = state g.S.Store c.args.conn.now in
    let first_tables =
    subst BeginsOffice c.schema-2.ensures.value (c.begins_office.ensures.0 c.if-not-begins_office.false) in
    let has = sym c.schema-3.ensures.value ∙ (rw c.in-Some.is at c.of-declared.ensures.laid) in
    let free = subst (λ s. uses_missing_name c.in_ok-version.version s ≡ false) c.schema-3.ensures.value
    (ap₂ (λ g n. takes_name g n c.in_ok-version.version)
    (sym c.of-declared.ensures.grade) (sym c.of-declared.ensures.going)
    ∙ sym c.takes_name.ensures ∙ c.if-takes_name.false) in
    inr (none_of_other start.now first_tables c.in_ok-version.version c.in_ok-version.ensures.earlier
    (c.in_ok-version.ensures.held clean first_tables) c.in-Some.layout has free
    (λ same. c.if-version.true (c.version.ensures ∙ same)))

pub returns-then-version-clause-accepts : goal.returns-then-version-clause-accepts
returns-then-version-clause-accepts g c clean layout office h =
    let start = state g.S.Store c.args.conn.now in
    let first_tables = same_begins_office layout start.now.schema h.rows.schema in
    let version = pos_injective _ _
    (c.in_ok-version.ensures.returned clean first_tables (pos (version_of layout))
    (layout_states_version layout start.now office h.rows)) in
    let laid = sym c.schema-3.ensures.value ∙ (rw c.in-Some.is at c.of-declared.ensures.laid) in
    let same = same_layout layout c.in-Some.layout start.now.schema h.rows.schema laid in
    absurd (c.if-version.true (c.version.ensures ∙ ap version_of same ∙ version))

pub returns-in-Ok-Some-clause-migrated : goal.returns-in-Ok-Some-clause-migrated
returns-in-Ok-Some-clause-migrated g c clean layout is wide =
    let start = state g.S.Store c.args.conn.now in
    let one = state g.S.Store c.earlier_version.new.conn in
    let two = state g.S.Store c.renewed_office.new.conn in
    let at_one = intact_before one two c.renewed_office.ensures.follows
    (clean, c.in-Ok-Some.ensures.is_open clean) in
    let same = c.earlier_version.ensures.reads.keeps.same at_one in
    let found = c.in-Some.layout in
    let office = c.in-Ok-Some.office in
    let laid = sym c.schema-3.ensures.value ∙ (rw c.in-Some.is at c.of-declared.ensures.laid) in
    let layouts = same_layout layout found start.now.schema is laid in
    let sound =
    (c.schema-3.ensures.live (c.earlier_version.ensures.reads.keeps.follows.was_open at_one.0 at_one.1)).0 in
    let whole = laid_if_sound found start.now sound laid (subst (λ l. AreWhole l start.now.trees) (sym layouts) wide) in
    let here = subst (λ (d : Database). IsLaidOut found d) (sym same) whole in
    let done = (rw c.in-Ok-Some.field-0-is at c.in-Ok-Some.ensures.renewed) clean here in
    let kind = rw c.in-Ok-Some.field-0-is at c.in-Ok-Some.ensures.kind in
    let held = subst (λ (d : Database). HoldsOfficeIn found d office) same done.0 in (
      subst (λ l. IsOfVersion (version_of l) office) layouts kind,
      subst (λ l. HoldsOfficeIn l start.now office) layouts held,
      subst (λ l. IsWellFormed (rows_at (version_of l) office)) layouts done.1,
      done.2,
    )

pub returns-in-Ok-Some-clause-stated : goal.returns-in-Ok-Some-clause-stated
returns-in-Ok-Some-clause-stated g c clean layout is =
    let start = state g.S.Store c.args.conn.now in
    let one = state g.S.Store c.earlier_version.new.conn in
    let two = state g.S.Store c.renewed_office.new.conn in
    let at_one = intact_before one two c.renewed_office.ensures.follows
    (clean, c.in-Ok-Some.ensures.is_open clean) in
    let laid = sym c.schema-3.ensures.value ∙ (rw c.in-Some.is at c.of-declared.ensures.laid) in
    let same = ap version_of (same_layout layout c.in-Some.layout start.now.schema is laid) in
    let first_tables =
    subst BeginsOffice c.schema-2.ensures.value (c.begins_office.ensures.0 c.if-not-begins_office.false) in
    let version : version_of c.in-Some.layout ≡ c.in_ok-version.version = cc in
    subst (λ v. HoldsVersion start.now (pos v)) (sym version ∙ same)
    (c.in_ok-version.ensures.held at_one.0 first_tables)

pub returns-in-Ok-Some-clause-accepts : goal.returns-in-Ok-Some-clause-accepts
returns-in-Ok-Some-clause-accepts g c clean layout office h =
    let start = state g.S.Store c.args.conn.now in
    let one = state g.S.Store c.earlier_version.new.conn in
    let two = state g.S.Store c.renewed_office.new.conn in
    let at_one = intact_before one two c.renewed_office.ensures.follows
    (clean, c.in-Ok-Some.ensures.is_open clean) in
    let same = c.earlier_version.ensures.reads.keeps.same at_one in
    let laid = sym c.schema-3.ensures.value ∙ (rw c.in-Some.is at c.of-declared.ensures.laid) in
    let layouts = same_layout layout c.in-Some.layout start.now.schema h.rows.schema laid in
    let here = subst (λ l. HoldsEarlier l one.now office) (sym layouts)
    (subst (λ (d : Database). HoldsEarlier layout d office) (sym same) h) in
    let done = (rw c.in-Ok-Some.field-0-is at c.in-Ok-Some.ensures.found)
    clean office here.lawful here.well_formed here.kind here.rows in
    (same_some c.in-Ok-Some.office office done.0, done.1)

pub returns-in-Ok-None-clause-cause : goal.returns-in-Ok-None-clause-cause
returns-in-Ok-None-clause-cause g c clean =
    let start = state g.S.Store c.args.conn.now in
    let one = state g.S.Store c.earlier_version.new.conn in
    let two = state g.S.Store c.renewed_office.new.conn in
    let at_one = intact_before one two c.renewed_office.ensures.follows
    (clean, c.in-Ok-None.ensures.is_open clean) in
    let same = c.earlier_version.ensures.reads.keeps.same at_one in
    let first_tables =
    subst BeginsOffice c.schema-2.ensures.value (c.begins_office.ensures.0 c.if-not-begins_office.false) in
    let has = sym c.schema-3.ensures.value ∙ (rw c.in-Some.is at c.of-declared.ensures.laid) in
    let free = subst (λ s. uses_missing_name c.in_ok-version.version s ≡ false) c.schema-3.ensures.value
    (ap₂ (λ g n. takes_name g n c.in_ok-version.version)
    (sym c.of-declared.ensures.grade) (sym c.of-declared.ensures.going)
    ∙ sym c.takes_name.ensures ∙ c.if-takes_name.false) in
    inr (none_in_layout start.now first_tables c.in_ok-version.version c.in_ok-version.ensures.earlier
    (c.in_ok-version.ensures.held at_one.0 first_tables) c.in-Some.layout has free (λ office h.
    let here = subst (λ (d : Database). HoldsEarlier c.in-Some.layout d office) (sym same) h in
    none_some office
    ((rw c.in-Ok-None.field-0-is at c.in-Ok-None.ensures.found) clean office here.lawful here.well_formed here.kind
    here.rows).0))

pub returns-in-Ok-None-clause-accepts : goal.returns-in-Ok-None-clause-accepts
returns-in-Ok-None-clause-accepts g c clean layout office h =
    let start = state g.S.Store c.args.conn.now in
    let one = state g.S.Store c.earlier_version.new.conn in
    let two = state g.S.Store c.renewed_office.new.conn in
    let at_one = intact_before one two c.renewed_office.ensures.follows
    (clean, c.in-Ok-None.ensures.is_open clean) in
    let same = c.earlier_version.ensures.reads.keeps.same at_one in
    let laid = sym c.schema-3.ensures.value ∙ (rw c.in-Some.is at c.of-declared.ensures.laid) in
    let layouts = same_layout layout c.in-Some.layout start.now.schema h.rows.schema laid in
    let here = subst (λ l. HoldsEarlier l one.now office) (sym layouts)
    (subst (λ (d : Database). HoldsEarlier layout d office) (sym same) h) in
    absurd (none_some office
    ((rw c.in-Ok-None.field-0-is at c.in-Ok-None.ensures.found) clean office here.lawful here.well_formed here.kind
    here.rows).0)

pub returns-then-not-names_round-clause-taken :
    goal.returns-then-not-names_round-clause-taken
returns-then-not-names_round-clause-taken g c clean layout office h used =
    let start = state g.S.Store c.args.conn.now in
    absurd (true≢false (sym (office_names_round start.now.schema h.first_tables)
    ∙ ap names_round (sym c.schema.ensures.value) ∙ sym c.names_round.ensures ∙ c.if-not-names_round.true))

pub returns-in_err-version-clause-taken : goal.returns-in_err-version-clause-taken
returns-in_err-version-clause-taken g c clean layout office h used =
    let start = state g.S.Store c.args.conn.now in
    let p = err_from_is_err_and c.from_residual.result c.from_residual.ensures.1 in
    let returned = c.in_err-version.ensures.returned clean h.first_tables (pos (version_of layout))
    (first_states_version layout start.now office h) in
    rw (p.1, p.2) (inl (only_unavailable
    (version_of layout) c.in_err-version.field-0.0 h.earlier c.in_err-version.ensures.number returned))

pub returns-then-version-clause-taken : goal.returns-then-version-clause-taken
returns-then-version-clause-taken g c clean layout office h used =
    let start = state g.S.Store c.args.conn.now in
    let version = pos_injective _ _
    (c.in_ok-version.ensures.returned clean h.first_tables (pos (version_of layout))
    (first_states_version layout start.now office h)) in
    let here = subst (λ s. uses_missing_name (version_of layout) s ≡ true) (sym c.schema-3.ensures.value) used in
    let takes = takes_used c.schema-3.result.now _ _ c.in_ok-version.version
    (version_of layout) c.of-declared.ensures.grade c.of-declared.ensures.going version here in
    absurd (true≢false (sym takes ∙ sym c.takes_name.ensures ∙ c.if-takes_name.false))

pub returns-in-Ok-Some-clause-taken : goal.returns-in-Ok-Some-clause-taken
returns-in-Ok-Some-clause-taken g c clean layout office h used =
    let start = state g.S.Store c.args.conn.now in
    let one = state g.S.Store c.earlier_version.new.conn in
    let two = state g.S.Store c.renewed_office.new.conn in
    let at_one = intact_before one two c.renewed_office.ensures.follows
    (clean, c.in-Ok-Some.ensures.is_open clean) in
    let version = pos_injective _ _
    (c.in_ok-version.ensures.returned at_one.0 h.first_tables (pos (version_of layout))
    (first_states_version layout start.now office h)) in
    let here = subst (λ s. uses_missing_name (version_of layout) s ≡ true) (sym c.schema-3.ensures.value) used in
    let takes = takes_used c.schema-3.result.now _ _ c.in_ok-version.version
    (version_of layout) c.of-declared.ensures.grade c.of-declared.ensures.going version here in
    absurd (true≢false (sym takes ∙ sym c.takes_name.ensures ∙ c.if-takes_name.false))

pub returns-in-Ok-None-clause-taken : goal.returns-in-Ok-None-clause-taken
returns-in-Ok-None-clause-taken g c clean layout office h used =
    let start = state g.S.Store c.args.conn.now in
    let one = state g.S.Store c.earlier_version.new.conn in
    let two = state g.S.Store c.renewed_office.new.conn in
    let at_one = intact_before one two c.renewed_office.ensures.follows
    (clean, c.in-Ok-None.ensures.is_open clean) in
    let version = pos_injective _ _
    (c.in_ok-version.ensures.returned at_one.0 h.first_tables (pos (version_of layout))
    (first_states_version layout start.now office h)) in
    let here = subst (λ s. uses_missing_name (version_of layout) s ≡ true) (sym c.schema-3.ensures.value) used in
    let takes = takes_used c.schema-3.result.now _ _ c.in_ok-version.version
    (version_of layout) c.of-declared.ensures.grade c.of-declared.ensures.going version here in
    absurd (true≢false (sym takes ∙ sym c.takes_name.ensures ∙ c.if-takes_name.false))

-- ---- where a table of the version is absent or declared in another way

pub returns-then-not-has_tables-clause-cause : goal.returns-then-not-has_tables-clause-cause
returns-then-not-has_tables-clause-cause g c clean =
    let start = state g.S.Store c.args.conn.now in
    let first_tables =
    subst BeginsOffice c.schema-2.ensures.value (c.begins_office.ensures.0 c.if-not-begins_office.false) in
    inr (none_declared start.now first_tables c.in_ok-version.version c.in_ok-version.ensures.earlier
    (c.in_ok-version.ensures.held clean first_tables)
    (declared_then c.schema-3.result.now start.now.schema c.in_ok-version.version _ _ _ c.in_ok-version.ensures.earlier
    c.schema-3.ensures.value c.of-declared.ensures.first c.of-declared.ensures.second c.has_tables.ensures.first
    c.has_tables.ensures.second c.if-not-has_tables.true))

pub returns-then-not-has_tables-clause-accepts : goal.returns-then-not-has_tables-clause-accepts
returns-then-not-has_tables-clause-accepts g c clean layout office h =
    let start = state g.S.Store c.args.conn.now in
    let first_tables = same_begins_office layout start.now.schema h.rows.schema in
    let version = pos_injective _ _
    (c.in_ok-version.ensures.returned clean first_tables (pos (version_of layout))
    (layout_states_version layout start.now office h.rows)) in
    absurd (declared_then c.schema-3.result.now start.now.schema c.in_ok-version.version _ _ _
    c.in_ok-version.ensures.earlier c.schema-3.ensures.value c.of-declared.ensures.first c.of-declared.ensures.second
    c.has_tables.ensures.first c.has_tables.ensures.second c.if-not-has_tables.true layout version
    (declares_laid layout start.now.schema h.rows.schema))

pub returns-then-not-has_tables-clause-taken : goal.returns-then-not-has_tables-clause-taken
returns-then-not-has_tables-clause-taken g c clean layout office h used =
    let start = state g.S.Store c.args.conn.now in
    let version = pos_injective _ _
    (c.in_ok-version.ensures.returned clean h.first_tables (pos (version_of layout))
    (first_states_version layout start.now office h)) in
    absurd (declared_then c.schema-3.result.now start.now.schema c.in_ok-version.version _ _ _
    c.in_ok-version.ensures.earlier c.schema-3.ensures.value c.of-declared.ensures.first c.of-declared.ensures.second
    c.has_tables.ensures.first c.has_tables.ensures.second c.if-not-has_tables.true layout version
    (declares_first layout start.now.schema h.tables))

-- ---- where the name of a missing table is taken

pub returns-then-takes_name-clause-cause : goal.returns-then-takes_name-clause-cause
returns-then-takes_name-clause-cause g c clean =
    let start = state g.S.Store c.args.conn.now in
    let clean_one = c.refused_for_name.ensures.reads.keeps.follows.clean clean in
    let same = c.earlier_version.ensures.reads.keeps.same (clean_one, c.in_ok-version.ensures.is_open clean_one) in
    let first_tables =
    subst BeginsOffice c.schema-2.ensures.value (c.begins_office.ensures.0 c.if-not-begins_office.false) in
    let taken = subst (λ s. uses_missing_name c.in_ok-version.version s ≡ true) c.schema-3.ensures.value
    (ap₂ (λ g n. takes_name g n c.in_ok-version.version)
    (sym c.of-declared.ensures.grade) (sym c.of-declared.ensures.going)
    ∙ sym c.takes_name.ensures ∙ c.if-takes_name.true) in
    name_cause start.now first_tables c.in_ok-version.version c.in_ok-version.ensures.earlier
    (c.in_ok-version.ensures.held clean_one first_tables) c.refused_for_name.result c.refused_for_name.ensures.kind
    (declares_then c.schema-3.result.now start.now.schema c.in_ok-version.version _ _ _ c.in_ok-version.ensures.earlier
    c.schema-3.ensures.value c.of-declared.ensures.first c.of-declared.ensures.second c.has_tables.ensures.first
    c.has_tables.ensures.second c.if-not-has_tables.false)
    taken
    (λ is.
    subst (λ (d : Database). BeginsAt c.in_ok-version.version d.schema) same (c.refused_for_name.ensures.known is))
    (λ is. subst (AreNoEarlierRows c.in_ok-version.version) same (c.refused_for_name.ensures.none is clean))
    (λ is. subst (AreEarlierRows c.in_ok-version.version) same (c.refused_for_name.ensures.rows is clean))

pub returns-then-takes_name-clause-allowed : goal.returns-then-takes_name-clause-allowed
returns-then-takes_name-clause-allowed g c =
    let start = state g.S.Store c.args.conn.now in
    let taken = subst (λ s. uses_missing_name c.in_ok-version.version s ≡ true) c.schema-3.ensures.value
    (ap₂ (λ g n. takes_name g n c.in_ok-version.version)
    (sym c.of-declared.ensures.grade) (sym c.of-declared.ensures.going)
    ∙ sym c.takes_name.ensures ∙ c.if-takes_name.true) in
    let first_tables =
    subst BeginsOffice c.schema-2.ensures.value (c.begins_office.ensures.0 c.if-not-begins_office.false) in
    name_allowed start.now.schema c.in_ok-version.version c.refused_for_name.result c.refused_for_name.ensures.kind
    c.in_ok-version.ensures.earlier first_tables taken

pub returns-then-takes_name-clause-undone : goal.returns-then-takes_name-clause-undone
returns-then-takes_name-clause-undone g c intact =
    let one = state g.S.Store c.earlier_version.new.conn in
    let two = state g.S.Store c.refused_for_name.new.conn in
    let at_one = intact_before one two c.refused_for_name.ensures.reads.keeps.follows intact in
    c.refused_for_name.ensures.reads.keeps.same intact ∙ c.earlier_version.ensures.reads.keeps.same at_one

pub returns-then-takes_name-clause-taken : goal.returns-then-takes_name-clause-taken
returns-then-takes_name-clause-taken g c clean layout office h used =
    let start = state g.S.Store c.args.conn.now in
    let clean_one = c.refused_for_name.ensures.reads.keeps.follows.clean clean in
    let same = c.earlier_version.ensures.reads.keeps.same (clean_one, c.in_ok-version.ensures.is_open clean_one) in
    let version = pos_injective _ _
    (c.in_ok-version.ensures.returned clean_one h.first_tables (pos (version_of layout))
    (first_states_version layout start.now office h)) in
    c.refused_for_name.ensures.returned clean layout office version
    (subst (λ (d : Database). HoldsEarlierFirst layout d office) (sym same) h)

pub returns-then-takes_name-clause-rows : goal.returns-then-takes_name-clause-rows
returns-then-takes_name-clause-rows g c is clean version earlier holds layout same begins whole =
    let start = state g.S.Store c.args.conn.now in
    let there : c.refused_for_name.result ≡ AlreadyThere = cc in
    let clean_one = c.refused_for_name.ensures.reads.keeps.follows.clean clean in
    let unchanged = c.earlier_version.ensures.reads.keeps.same (clean_one, c.in_ok-version.ensures.is_open clean_one) in
    let first_tables = layout_begins_office layout start.now.schema begins in
    let one = pos_injective _ _ (c.in_ok-version.ensures.returned clean_one first_tables (pos version) holds) in
    subst (AreEarlierRows c.in_ok-version.version) unchanged (c.refused_for_name.ensures.rows there clean) layout
    (same ∙ one) begins whole

pub returns-in_err-version-clause-rows : goal.returns-in_err-version-clause-rows
returns-in_err-version-clause-rows g c =
    let p = err_from_is_err_and c.from_residual.result c.from_residual.ensures.1 in
    rw (p.1, p.2) (λ is clean version earlier holds.
    let there : c.in_err-version.field-0.0 ≡ AlreadyThere = cc in
    absurd (subst IsVersionFault there c.in_err-version.ensures.number))

-- ---- after a crash

pub returns-in-Ok-Some-clause-crash : goal.returns-in-Ok-Some-clause-crash
returns-in-Ok-Some-clause-crash g c =
    let version : version_of c.in-Some.layout ≡ c.in_ok-version.version = cc in
    migrated_once c.in-Some.layout (state g.S.Store c.args.conn.now) (state g.S.Store c.earlier_version.new.conn)
    (state g.S.Store c.renewed_office.new.conn)
    (sym c.schema-3.ensures.value ∙ (rw c.in-Some.is at c.of-declared.ensures.laid))
    (subst IsEarlier (sym version) c.in_ok-version.ensures.earlier)
    (λ is_open. (c.schema-3.ensures.live is_open).0) c.earlier_version.ensures.reads c.in_ok-version.ensures.is_open
    c.renewed_office.ensures.follows.clean c.renewed_office.ensures.crash

pub returns-in-Ok-None-clause-crash : goal.returns-in-Ok-None-clause-crash
returns-in-Ok-None-clause-crash g c =
    let version : version_of c.in-Some.layout ≡ c.in_ok-version.version = cc in
    migrated_once c.in-Some.layout (state g.S.Store c.args.conn.now) (state g.S.Store c.earlier_version.new.conn)
    (state g.S.Store c.renewed_office.new.conn)
    (sym c.schema-3.ensures.value ∙ (rw c.in-Some.is at c.of-declared.ensures.laid))
    (subst IsEarlier (sym version) c.in_ok-version.ensures.earlier)
    (λ is_open. (c.schema-3.ensures.live is_open).0) c.earlier_version.ensures.reads c.in_ok-version.ensures.is_open
    c.renewed_office.ensures.follows.clean c.renewed_office.ensures.crash

pub returns-in-Err-clause-crash : goal.returns-in-Err-clause-crash
returns-in-Err-clause-crash g c =
    let version : version_of c.in-Some.layout ≡ c.in_ok-version.version = cc in
    migrated_once c.in-Some.layout (state g.S.Store c.args.conn.now) (state g.S.Store c.earlier_version.new.conn)
    (state g.S.Store c.renewed_office.new.conn)
    (sym c.schema-3.ensures.value ∙ (rw c.in-Some.is at c.of-declared.ensures.laid))
    (subst IsEarlier (sym version) c.in_ok-version.ensures.earlier)
    (λ is_open. (c.schema-3.ensures.live is_open).0) c.earlier_version.ensures.reads c.in_ok-version.ensures.is_open
    c.renewed_office.ensures.follows.clean c.renewed_office.ensures.crash
