use Rattle.std.proofs.Common.{refl, sym, ◌∙◌, subst, true≢false}
use Rattle.sqlite.specs.Held.{state}
use Rattle.office_db.specs.loading.Finding.{AreWhole}
use Rattle.office_schema.specs.tables.FirstTables.{Begins}
use Rattle.office_db.proofs.found_offices.Versions.{none_some, same_some}
use Rattle.office_db.proofs.loaded.WholeRows.{first_if_sound}
use Rattle.office_migration.specs.Causes.{HoldsEarlierFirst}
use Rattle.office_migration.specs.Versions.{IsOfVersion}
use Rattle.office_migration.proofs.earlier.Taken.{begins_is_found, held_in_found, first_if_held}
use Rattle.office_migration.proofs.earlier.Taken.{first_in_found}
use Rattle.office_migration.proofs.taken.refused_for_name.Goals as goal

pub returns-in_default-clause-rows : goal.returns-in_default-clause-rows
returns-in_default-clause-rows g c already clean other same begins whole =
    absurd (c.in_default.ensures.other refl other same (subst (Begins other) (sym c.schema.ensures.value) begins))

pub returns-then-is_of_version-clause-rows : goal.returns-then-is_of_version-clause-rows
returns-then-is_of_version-clause-rows g c already clean other same begins whole =
    let start = state g.S.Store c.args.conn.now in
    let layout = c.in-Some.layout in
    let begun = subst (Begins layout) c.schema.ensures.value c.in-Some.ensures.begun in
    let is = begins_is_found c.args.version c.requires.earlier start.now layout begun c.in-Some.ensures.version other
    same begins in
    let open_ = c.held.ensures.reads.keeps.follows.was_open clean (c.in-Ok-Some.ensures.is_open clean) in
    let sound = (c.schema.ensures.live open_).0 in
    let laid = first_if_sound layout start.now sound (subst (λ l. Begins l start.now.schema) (sym is) begins)
    (subst (λ l. AreWhole l start.now.trees) (sym is) whole) in
    let office = c.in-Ok-Some.office in
    let holding =
    first_if_held c.args.version c.requires.earlier start.now layout begun c.in-Some.ensures.version office
    (rw c.in-Ok-Some.field-0-is at c.in-Ok-Some.ensures.lawful)
    ((rw c.in-Ok-Some.field-0-is at c.in-Ok-Some.ensures.well_formed_first) clean laid)
    (c.is_of_version.ensures.0 c.if-is_of_version.true)
    ((rw c.in-Ok-Some.field-0-is at c.in-Ok-Some.ensures.held_first) clean laid) in
    (office, subst (λ l. HoldsEarlierFirst l start.now office) is holding)

pub returns-else-is_of_version-clause-none : goal.returns-else-is_of_version-clause-none
returns-else-is_of_version-clause-none g c is_none clean other same office h =
    let start = state g.S.Store c.args.conn.now in
    let layout = c.in-Some.layout in
    let begun = subst (Begins layout) c.schema.ensures.value c.in-Some.ensures.begun in
    let here =
    first_in_found c.args.version c.requires.earlier start.now layout begun c.in-Some.ensures.version other
    office same h in
    let held =
    held_in_found c.args.version c.requires.earlier start.now layout begun c.in-Some.ensures.version office here in
    let found =
    (rw c.in-Ok-Some.field-0-is at c.in-Ok-Some.ensures.first) clean office h.lawful here.well_formed held in
    let one = same_some c.in-Ok-Some.office office found in
    let kind =
    c.is_of_version.ensures.1
    (subst (IsOfVersion c.args.version) (sym one) (subst (λ v. IsOfVersion v office) same h.kind)) in
    absurd (true≢false (sym kind ∙ c.if-is_of_version.false))

pub returns-else-is_of_version-clause-returned : goal.returns-else-is_of_version-clause-returned
returns-else-is_of_version-clause-returned g c clean other office same h =
    absurd (returns-else-is_of_version-clause-none g c refl clean other same office h)

pub returns-in-Ok-None-clause-none : goal.returns-in-Ok-None-clause-none
returns-in-Ok-None-clause-none g c is_none clean other same office h =
    let start = state g.S.Store c.args.conn.now in
    let layout = c.in-Some.layout in
    let begun = subst (Begins layout) c.schema.ensures.value c.in-Some.ensures.begun in
    let here =
    first_in_found c.args.version c.requires.earlier start.now layout begun c.in-Some.ensures.version other
    office same h in
    let held =
    held_in_found c.args.version c.requires.earlier start.now layout begun c.in-Some.ensures.version office here in
    none_some office
    ((rw c.in-Ok-None.field-0-is at c.in-Ok-None.ensures.first) clean office h.lawful here.well_formed held)

pub returns-in-Ok-None-clause-returned : goal.returns-in-Ok-None-clause-returned
returns-in-Ok-None-clause-returned g c clean other office same h =
    absurd (returns-in-Ok-None-clause-none g c refl clean other same office h)

pub returns-else-is_of_version-clause-known : goal.returns-else-is_of_version-clause-known
returns-else-is_of_version-clause-known g c is_none = (
  c.in-Some.layout,
  c.in-Some.ensures.version,
  subst (Begins c.in-Some.layout) c.schema.ensures.value c.in-Some.ensures.begun,
)

pub returns-in-Ok-None-clause-known : goal.returns-in-Ok-None-clause-known
returns-in-Ok-None-clause-known g c is_none = (
  c.in-Some.layout,
  c.in-Some.ensures.version,
  subst (Begins c.in-Some.layout) c.schema.ensures.value c.in-Some.ensures.begun,
)
