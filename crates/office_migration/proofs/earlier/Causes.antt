-- Databases that hold no office of an earlier version.
use Rattle.std.proofs.Common.{◌≡◌, ◌⊎◌, ◌<◌, ◌≤◌, Decides, ℕ, ℤ, pos, Bool, true, false, IsTrue, codes, take, refl, sym}
use Rattle.std.proofs.Common.{ap, ◌∙◌, subst, true≢false, inl, inr, arith}
use Rattle.sqlite_schema.specs.declared.schema.Schema.{Schema}
use Rattle.sqlite_schema.specs.Names.{same_name}
use Rattle.sqlite_catalog.specs.Change.{is_used}
use Rattle.sqlite.specs.Effect.{Database}
use Rattle.office_state.specs.declared.office.Office.{Office}
use Rattle.office_schema.specs.tables.Layouts.{schema_of, table_count, version_of}
use Rattle.office_schema.specs.declared.tables.layouts.Layout.{Layout}
use Rattle.office_schema.specs.declared.tables.layouts.Layout.TheVariants.{Own, Documented, DocumentedSecond}
use Rattle.office_schema.specs.declared.tables.layouts.Layout.TheVariants.{DocumentedFirst, EarlierFirst}
use Rattle.office_db.specs.loading.Finding.{DeclaresTables, HoldsVersion}
use Rattle.office_db.proofs.found_offices.Versions.{one_version}
use Rattle.office_db.proofs.found_offices.Versions.{layout_states_version}
use Rattle.office_schema.specs.tables.FirstTables.{BeginsOffice}
use Rattle.office_migration.specs.Causes.{AreEarlierRows, AreNoEarlierRows, BeginsAt, DeclaresVersion, HasCause}
use Rattle.office_migration.specs.Causes.{HoldsEarlier}
use Rattle.office_migration.specs.Causes.{HoldsNoEarlier, IsAllowed, IsLaid, IsNameFault, IsVersionFault}
use Rattle.office_migration.specs.Causes.{HoldsEarlierFirst, LacksTable}
use Rattle.office_migration.specs.Names.{uses_missing_name, takes_name}
use Rattle.office_migration.specs.Versions.{IsEarlier, IsNotEarlier}
use Rattle.office_migration.specs.declared.migrating.MigrateFault.{MigrateFault}
use Rattle.office_migration.specs.declared.migrating.MigrateFault.TheVariants.{Unavailable, OtherVersion, NotAnOffice}
use Rattle.office_migration.specs.declared.migrating.MigrateFault.TheVariants.{AlreadyThere}
use Rattle.office_migration.proofs.earlier.First.{declares_first, declares_version, of_version, first_if_holds}
use Rattle.office_migration.proofs.earlier.First.{first_is_laid, holds_if_first}

-- In a layout of an earlier version, the names of the tables that it lacks are free.
pub own_names_free : (layout : Layout) → IsEarlier (version_of layout)
    → uses_missing_name (version_of layout) (schema_of layout) ≡ false
unfolding same_name
own_names_free Own (inl e) = absurd (omega (arith, e))
own_names_free Own (inr e) = absurd (omega (arith, e))
own_names_free Documented (inl e) = absurd (omega (arith, e))
own_names_free Documented (inr e) = absurd (omega (arith, e))
own_names_free DocumentedSecond e = refl
own_names_free DocumentedFirst e = refl
own_names_free EarlierFirst e = refl

pub pos_injective : (v w : ℕ) → pos v ≡ pos w → v ≡ w
pos_injective v w e = cc

-- A name that version 2 lacks is one that version 1 lacks.
lacking_first : (grade going : Bool) → IsTrue (takes_name grade going 2) → IsTrue (takes_name grade going 1)
lacking_first true going h = refl
lacking_first false going h = h

-- An earlier version is an earlier one as a number, too.
pub not_no : (version : ℕ) → IsEarlier version → IsNotEarlier (pos version) → ⊥
not_no version (inl e) none = none.0 (ap (λ n. pos n) e)
not_no version (inr e) none = none.1 (ap (λ n. pos n) e)

-- An office of an earlier version is not refused for another version.
pub only_unavailable : (version : ℕ) (fault : MigrateFault) → IsEarlier version → IsVersionFault fault
    → (fault ≡ Unavailable) ⊎ (fault ≡ OtherVersion (pos version)) → fault ≡ Unavailable
only_unavailable version fault is number (inl e) = e
only_unavailable version fault is number (inr e) = absurd (not_no version is (subst IsVersionFault e number))

-- It is not refused for a name either.
pub takes_none : (layout : Layout) (schema : Schema) (grade going : Bool) (version : ℕ)
    → IsEarlier (version_of layout) → schema ≡ schema_of layout
    → grade ≡ is_used schema (codes "grade") → going ≡ is_used schema (codes "going") → version_of layout ≡ version
    → takes_name grade going version ≡ false
takes_none layout schema grade going version is has a b same =
    subst (λ n. takes_name grade going n ≡ false) same
    (rw (a, b) (subst (λ (s : Schema). uses_missing_name (version_of layout) s ≡ false) (sym has)
    (own_names_free layout is)))

-- It is refused for a name if one that its version lacks is in use.
pub takes_used : (schema : Schema) (grade going : Bool) (version own : ℕ) → grade ≡ is_used schema (codes "grade")
    → going ≡ is_used schema (codes "going") → own ≡ version → uses_missing_name own schema ≡ true
    → takes_name grade going version ≡ true
takes_used schema grade going version own a b same used =
    subst (λ n. takes_name grade going n ≡ true) same (rw (a, b) used)

-- Whatever follows the tables, the row of table `round` is of their version.
pub first_states_version : (layout : Layout) (db : Database) (office : Office) → HoldsEarlierFirst layout db office
    → HoldsVersion db (pos (version_of layout))
first_states_version layout db office h =
    layout_states_version layout (record { schema = schema_of layout; trees = db.trees }) office
    (record { schema = refl; rows = h.rows })

-- A table of the version is absent or declared in another way, where the test fails.
pub declared_then : (schema start : Schema) (version : ℕ) (first second all : Bool) → IsEarlier version → schema ≡ start
    → Decides first (DeclaresTables DocumentedFirst schema) → Decides second (DeclaresTables DocumentedSecond schema)
    → (version < 2 → all ≡ first) → (2 ≤ version → all ≡ second) → all ≡ false
    → (layout : Layout) → version_of layout ≡ version → DeclaresTables layout start → ⊥
declared_then schema start version first second all is same one two low high fails layout of_it declares =
    let here = of_version version layout schema is of_it (subst (DeclaresTables layout) (sym same) declares) in
    elim is [
      | inl e ↦
          let below : version < 2 = omega (arith, e) in
          true≢false (sym (one.1 (here.0 below)) ∙ sym (low below) ∙ fails)
      | inr e ↦
          let above : 2 ≤ version = omega (arith, e) in
          true≢false (sym (two.1 (here.1 above)) ∙ sym (high above) ∙ fails)
    ]

-- Each table of the version is declared, where the test passes.
pub declares_then : (schema start : Schema) (version : ℕ) (first second all : Bool) → IsEarlier version → schema ≡ start
    → Decides first (DeclaresTables DocumentedFirst schema) → Decides second (DeclaresTables DocumentedSecond schema)
    → (version < 2 → all ≡ first) → (2 ≤ version → all ≡ second) → all ≡ true → DeclaresVersion version start
declares_then schema start version first second all is same one two low high passes layout of_it =
    subst (DeclaresTables layout) same
    (declares_version version layout schema is of_it (λ below. one.0 (sym (low below) ∙ passes))
    (λ above. two.0 (sym (high above) ∙ passes)))

module _ (db : Database) (first_tables : BeginsOffice db.schema) where
  -- where there is not exactly one row in table `round`
  pub none_without_version : ((version : ℤ) → HoldsVersion db version → ⊥) → HoldsNoEarlier db
  none_without_version none_held = record {
    first_tables = first_tables;
    version = λ version other h. none_held version h;
    known = λ version earlier h. absurd (none_held (pos version) h);
    none = λ layout office h. none_held (pos (version_of layout)) (first_states_version layout db office h);
  }

  module _ (version : ℕ) (is_earlier : IsEarlier version) (holds : HoldsVersion db (pos version)) where
    -- the row holds no other version
    held_one : (other : ℕ) → HoldsVersion db (pos other) → version ≡ other
    held_one other h = pos_injective version other (one_version db (pos version) (pos other) holds h)

    same_version : (layout : Layout) (office : Office) → HoldsEarlierFirst layout db office
        → version_of layout ≡ version
    same_version layout office h = pos_injective (version_of layout) version
        (one_version db (pos (version_of layout)) (pos version) (first_states_version layout db office h) holds)

    -- where the first tables are not the rows of an office of the version in the row of table `round`
    pub none_first : BeginsAt version db.schema ⊎ IsLaid version db.schema ⊎ LacksTable version db.schema
        → AreNoEarlierRows version db → HoldsNoEarlier db
    none_first known none = record {
      first_tables = first_tables;
      known = λ other earlier h. subst (λ v. BeginsAt v db.schema ⊎ IsLaid v db.schema ⊎ LacksTable v db.schema)
          (held_one other h) known;
      version = λ other none_earlier h. not_no version is_earlier
          (subst IsNotEarlier (one_version db other (pos version) h holds) none_earlier);
      none = λ layout office h. none layout (same_version layout office h) office h;
    }

    -- the cause for which such tables are refused if the name of a table that they lack is taken
    pub name_cause : (fault : MigrateFault) → IsNameFault fault → DeclaresVersion version db.schema
        → IsTrue (uses_missing_name version db.schema)
        → (fault ≡ NotAnOffice → BeginsAt version db.schema) → (fault ≡ NotAnOffice → AreNoEarlierRows version db)
        → (fault ≡ AlreadyThere → AreEarlierRows version db) → HasCause db fault
    name_cause Unavailable is declared taken known none rows = tt
    name_cause (OtherVersion other) is declared taken known none rows = absurd is
    name_cause NotAnOffice is declared taken known none rows = inr (none_first (inl (known refl)) (none refl))
    name_cause AlreadyThere is declared taken known none rows = record {
      version = version;
      earlier = is_earlier;
      states = (first_tables, holds);
      declared = declared;
      taken = taken;
      rows = rows refl;
    }

    -- where a table of the version is absent or declared in another way
    pub none_declared : ((layout : Layout) → version_of layout ≡ version → DeclaresTables layout db.schema → ⊥)
        → HoldsNoEarlier db
    none_declared lacks =
        none_first
        (inr (inr (elim is_earlier [
          | inl e ↦ (DocumentedFirst, sym e, lacks DocumentedFirst (sym e))
          | inr e ↦ (DocumentedSecond, sym e, lacks DocumentedSecond (sym e))
        ])))
        (λ layout same office h. lacks layout same (declares_first layout db.schema h.tables))

    module _ (layout : Layout) (has : db.schema ≡ schema_of layout)
        (free : uses_missing_name version db.schema ≡ false) where
      -- where the tables of the layout hold no office
      pub none_in_layout : ((office : Office) → HoldsEarlier layout db office → ⊥) → HoldsNoEarlier db
      none_in_layout none = none_first (inr (inl ((layout, has), free))) (λ other same office h.
          let here = subst (λ v. uses_missing_name v (schema_of layout) ≡ false) (sym same)
          (subst (λ (s : Schema). uses_missing_name version s ≡ false) has free) in
          let tables =
          subst (λ (s : Schema). take (table_count other) s.tables ≡ (schema_of other).tables) has h.tables in
          let is = first_is_laid layout other h.earlier here tables in
          none office (holds_if_first layout db office has (subst (λ l. HoldsEarlierFirst l db office) is h)))

      -- where the tables are of another version than the row of table `round` holds
      pub none_of_other : (version_of layout ≡ version → ⊥) → HoldsNoEarlier db
      none_of_other differs = none_in_layout (λ office h.
          differs (same_version layout office (first_if_holds layout db office h)))

-- whatever the disk does
pub name_allowed : (schema : Schema) (version : ℕ) (fault : MigrateFault) → IsNameFault fault → IsEarlier version
    → BeginsOffice schema → IsTrue (uses_missing_name version schema) → IsAllowed schema fault
name_allowed schema version Unavailable is earlier first_tables taken = tt
name_allowed schema version (OtherVersion other) is earlier first_tables taken = absurd is
name_allowed schema version NotAnOffice is earlier first_tables taken = inr first_tables
name_allowed schema version AlreadyThere is (inl e) first_tables taken =
    (first_tables, subst (λ v. IsTrue (uses_missing_name v schema)) e taken)
name_allowed schema version AlreadyThere is (inr e) first_tables taken = (
  first_tables,
  lacking_first (is_used schema (codes "grade")) (is_used schema (codes "going"))
      (subst (λ v. IsTrue (uses_missing_name v schema)) e taken),
)
