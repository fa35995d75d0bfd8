-- What the first tables of a database show of an office of an earlier version.
use Rattle.std.proofs.Common.{◌≡◌, ℕ, sym, ◌∙◌, subst}
use Rattle.sqlite.specs.Effect.{Database}
use Rattle.office_state.specs.Office.Invariants.{IsLawful}
use Rattle.office_state.specs.declared.office.Office.{Office}
use Rattle.office_schema.specs.rows.Tables.{rows_at}
use Rattle.office_schema.specs.cells.WellFormed.{IsWellFormed}
use Rattle.office_schema.specs.tables.Layouts.{version_of}
use Rattle.office_schema.specs.declared.tables.layouts.Layout.{Layout}
use Rattle.office_schema.specs.tables.FirstTables.{Begins, HoldsOfficeFirst}
use Rattle.office_db.proofs.found_offices.LayoutTests.{begins_tables}
use Rattle.office_migration.specs.Causes.{HoldsEarlierFirst}
use Rattle.office_migration.specs.Versions.{IsEarlier, IsOfVersion}
use Rattle.office_migration.proofs.earlier.First.{layout_begins_office, one_first}

module _ (version : ℕ) (is : IsEarlier version) (db : Database) (layout : Layout)
    (begins : Begins layout db.schema) (of_it : version_of layout ≡ version) where
  -- An office of that version in the first tables is in the layout with whose tables the schema begins.
  pub first_in_found : (other : Layout) (office : Office) → version_of other ≡ version
      → HoldsEarlierFirst other db office
      → HoldsEarlierFirst layout db office
  first_in_found other office same h =
      let one = one_first other layout db.schema (subst IsEarlier (sym of_it) is) (same ∙ sym of_it) begins h.tables in
      subst (λ l. HoldsEarlierFirst l db office) (sym one) h

  -- So the tables of that layout hold the office.
  pub held_in_found : (office : Office) → HoldsEarlierFirst layout db office → HoldsOfficeFirst layout db office
  held_in_found office h = record { schema = begins; rows = h.rows }

  -- Another layout of that version with whose tables the schema begins is the same.
  pub begins_is_found : (other : Layout) → version_of other ≡ version → Begins other db.schema → layout ≡ other
  begins_is_found other same other_begins =
      one_first other layout db.schema (subst IsEarlier (sym of_it) is) (same ∙ sym of_it) begins
      (begins_tables other db.schema other_begins)

  -- An office that the tables of the layout hold is in the first tables.
  pub first_if_held : (office : Office) → IsLawful office → IsWellFormed (rows_at (version_of layout) office)
      → IsOfVersion version office → HoldsOfficeFirst layout db office → HoldsEarlierFirst layout db office
  first_if_held office lawful well_formed kind h = record {
    earlier = subst IsEarlier (sym of_it) is;
    lawful = lawful;
    well_formed = well_formed;
    kind = subst (λ v. IsOfVersion v office) (sym of_it) kind;
    first_tables = layout_begins_office layout db.schema h.schema;
    tables = begins_tables layout db.schema h.schema;
    rows = h.rows;
  }
