-- The layout of the office that is found.
use Rattle.std.proofs.Common.{◌≡◌, ◌≢◌, ℤ, pos, Bool, true, false, Option, None, Some, IfSome, inl, inr, sym, ap, ◌∙◌}
use Rattle.sqlite.specs.Effect.{Database}
use Rattle.sqlite_schema.specs.declared.schema.Schema.{Schema}
use Rattle.office_schema.specs.rows.Tables.{own_version}
use Rattle.office_db.specs.loading.Causes.{HasCause, IsAllowed, IsNotOwn, layout_fault}
use Rattle.office_db.specs.loading.Finding.{DeclaresTables, HoldsOtherVersion}
use Rattle.office_schema.specs.tables.FirstTables.{BeginsOffice}
use Rattle.office_db.specs.declared.loading.finding.FindFault.{FindFault}
use Rattle.office_db.specs.declared.loading.finding.FindFault.TheVariants.{Unavailable, NotAnOffice, OtherVersion}
use Rattle.office_db.proofs.found_offices.LayoutTests.{one_layout}
use Rattle.office_db.proofs.found_offices.Versions.{none_some}
use Rattle.office_db.proofs.loaded.VersionMeanings.{same_begins_office}
use Rattle.office_schema.specs.tables.Layouts.{schema_of}
use Rattle.office_schema.specs.declared.tables.layouts.Layout.{Layout}
use Rattle.office_schema.specs.declared.tables.layouts.Layout.TheVariants.{Own}

-- The layout that is found is that of the office in the tables.
pub same_layout : (layout found : Layout) (schema : Schema) → schema ≡ schema_of layout → schema ≡ schema_of found
    → found ≡ layout
same_layout layout found schema has laid = one_layout found layout (ap (λ (s : Schema). s.tables) (sym laid ∙ has))

-- the fault where the tables are in no known layout, but the first three are those of an office
module _ (db : Database) (front : BeginsOffice db.schema) where
  pub layout_fault_cause : (all_there : Bool) (found : Option ℤ) → (DeclaresTables Own db.schema → all_there ≡ true)
      → IfSome found (HoldsOtherVersion db) → ((version : ℤ) → HoldsOtherVersion db version → found ≡ Some version)
      → HasCause db (layout_fault all_there found)
  layout_fault_cause true None there other returned = tt
  layout_fault_cause false None there other returned = inr (inr (record {
    first_tables = front;
    version = λ version holds. none_some version (returned version holds);
    lacks = λ declares. let e = there declares in absurd (cc);
  }))
  layout_fault_cause true (Some version) there other returned = (front, other)
  layout_fault_cause false (Some version) there other returned = (front, other)

pub layout_fault_allowed : (schema : Schema) (all_there : Bool) (found : Option ℤ) → BeginsOffice schema
    → (DeclaresTables Own schema → all_there ≡ true) → IfSome found (λ version. version ≢ pos own_version)
    → IsAllowed schema (layout_fault all_there found)
layout_fault_allowed schema true None front there other = tt
layout_fault_allowed schema false None front there other =
    inr (inr (front, λ declares. let e = there declares in absurd (cc)))
layout_fault_allowed schema true (Some version) front there other = (front, other)
layout_fault_allowed schema false (Some version) front there other = (front, other)

-- the fault where the tables are in a known layout
pub laid_allowed : (schema : Schema) (layout : Layout) (fault : FindFault) → schema ≡ schema_of layout → IsNotOwn fault
    → IsAllowed schema fault
laid_allowed schema layout Unavailable laid number = tt
laid_allowed schema layout NotAnOffice laid number = inr (inl (layout, laid))
laid_allowed schema layout (OtherVersion version) laid number = (same_begins_office layout schema laid, number)
