-- What the query over the versions means where the first tables are those of an office.
use Rattle.std.proofs.Common.{◌≡◌, List, [], ◌∷◌, ◌++◌, codes, drop, refl, sym, ap, ◌∙◌, subst}
use Rattle.std.proofs.lemmas.List.{take-append-drop}
use Rattle.sqlite.specs.Listing.{understood}
use Rattle.sqlite_tied.specs.Compute.{everything}
use Rattle.sqlite_schema.specs.declared.schema.Index.{Index}
use Rattle.sqlite_schema.specs.declared.schema.Schema.{Schema}
use Rattle.sqlite_schema.specs.declared.schema.Table.{Table}
use Rattle.sqlite_schema.specs.declared.schema.View.{View}
use Rattle.office_schema.specs.tables.Layouts.{schema_of}
use Rattle.office_schema.specs.tables.Schema.{room, person, round}
use Rattle.office_schema.specs.declared.tables.layouts.Layout.{Layout}
use Rattle.office_schema.specs.declared.tables.layouts.Layout.TheVariants.{Own, Documented, DocumentedSecond}
use Rattle.office_schema.specs.declared.tables.layouts.Layout.TheVariants.{DocumentedFirst, EarlierFirst}
use Rattle.office_schema.proofs.asking.Selects.{selects_only_ask}
use Rattle.office_schema.specs.tables.Asking.{OnlyAsks}
use Rattle.office_schema.specs.tables.FirstTables.{BeginsOffice}
use Rattle.office_schema.specs.tables.Listing.{ListsTable}
use Rattle.office_db.specs.loading.Versions.{only_version}

abbrev office_then : List Table → List Index → Schema
office_then tables indexes = record { tables = room 0 ∷ person 2 ∷ round 6 ∷ tables; indexes = indexes; views = [] }

versions_followed : (tables : List Table) (indexes : List Index)
    → ListsTable (office_then tables indexes) (codes "SELECT version FROM round") 6 only_version (codes "version" ∷ [])
unfolding understood everything
versions_followed tables indexes = record { order = []; is = refl; plain = (refl, refl); unlisted = refl }

same_schema : (schema : Schema) → BeginsOffice schema → office_then (drop 3 schema.tables) schema.indexes ≡ schema
same_schema schema front =
    ap (λ (ts : List Table). record schema { tables = ts ++ drop 3 schema.tables; views = [] }) (sym front.tables)
    ∙ ap (λ (ts : List Table). record schema { tables = ts; views = [] }) (take-append-drop 3 schema.tables)
    ∙ ap (λ (vs : List View). record schema { views = vs }) (sym front.views)

pub versions_listed : (schema : Schema) → BeginsOffice schema
    → ListsTable schema (codes "SELECT version FROM round") 6 only_version (codes "version" ∷ [])
versions_listed schema front =
    subst (λ (s : Schema). ListsTable s (codes "SELECT version FROM round") 6 only_version (codes "version" ∷ []))
    (same_schema schema front) (versions_followed (drop 3 schema.tables) schema.indexes)

-- Each layout begins with the first three tables of an office.
layout_begins_office : (layout : Layout) → BeginsOffice (schema_of layout)
layout_begins_office Own = record { tables = refl; views = refl }
layout_begins_office Documented = record { tables = refl; views = refl }
layout_begins_office DocumentedSecond = record { tables = refl; views = refl }
layout_begins_office DocumentedFirst = record { tables = refl; views = refl }
layout_begins_office EarlierFirst = record { tables = refl; views = refl }

pub same_begins_office : (layout : Layout) (schema : Schema) → schema ≡ schema_of layout → BeginsOffice schema
same_begins_office layout schema has = subst BeginsOffice (sym has) (layout_begins_office layout)

pub versions_asked : OnlyAsks (codes "SELECT version FROM round")
unfolding everything
versions_asked = selects_only_ask (codes "SELECT version FROM round") tt
