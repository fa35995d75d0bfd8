-- Databases that begin with the tables of a layout.
use Rattle.std.proofs.Common.{◌≡◌, [], refl, sym, ◌∙◌, subst}
use Rattle.sqlite.specs.Effect.{Database}
use Rattle.sqlite.specs.State.{State}
use Rattle.sqlite_schema.specs.declared.schema.Schema.{Schema}
use Rattle.office_schema.specs.rows.Tables.{Tables}
use Rattle.office_schema.specs.tables.FirstTables.{Begins, HasTablesFirst, followed_by}
use Rattle.office_db.specs.loading.Numbers.{IsLaidFirst, IsLaidOut}
use Rattle.office_db.specs.loading.Reading.{OnlyReads}
use Rattle.office_schema.specs.tables.Layouts.{schema_of}
use Rattle.office_schema.specs.tables.Steps.{IsIntact}
use Rattle.office_schema.specs.tables.InLayout.{HasTablesIn}
use Rattle.office_schema.specs.declared.tables.layouts.Layout.{Layout}
use Rattle.office_schema.specs.declared.tables.layouts.Layout.TheVariants.{Own, Documented, DocumentedSecond}
use Rattle.office_schema.specs.declared.tables.layouts.Layout.TheVariants.{DocumentedFirst, EarlierFirst}

nothing_follows : (layout : Layout) → schema_of layout ≡ followed_by layout [] []
nothing_follows Own = refl
nothing_follows Documented = refl
nothing_follows DocumentedSecond = refl
nothing_follows DocumentedFirst = refl
nothing_follows EarlierFirst = refl

-- with nothing after them
pub begins_if_laid : (layout : Layout) (schema : Schema) → schema ≡ schema_of layout → Begins layout schema
begins_if_laid layout schema has = record { tables = []; indexes = []; is = has ∙ nothing_follows layout }

pub first_if_has : (layout : Layout) (db : Database) (tables : Tables) → HasTablesIn layout db tables
    → HasTablesFirst layout db tables
first_if_has layout db tables has = record { schema = begins_if_laid layout db.schema has.schema; rows = has.rows }

-- The first tables are unchanged.
pub still_first : (layout : Layout) (a b : State) (tables : Tables) → OnlyReads a b → IsIntact b
    → HasTablesFirst layout a.now tables → HasTablesFirst layout b.now tables
still_first layout a b tables p intact has =
    subst (λ (d : Database). HasTablesFirst layout d tables) (sym (p.keeps.same intact)) has

pub laid_first : (layout : Layout) (db : Database) → IsLaidOut layout db → IsLaidFirst layout db
laid_first layout db laid = record { schema = begins_if_laid layout db.schema laid.schema; rows = laid.rows }
