-- The five layouts that the tables of an office may have in a database. Each layout has a version and an order. The
-- version determines how many tables of the order there are.
use Rattle.std.specs.Prelude.{ℕ, ◌+◌, Bool, List, [], ◌∷◌, nat_le, slice_index_or}
use Rattle.sqlite_schema.specs.declared.schema.Schema.{Schema}
use Rattle.office_schema.specs.tables.Schema.{first_in, own_order, schema_in}
use Rattle.office_schema.specs.tables.Tables.{TableTrees, trees_in}
use Rattle.office_schema.specs.declared.tables.layouts.Layout.{Layout}
use Rattle.office_schema.specs.declared.tables.layouts.Layout.TheVariants.{Own, Documented, DocumentedSecond}
use Rattle.office_schema.specs.declared.tables.layouts.Layout.TheVariants.{DocumentedFirst, EarlierFirst}
use Rattle.office_schema.specs.declared.tables.names.TableName.{TableName}
use Rattle.office_schema.specs.declared.tables.names.TableName.TheVariants.{Rooms, People, Rounds, Choices, Words}
use Rattle.office_schema.specs.declared.tables.names.TableName.TheVariants.{Results, Moves, Lists, Grades, Going}

-- ---- the other orders

-- the tables in the order of `docs/formats.md`
abbrev pub documented_order : List (TableName × ℕ)
documented_order =
    (Rooms, 0) ∷ (People, 2) ∷ (Rounds, 6) ∷ (Choices, 7) ∷ (Words, 10) ∷ (Results, 12) ∷ (Moves, 15) ∷ (Lists, 17)
    ∷ (Grades, 19) ∷ (Going, 21) ∷ []

-- the tables of version 1, in the order in which this program created them
abbrev pub earlier_order : List (TableName × ℕ)
earlier_order =
    (Rooms, 0) ∷ (People, 2) ∷ (Rounds, 6) ∷ (Moves, 7) ∷ (Lists, 9) ∷ (Words, 11) ∷ (Results, 13) ∷ (Choices, 16) ∷ []

-- the ten tables of an office, created in the order of `docs/formats.md`
abbrev pub documented_schema : Schema
documented_schema = schema_in documented_order

-- ---- the layouts

abbrev pub version_of : Layout → ℕ
version_of Own = 3
version_of Documented = 3
version_of DocumentedSecond = 2
version_of DocumentedFirst = 1
version_of EarlierFirst = 1

-- the order that begins with the layout's tables; it may go on with tables that the layout lacks
abbrev pub order_of : Layout → List (TableName × ℕ)
order_of Own = own_order
order_of Documented = documented_order
order_of DocumentedSecond = documented_order
order_of DocumentedFirst = documented_order
order_of EarlierFirst = earlier_order

-- Version 1 has eight tables, and each later version has one more.
abbrev pub table_count : Layout → ℕ
table_count layout = 7 + version_of layout

-- Version 2 introduced grades.
abbrev pub has_grades : Layout → Bool
has_grades layout = nat_le 2 (version_of layout)

-- Version 3 introduced leavers.
abbrev pub has_leavers : Layout → Bool
has_leavers layout = nat_le 3 (version_of layout)

-- the name of the table at this place
abbrev pub name_at : Layout → ℕ → TableName
name_at layout place = (slice_index_or (order_of layout) place (Rooms, 0)).0

-- the schema of the first `tables` tables of the layout
abbrev pub tables_of : Layout → ℕ → Schema
tables_of layout = first_in (order_of layout)

-- the schema of exactly the layout's tables
abbrev pub schema_of : Layout → Schema
schema_of layout = tables_of layout (table_count layout)

-- the trees of the layout's tables; if the layout lacks a table, the number of its tree means nothing
abbrev pub trees_of : Layout → TableTrees
trees_of layout = trees_in (order_of layout)
