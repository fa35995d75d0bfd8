-- The effect of statements that create or drop a table.
use Rattle.std.specs.Prelude.{◌≡◌, ◌⊎◌, ◌≤◌, ◌<◌, ℕ, List, [], drop, take}
use Rattle.std.specs.List.{AllByRecursion}
use Rattle.sqlite_schema.specs.declared.schema.Schema.{Schema}
use Rattle.sqlite_schema.specs.declared.schema.Table.{Table}
use Rattle.sqlite_catalog.specs.Change.{KeepsRows}
use Rattle.sqlite.specs.State.{State, HasCleanDisk}
use Rattle.office_schema.specs.tables.Layouts.{schema_of, tables_of}
use Rattle.office_schema.specs.tables.Schema.{office_schema, first_tables}
use Rattle.office_schema.specs.tables.Steps.{IsIntact, RollsBack}
use Rattle.office_schema.specs.declared.tables.layouts.Layout.{Layout}
use Rattle.office_schema.specs.declared.tables.layouts.Layout.TheVariants.{Own}

-- If the schema was `before`, it is now `after`. Then the tables `kept` have the same rows as before, and the tables
-- `fresh` have no rows.
pub record ChangesSchema (before after : Schema) (kept fresh : List Table) (old new : State) : Type 0 where
  pub shown : HasCleanDisk new → old.now.schema ≡ before
      → (new.now.schema ≡ after) × KeepsRows kept old.now.trees new.now.trees
      × AllByRecursion (λ table. new.now.trees table.tree ≡ []) fresh
  pub mode : HasCleanDisk new → new.in_transaction ≡ old.in_transaction

-- If the schema had exactly the first `before` tables of an office, it now has exactly the first `after`. The first
-- `kept` tables have the same rows as before, and the others have no rows.
abbrev pub DeclaresFirst : ℕ → ℕ → ℕ → State → State → Type 0
DeclaresFirst before after kept =
    ChangesSchema (first_tables before) (first_tables after) (take kept office_schema.tables)
    (drop kept (take after office_schema.tables))

-- If the schema had exactly the tables of the layout, it now has exactly the first `after` of these tables. They have
-- the same rows as before.
abbrev pub LeavesFirst : Layout → ℕ → State → State → Type 0
LeavesFirst layout after =
    ChangesSchema (schema_of layout) (tables_of layout after) (tables_of layout after).tables []

-- Some of the four tables of a round, which are the last four tables of an office, may be missing. Either some of the
-- four were dropped, or all four were dropped and fewer than four were created again. The first six tables have the
-- same rows as before. This holds only if the database had exactly the tables of an office; otherwise the definition
-- says nothing.
abbrev pub LacksTables : State → State → Type 0
LacksTables old new =
    ((after : ℕ) × (6 ≤ after) × (after ≤ 10) × LeavesFirst Own after old new)
    ⊎ ((after : ℕ) × (6 ≤ after) × (after < 10) × DeclaresFirst 10 after 6 old new)

-- The state after `clear_round_tables` fails: some tables of the round may be missing, or the transaction is rolled
-- back.
abbrev pub MayLackTables : State → State → Type 0
MayLackTables old new = IsIntact new → LacksTables old new ⊎ RollsBack old new

-- The state after creating the tables from place `first` on fails: some of these tables may exist, or the transaction
-- is rolled back.
abbrev pub CreatesTooFew : ℕ → State → State → Type 0
CreatesTooFew first old new =
    IsIntact new
    → ((after : ℕ) × (first ≤ after) × (after < 10) × DeclaresFirst first after first old new)
    ⊎ RollsBack old new
