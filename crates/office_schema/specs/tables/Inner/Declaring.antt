-- The effects of creating one table, of dropping several tables, and of replacing the tables of a layout.
use Rattle.std.specs.Prelude.{◌≡◌, ◌⊎◌, ◌≤◌, ℕ, []}
use Rattle.sqlite_schema.specs.declared.schema.Table.{Table}
use Rattle.sqlite_catalog.specs.Change.{created, next_tree, KeepsRows}
use Rattle.sqlite.specs.Effect.{Database}
use Rattle.sqlite.specs.State.{State, HasCleanDisk}
use Rattle.office_schema.specs.rows.Tables.{Tables}
use Rattle.office_schema.specs.tables.Layouts.{table_count}
use Rattle.office_schema.specs.tables.Steps.{IsIntact, RollsBack}
use Rattle.office_schema.specs.tables.Tables.{HasTables}
use Rattle.office_schema.specs.tables.InLayout.{HasTablesIn}
use Rattle.office_schema.specs.declared.tables.layouts.Layout.{Layout}
use Rattle.office_schema.specs.tables.Declaring.{LeavesFirst}

-- The database has one more table, without rows. The other tables are unchanged.
pub record Adds (table : Table) (old new : Database) : Type 0 where
  pub schema : new.schema ≡ created old.schema table
  pub empty : new.trees (next_tree old.schema) ≡ []
  pub others : KeepsRows old.schema.tables old.trees new.trees

-- The state after dropping all but the first `left` tables of the layout fails: more tables than these may remain, or
-- the transaction is rolled back.
abbrev pub DropsTooFew : Layout → ℕ → State → State → Type 0
DropsTooFew layout left old new =
    IsIntact new
    → ((after : ℕ) × (left ≤ after) × (after ≤ table_count layout) × LeavesFirst layout after old new)
    ⊎ RollsBack old new

-- The tables that this program creates have replaced the tables of the layout. Tables `room`, `person` and `round`
-- have the same rows as before, and the other tables have no rows.
pub record Rebuilds (layout : Layout) (old new : State) : Type 0 where
  pub shown : (tables : Tables) → HasCleanDisk new → HasTablesIn layout old.now tables
      → HasTables new.now (record tables {
        choices = [];
        words = [];
        results = [];
        moves = [];
        lists = [];
        grades = [];
        going = [];
      })
  pub mode : HasCleanDisk new → new.in_transaction ≡ old.in_transaction
