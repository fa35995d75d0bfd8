-- The effect of a statement on a database that has the tables of an office.
use Rattle.std.specs.Prelude.{◌≡◌}
use Rattle.sqlite.specs.State.{State, HasCleanDisk}
use Rattle.office_schema.specs.rows.Tables.{Tables}
use Rattle.office_schema.specs.tables.Tables.{HasTables}

-- If the database had the tables `tables`, it now has the tables `change tables`.
pub record Makes (old new : State) (change : Tables → Tables) : Type 0 where
  pub shown : (tables : Tables) → HasCleanDisk new → HasTables old.now tables
      → HasTables new.now (change tables)
  pub mode : HasCleanDisk new → new.in_transaction ≡ old.in_transaction
