-- The effect of creating an office.
use Rattle.std.specs.Prelude.{◌≡◌}
use Rattle.sqlite.specs.State.{State, HasCleanDisk}
use Rattle.office_state.specs.Office.{empty_office}
use Rattle.office_schema.specs.tables.Schema.{no_schema}
use Rattle.office_schema.specs.tables.Tables.{HoldsOffice}

-- If nothing was declared, the tables now hold the rows of the empty office.
pub record Starts (old new : State) : Type 0 where
  pub shown : HasCleanDisk new → old.now.schema ≡ no_schema → HoldsOffice new.now empty_office
  pub mode : HasCleanDisk new → new.in_transaction ≡ old.in_transaction
