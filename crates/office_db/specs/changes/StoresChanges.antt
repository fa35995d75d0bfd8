-- The effect of calls on a database that has the tables of an office.
use Rattle.std.specs.Prelude.{◌≡◌, ◌<◌, List, length, IsTrue}
use Rattle.sqlite.specs.Effect.{Database}
use Rattle.sqlite.specs.State.{State, HasCleanDisk}
use Rattle.office_state.specs.Change.{applied, applied_all, Fits, AllFit}
use Rattle.office_state.specs.declared.change.Change.{Change}
use Rattle.office_state.specs.declared.office.Office.{Office}
use Rattle.office_schema.specs.cells.WellFormed.{IsWellFormed}
use Rattle.office_schema.specs.rows.Tables.{Tables, rows_of}
use Rattle.office_schema.specs.tables.Tables.{HasTables, HoldsOffice}

-- If the database had the tables `tables`, and each row had the form of its table, the database now has the tables
-- `change tables`. Each row still has the form of its table.
pub record Turns (old new : State) (change : Tables → Tables) : Type 0 where
  pub shown : (tables : Tables) → HasCleanDisk new → IsWellFormed tables → HasTables old.now tables
      → HasTables new.now (change tables) × IsWellFormed (change tables)
  pub mode : HasCleanDisk new → new.in_transaction ≡ old.in_transaction

-- If the tables held the rows of an office, each in the form of its table, and the change fits this office, then the
-- tables now hold the rows of the office after the change. Each row still has the form of its table. `first` is the
-- office before all changes of the command.
pub record StoresChange (first : Office) (old new : State) (change : Change) : Type 0 where
  pub shown : (office : Office) → HasCleanDisk new → Fits first office change
      → IsWellFormed (rows_of office)
      → HoldsOffice old.now office
      → HoldsOffice new.now (applied office change) × IsWellFormed (rows_of (applied office change))
  pub mode : HasCleanDisk new → new.in_transaction ≡ old.in_transaction

-- The change is stored for any office `first`.
abbrev pub StoresAlways : State → State → Change → Type 0
StoresAlways old new change = (first : Office) → StoresChange first old new change

-- If the tables held the rows of an office, each in the form of its table, they now hold the rows of the office after
-- all changes. Each row still has the form of its table. This presupposes that each change fits the office that
-- results from the changes before it. `first` is the office before all changes of the command.
pub record StoresChanges (first : Office) (old new : State) (changes : List Change) : Type 0 where
  pub shown : (office : Office) → HasCleanDisk new → AllFit first office changes
      → IsWellFormed (rows_of office)
      → HoldsOffice old.now office
      → HoldsOffice new.now (applied_all office changes)
      × IsWellFormed (rows_of (applied_all office changes))
  pub mode : HasCleanDisk new → new.in_transaction ≡ old.in_transaction

-- `after` is what a call commits that stores the changes in the database that `old` shows. If the tables held the rows
-- of an office that the changes fit, `after` holds the rows of the office after all changes. If there are changes, the
-- connection was open.
pub record CommitsChanges (first : Office) (old : State) (changes : List Change) (after : Database) : Type 0 where
  pub was_open : 0 < length changes → IsTrue old.is_open
  pub stored : (office : Office) → AllFit first office changes → IsWellFormed (rows_of office)
      → HoldsOffice old.now office → HoldsOffice after (applied_all office changes)
