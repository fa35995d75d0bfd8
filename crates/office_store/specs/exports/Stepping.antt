-- Reading the rows of a query one at a time.
use Rattle.std.specs.Prelude.{◌≡◌, ℕ, List, [], Option, Some, None, Vec, IsTrue}
use Rattle.std.specs.declared.alloc.Global.{Global}
use Rattle.sqlite_trees.specs.declared.store.Store.{Ghosts}
use Rattle.sqlite_value.specs.Order.{Row}
use Rattle.sqlite.specs.Given.{Advances, HasGiven}
use Rattle.sqlite.specs.Held.{Held, state}
use Rattle.sqlite.specs.State.{State, HasCleanDisk}
use Rattle.office_state.specs.Office.Invariants.{IsLawful}
use Rattle.office_state.specs.declared.office.Office.{Office}
use Rattle.office_lists.specs.Exports.{record_bytes}
use Rattle.office_lists.specs.Records.{Record}
use Rattle.office_schema.specs.tables.Tables.{HoldsOffice}

-- If the connection is open, it was open before. If in addition it had no uncommitted changes before, the tables and
-- the last commit are unchanged.
abbrev pub KeepsTables : State → State → Type 0
KeepsTables old new =
    IsTrue new.is_open → IsTrue old.is_open
    × (old.now ≡ old.committed → (new.now ≡ old.now) × (new.committed ≡ old.committed))

-- While the connection is open, the tables hold the rows of this office. The office is lawful.
pub record HoldsLawfulOffice (s : State) (office : Office) : Type 0 where
  pub tables : IsTrue s.is_open → HoldsOffice s.now office
  pub lawful : IsLawful office

module _ {S : Type 0} (g : Ghosts S) where
  -- The query with this text has returned no row yet. The tables hold the rows of a lawful office.
  pub record IsAtStart (text : List ℕ) (held : Held S) (office : Office) : Type 0 where
    pub begun : HasGiven g text [] held []
    pub holds : HoldsOffice (state g held).now office
    pub lawful : IsLawful office

  -- The bytes are the record of the next row of the running query. `None` means that all rows have been read, if the
  -- disk returned what was written.
  abbrev pub GivesRecord : (Row → Record) → Held S → Held S → Option (Vec ℕ Global) → Type 0
  GivesRecord fields old new None = HasCleanDisk (state g new) → Advances g old new None
  GivesRecord fields old new (Some bytes) =
      (row : Row) × (bytes.items ≡ record_bytes (fields row))
      × (HasCleanDisk (state g new) → Advances g old new (Some row))
