-- The effect of a call on a transaction. `g` says what the store of the connection holds.
use Rattle.std.specs.Prelude.{◌≡◌, Result, OnOk, OnErr}
use Rattle.sqlite_trees.specs.declared.store.Store.{Ghosts}
use Rattle.sqlite.specs.Held.{state}
use Rattle.sqlite.specs.State.{State}
use Rattle.sqlite.specs.declared.error.Error.{Error}
use Rattle.sqlite.specs.declared.transaction.Transaction.{Transaction}
use Rattle.office_schema.specs.rows.Tables.{Tables}
use Rattle.office_schema.specs.tables.Crashes.{WasOpen}
use Rattle.office_schema.specs.tables.Makes.{Makes}
use Rattle.office_schema.specs.tables.Steps.{IsUndone, StaysInside}

-- The call runs one statement. The transaction keeps its connection, and nothing is committed. On `Ok`, `Made` relates
-- the states before and after, and the connection was open. On an error nothing has changed, or the transaction is
-- rolled back.
pub record Runs {S : Type 0} (g : Ghosts S) (old new : Transaction S) (result : Result Unit Error)
    (Made : State → State → Type 0) : Type 0 where
  pub same_reference : new.conn.ghost_name ≡ old.conn.ghost_name
  pub made : OnOk result (Made (state g old.conn.now) (state g new.conn.now))
  pub undone : OnErr result (IsUndone (state g old.conn.now) (state g new.conn.now))
  pub was_open : OnOk result (WasOpen (state g old.conn.now) (state g new.conn.now))
  pub inside : StaysInside (state g old.conn.now) (state g new.conn.now)

-- The call runs one statement, which edits the tables of an office by `change`.
abbrev pub Edits : {S : Type 0} → Ghosts S → Transaction S → Transaction S → Result Unit Error → (Tables → Tables)
    → Type 0
Edits g old new result change = Runs g old new result (λ before after. Makes before after change)

-- The call runs some statements, or none. The transaction keeps its connection, and nothing is committed. On `Ok`,
-- `Made` relates the states before and after. The record does not say what an error leaves, or whether the connection
-- was open.
pub record RunsSome {S : Type 0} (g : Ghosts S) (old new : Transaction S) (result : Result Unit Error)
    (Made : State → State → Type 0) : Type 0 where
  pub same_reference : new.conn.ghost_name ≡ old.conn.ghost_name
  pub made : OnOk result (Made (state g old.conn.now) (state g new.conn.now))
  pub inside : StaysInside (state g old.conn.now) (state g new.conn.now)
