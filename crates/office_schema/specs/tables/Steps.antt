-- The effects on a database of a call inside a transaction, and of a whole transaction.
use Rattle.std.specs.Prelude.{◌≡◌, ◌⊎◌, ℕ, ◌≤◌, false, List, Ok, IsTrue}
use Rattle.sqlite_disk.specs.Disk.{MoreFaults}
use Rattle.sqlite_value.specs.Order.{Row}
use Rattle.sqlite.specs.State.{State, HasCleanDisk, KeepsCommit, Survives, Executes}

-- The disk has returned what was written to it, and the connection is open.
abbrev pub IsIntact : State → Type 0
IsIntact s = HasCleanDisk s × IsTrue s.is_open

-- If the disk is clean now, it was clean before. On a clean disk, a closed connection stays closed, and an open one
-- closes only after a new fault. The number of faults never falls. The limit of steps, past which the engine refuses
-- a statement, is unchanged. So the engine does not refuse, for its steps, a statement that ran before.
pub record Follows (old new : State) : Type 0 where
  pub clean : HasCleanDisk new → HasCleanDisk old
  pub was_open : HasCleanDisk new → IsTrue new.is_open → IsTrue old.is_open
  pub counts : old.faults ≤ new.faults
  pub limit : new.step_limit ≡ old.step_limit
  pub closes : HasCleanDisk new → IsTrue old.is_open
      → IsTrue new.is_open ⊎ MoreFaults old.faults new.faults

-- Nothing was committed, and a crash leaves what it would have left before.
pub record StaysInside (old new : State) : Type 0 where
  pub kept : HasCleanDisk new → KeepsCommit old new
  pub survives : Survives old new (λ _. ⊥)

-- The transaction sees the same data as before, and is open if and only if it was open before.
abbrev pub SeesTheSame : State → State → Type 0
SeesTheSame old new = (new.now ≡ old.now) × (new.in_transaction ≡ old.in_transaction)

-- The whole transaction is rolled back, and it has ended.
abbrev pub RollsBack : State → State → Type 0
RollsBack old new = (new.now ≡ old.committed) × (new.in_transaction ≡ false)

-- The state after the engine refused a statement, or the statement failed: nothing has changed, or the transaction is
-- rolled back.
abbrev pub IsUndone : State → State → Type 0
IsUndone old new = IsIntact new → SeesTheSame old new ⊎ RollsBack old new

-- The statement has run, and neither began nor ended a transaction.
pub record HasRun (text : List ℕ) (params : Row) (old new : State) : Type 0 where
  pub count : ℕ
  pub ran : Executes text params old new (Ok count)
  pub mode : new.in_transaction ≡ old.in_transaction
