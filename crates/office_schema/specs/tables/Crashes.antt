-- What was committed, and what a crash may leave. The field `may_leave` of a state says which tables an open after a
-- crash may find.
use Rattle.std.specs.Prelude.{◌≡◌, ◌⊎◌, IsTrue}
use Rattle.sqlite_trees.specs.Tree.{Trees}
use Rattle.sqlite.specs.Effect.{Database}
use Rattle.sqlite.specs.State.{State, HasCleanDisk}

-- While the connection is open, it shows what was committed last.
abbrev pub ShowsCommitted : State → Type 0
ShowsCommitted s = IsTrue s.is_open → s.now ≡ s.committed

-- If the disk is clean now, the connection was open before.
abbrev pub WasOpen : State → State → Type 0
WasOpen old new = HasCleanDisk new → IsTrue old.is_open

-- A crash leaves nothing that it could not leave before: nothing was committed.
abbrev pub LeavesNothingNew : State → State → Type 0
LeavesNothingNew old new = HasCleanDisk new → (db : Trees) → new.may_leave db → old.may_leave db

-- A crash leaves what it could leave before, or the tables of a database that `IsCommitted` describes: nothing else
-- was committed.
abbrev pub LeavesOldOr : (Database → Type 0) → State → State → Type 0
LeavesOldOr IsCommitted old new =
    HasCleanDisk new → (db : Trees) → new.may_leave db
    → old.may_leave db ⊎ ((after : Database) × (db ≡ after.trees) × IsCommitted after)
