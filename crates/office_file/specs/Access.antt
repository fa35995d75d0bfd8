-- Opening and closing the files of offices.
use Rattle.std.specs.Prelude.{ℕ, List}
use Rattle.sqlite_trees.specs.declared.store.Store.{Ghosts}
use Rattle.sqlite.specs.Held.{Held}

-- What an implementation of the traits `Files` and `Closes` does. `base` gives the state of a connection's database.
-- Each other field relates the states of the implementation before and after a call: an `open` (`opens`) or
-- `open_present` (`finds`) that succeeds, one of these that fails (`fails`), and a `close` (`closes`).
pub record FileAccess (F S : Type 0) : Type 1 where
  pub base : Ghosts S
  pub opens : F → List ℕ → Held S → F → Type 0
  pub finds : F → List ℕ → Held S → F → Type 0
  pub fails : F → List ℕ → F → Type 0
  pub closes : F → Held S → F → Type 0

-- the record of the ghost members of the traits `Files` and `Closes`
abbrev pub file_access : {F S : Type 0} → Ghosts S → (F → List ℕ → Held S → F → Type 0) → (F → List ℕ → Held S → F → Type 0) → (F → List ℕ → F → Type 0) → (F → Held S → F → Type 0)
    → FileAccess F S
file_access base opens finds fails closes = record { base = base; opens = opens; finds = finds; fails = fails; closes = closes }
