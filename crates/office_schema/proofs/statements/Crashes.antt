-- What a crash may leave after calls, one after another, and after a transaction.
use Rattle.std.proofs.Common.{◌≡◌, inl, inr, arith}
use Rattle.sqlite_trees.specs.Tree.{Trees}
use Rattle.sqlite.specs.Effect.{Database}
use Rattle.sqlite.specs.State.{State, HasCleanDisk, Survives}
use Rattle.office_schema.specs.tables.Crashes.{WasOpen, LeavesNothingNew, LeavesOldOr}
use Rattle.office_schema.specs.tables.Steps.{StaysInside}

-- A call inside a transaction that runs on an open connection follows others inside it.
pub was_open_then : (a b c : State) → StaysInside a b → (HasCleanDisk c → HasCleanDisk b) → WasOpen b c → WasOpen a c
was_open_then a b c inside early p clean = (inside.kept (early clean)).was_open (p clean)

pub nothing_new_then : (a b c : State) → (HasCleanDisk c → HasCleanDisk b) → LeavesNothingNew a b → LeavesNothingNew b c
    → LeavesNothingNew a c
nothing_new_then a b c early p q clean db may = p (early clean) db (q clean db may)

pub survives_nothing_new : (a b : State) → Survives a b (λ _. ⊥) → LeavesNothingNew a b
survives_nothing_new a b survives clean db may = elim (survives.crash clean db may) [
  | inl was ↦ was
  | inr none ↦ absurd none
]

-- Nothing is committed by a call that comes before.
pub old_or_then : (P : Database → Type 0) (a b c : State) → (HasCleanDisk c → HasCleanDisk b) → LeavesNothingNew a b
    → LeavesOldOr P b c → LeavesOldOr P a c
old_or_then P a b c early p q clean db may = elim (q clean db may) [
  | inl was ↦ inl (p (early clean) db was)
  | inr is ↦ inr is
]

pub old_or_weaker : (P Q : Database → Type 0) (a b : State) → (HasCleanDisk b → (after : Database) → P after → Q after)
    → LeavesOldOr P a b → LeavesOldOr Q a b
old_or_weaker P Q a b weaker p clean db may = elim (p clean db may) [
  | inl was ↦ inl was
  | inr is ↦ inr (is.0, is.1, weaker clean is.0 is.2)
]

-- A transaction is committed once: `begun` is its first state, and `mid` its last.
pub committed_once : (P : Database → Type 0) (old begun mid new : State)
    → ((db : Trees) → begun.may_leave db → old.may_leave db)
    → StaysInside begun mid → (HasCleanDisk mid → P mid.now) → Survives mid new (λ db. db ≡ mid.now.trees)
    → LeavesOldOr P old new
committed_once P old begun mid new before inside made commits clean db may =
    let at_mid : HasCleanDisk mid = omega (arith, clean, commits.clean) in
    elim (commits.crash clean db may) [
      | inl kept ↦ inl (before db (survives_nothing_new begun mid inside.survives at_mid db kept))
      | inr is ↦ inr (mid.now, is, made at_mid)
    ]
