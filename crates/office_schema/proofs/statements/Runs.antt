-- What follows from the effect of a call on a transaction, and the effect of two calls.
use Rattle.std.proofs.Common.{Result, Ok, ◌∙◌, arith}
use Rattle.std.proofs.lemmas.Result.{on_ok_weaker}
use Rattle.sqlite_trees.specs.declared.store.Store.{Ghosts}
use Rattle.sqlite.specs.Held.{state}
use Rattle.sqlite.specs.State.{State, HasCleanDisk}
use Rattle.sqlite.specs.declared.error.Error.{Error}
use Rattle.sqlite.specs.declared.transaction.Transaction.{Transaction}
use Rattle.office_schema.specs.tables.Runs.{Runs, RunsSome}
use Rattle.office_schema.proofs.statements.Steps.{inside_then}

module _ {S : Type 0} {g : Ghosts S} where
  -- The call also makes what follows from what it makes.
  pub runs_so : {old new : Transaction S} {result : Result Unit Error} {P Q : State → State → Type 0}
      → Runs g old new result P
      → (P (state g old.conn.now) (state g new.conn.now) → Q (state g old.conn.now) (state g new.conn.now))
      → Runs g old new result Q
  runs_so runs weaker = record {
    same_reference = runs.same_reference;
    made = on_ok_weaker _ weaker runs.made;
    undone = runs.undone;
    was_open = runs.was_open;
    inside = runs.inside;
  }

  -- One statement is some statements.
  pub some_of : {old new : Transaction S} {result : Result Unit Error} {P : State → State → Type 0}
      → Runs g old new result P → RunsSome g old new result P
  some_of runs = record { same_reference = runs.same_reference; made = runs.made; inside = runs.inside }

  -- The second call comes after the first, which succeeded.
  pub some_then : {old mid new : Transaction S} {done : Unit} {result : Result Unit Error}
      {P Q R : State → State → Type 0}
      → RunsSome g old mid (Ok done) P → RunsSome g mid new result Q
      → ((HasCleanDisk (state g new.conn.now) → HasCleanDisk (state g mid.conn.now))
      → P (state g old.conn.now) (state g mid.conn.now) → Q (state g mid.conn.now) (state g new.conn.now)
      → R (state g old.conn.now) (state g new.conn.now))
      → RunsSome g old new result R
  some_then first second both = record {
    same_reference = second.same_reference ∙ first.same_reference;
    made = on_ok_weaker _ (both (λ clean. omega (arith, second.inside.survives.clean)) first.made) second.made;
    inside = inside_then _ _ _ first.inside second.inside;
  }
