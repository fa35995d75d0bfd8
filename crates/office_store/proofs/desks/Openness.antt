-- What the empty statement says of the connection of a desk.
use Rattle.std.proofs.Common.{◌≡◌, ℕ, List, [], Bool, true, false, Option, Result, Ok, Err, IfOk, IsTrue, refl, sym}
use Rattle.std.proofs.Common.{◌∙◌, subst, inl, inr, arith}
use Rattle.sqlite_value.specs.Order.{Row}
use Rattle.sqlite_trees.specs.declared.error.StoreError.{StoreError}
use Rattle.sqlite_trees.specs.declared.error.StoreError.TheVariants.{OutOfMemory, Io, Corrupt, Full, Broken, Unstorable}
use Rattle.sqlite_trees.specs.declared.store.Store.{Ghosts}
use Rattle.sqlite.specs.Held.{Held, state}
use Rattle.sqlite.specs.declared.error.Error.{Error}
use Rattle.sqlite.specs.declared.error.Error.TheVariants.{SqliteFailure}
use Rattle.sqlite.specs.declared.error.ErrorCode.TheVariants as code
use Rattle.sqlite.specs.State.{State, HasCleanDisk, HasCause, Survives, FailsToQuery, IsNoStatement, IsNotRun}
use Rattle.sqlite.specs.State.{IsUnchanged, store_error}
use Rattle.office_state.specs.declared.office.Office.{Office}
use Rattle.office_schema.specs.tables.Crashes.{ShowsCommitted}
use Rattle.office_schema.proofs.statements.Crashes.{survives_nothing_new}
use Rattle.office_db.specs.loading.Reading.{OnlyReads}
use Rattle.office_db.proofs.found_offices.States.{reads_failed}
use Rattle.office_store.proofs.desks.Requests.{represents_still}
use Rattle.office_store.specs.Handling.{TellsIfOpen}
use Rattle.office_store.specs.declared.desk.faults.Unavailable.{Unavailable as NoAnswer}

module _ (sql : List ℕ) (params : Row) (old new : State) where
  -- No statement is refused because the connection is closed.
  not_refused : IsNoStatement old sql params (SqliteFailure code.Closed) → ⊥
  not_refused (inl h) = cc (h.2)
  not_refused (inr (c, is, inl h)) = cc (h.1)
  not_refused (inr (c, is, inr (inl h))) = cc (h.1)
  not_refused (inr (c, is, inr (inr h))) = cc (h.1)

  -- Of the failures of a store, only that of a closed one is reported so.
  closed_by : (cause : StoreError) → SqliteFailure code.Closed ≡ store_error cause → HasCause old new ⊥ cause
      → old.is_open ≡ false
  closed_by OutOfMemory e h = absurd (cc (e))
  closed_by Io e h = absurd (cc (e))
  closed_by Corrupt e h = absurd (cc (e))
  closed_by Full e h = absurd (cc (e))
  closed_by Broken e h = h
  closed_by Unstorable e h = absurd h

  was_closed : IsNotRun old new sql params (SqliteFailure code.Closed) → old.is_open ≡ false
  unfolding IsNotRun
  was_closed (inl h) = absurd (not_refused h.0)
  was_closed (inr h) = closed_by h.0 h.1 h.2

  -- A closed connection stays closed.
  stays_closed : (is_open : Bool) → (IsTrue is_open → IsTrue old.is_open) → old.is_open ≡ false → is_open ≡ false
  stays_closed true was shut = absurd (cc (was refl, shut))
  stays_closed false was shut = refl

  reads_prepared : Survives old new (λ _. ⊥) → (HasCleanDisk new → IsUnchanged old new) → OnlyReads old new
  reads_prepared survives same = record {
    keeps = record {
      follows = record {
        clean = λ h. omega (arith, h, survives.clean);
        was_open = λ clean o. (same clean).0.was_open;
        counts = survives.counts;
        limit = survives.limit;
        closes = survives.closes;
      };
      same = λ intact. (same intact.0).0.now_is;
    };
    crash = survives_nothing_new old new survives;
  }

  reads_not_run : Survives old new (λ _. ⊥) → (e : Error) → ShowsCommitted old
      → (HasCleanDisk new → IsNotRun old new sql params e) → OnlyReads old new
  unfolding FailsToQuery
  reads_not_run survives e settled failed =
      reads_failed sql params old new (λ _. ⊥) survives (survives_nothing_new old new survives) e settled
      (λ clean. inl (failed clean))

module _ {S : Type 0} (g : Ghosts S) (old new : Held S) (cached : Option Office)
    (survives : Survives (state g old) (state g new) (λ _. ⊥)) where
  -- what the desk says if its connection prepared the empty statement
  pub tells_open : ShowsCommitted (state g new) → (HasCleanDisk (state g new) → IsUnchanged (state g old) (state g new))
      → TellsIfOpen g (record { conn = old; cached = cached }) (Ok true) (record { conn = new; cached = cached })
  tells_open committed same =
      let reads = reads_prepared [] [] (state g old) (state g new) survives same in
      record {
        reads = reads;
        committed = committed;
        cached = refl;
        right = λ clean. sym (same clean).0.is_open;
        represents =
            λ clean office represents. represents_still g old new cached office clean reads.keeps.follows
            reads.keeps.same represents;
      }

  -- what the desk says if its connection did not prepare it
  pub tells_failed : ShowsCommitted (state g new) → ShowsCommitted (state g old) → (e : Error)
      → (HasCleanDisk (state g new) → (params : Row) → IsNotRun (state g old) (state g new) [] params e)
      → (answer : Result Bool NoAnswer) → IfOk answer (λ is_open. (is_open ≡ false) × (e ≡ SqliteFailure code.Closed))
      → TellsIfOpen g (record { conn = old; cached = cached }) answer (record { conn = new; cached = cached })
  tells_failed committed settled e failed answer said =
      let reads = reads_not_run [] [] (state g old) (state g new) survives e settled (λ clean. failed clean []) in
      record {
        reads = reads;
        committed = committed;
        cached = refl;
        right = λ clean. right_of answer said clean (reads.keeps.follows.was_open clean);
        represents =
            λ clean office represents. represents_still g old new cached office clean reads.keeps.follows
            reads.keeps.same represents;
      }
    where
      right_of : (answer : Result Bool NoAnswer)
          → IfOk answer (λ is_open. (is_open ≡ false) × (e ≡ SqliteFailure code.Closed))
          → HasCleanDisk (state g new) → (IsTrue (state g new).is_open → IsTrue (state g old).is_open)
          → IfOk answer (λ is_open. is_open ≡ (state g new).is_open)
      right_of (Err fault) said clean was = tt
      right_of (Ok is_open) said clean was =
          let shut =
          was_closed [] [] (state g old) (state g new)
          (subst (λ x. IsNotRun (state g old) (state g new) [] [] x) said.1 (failed clean [])) in
          said.0 ∙ sym (stays_closed [] [] (state g old) (state g new) (state g new).is_open was shut)
