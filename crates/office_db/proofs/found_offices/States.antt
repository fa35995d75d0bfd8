-- What a query does to a connection that is outside a transaction.
use Rattle.std.proofs.Common.{◌≡◌, ℕ, List, Option, Some, None, IsSome, IsTrue, true≢false, sym, ◌∙◌, subst, inl, inr}
use Rattle.std.proofs.Common.{arith}
use Rattle.sqlite_trees.specs.Tree.{Trees}
use Rattle.sqlite_value.specs.Order.{Row}
use Rattle.sqlite_resolve.specs.declared.compiled.Compiled.{Compiled}
use Rattle.sqlite_schema.specs.declared.command.Returning.{Returning}
use Rattle.sqlite.specs.Clock.{timed}
use Rattle.sqlite.specs.Listing.{understood}
use Rattle.sqlite.specs.declared.error.Error.{Error}
use Rattle.sqlite.specs.State.{State, HasCleanDisk, CommitsShowing, Survives, Shown, ShowsRows, IsUnchanged}
use Rattle.sqlite.specs.State.{FailsToQuery, FailsToShow, IsNotRun, IsRolledBack}
use Rattle.office_schema.specs.tables.Crashes.{LeavesNothingNew, ShowsCommitted}
use Rattle.office_schema.specs.tables.Steps.{Follows}
use Rattle.office_schema.specs.tables.Asking.{NeverReturns, OnlyAsks}
use Rattle.office_db.specs.loading.Reading.{OnlyReads}

module _ (sql : List ℕ) (params : Row) (old new : State) where
  shown_was_open : (rows : List Row) → Shown sql params old new rows → IsTrue old.is_open
  unfolding Shown
  shown_was_open rows h = go h.0.returning h.2
    where
      go : (what : Option Returning) → ShowsRows old new sql h.0 (timed params h.0.formats h.1.now) rows what
          → IsTrue old.is_open
      go None it = it.3.0.was_open
      go (Some what) it = it.1.shown.was_open

  -- The connection is open after it.
  pub shown_is_open : (rows : List Row) → Shown sql params old new rows → IsTrue new.is_open
  unfolding Shown
  shown_is_open rows h = go h.0.returning h.2
    where
      go : (what : Option Returning) → ShowsRows old new sql h.0 (timed params h.0.formats h.1.now) rows what
          → IsTrue new.is_open
      go None it = it.3.0.is_open
      go (Some what) it = it.1.shown.is_open

  -- An open connection sees the same database as before.
  abbrev Stays : Type 0
  Stays = IsTrue new.is_open → IsTrue old.is_open × (IsTrue old.is_open → old.now ≡ old.committed → new.now ≡ old.now)

  unchanged_stays : IsUnchanged old new → Stays
  unchanged_stays h o = (h.0.was_open, λ was same. h.0.now_is)

  undone_stays : IsRolledBack old new → Stays
  undone_stays h o = (h.was_open o, λ was same. (h.undone o).0 ∙ sym same)

  failed_stays : (e : Error) → FailsToQuery sql params old new e → Stays
  unfolding FailsToQuery IsNotRun
  failed_stays e (inl (inl h)) = unchanged_stays h.1
  failed_stays e (inl (inr h)) = undone_stays h.3
  failed_stays e (inr h) = go h.0.returning h.2
    where
      go : (what : Option Returning) → FailsToShow old new sql h.0 (timed params h.0.formats h.1.now) e what → Stays
      go None it = unchanged_stays it.3
      go (Some what) (inl it) = unchanged_stays it.1
      go (Some what) (inr it) = undone_stays it.3

  -- The query leaves the connection as it was.
  pub shown_unchanged : (rows : List Row) → NeverReturns (understood old.now.schema sql) → Shown sql params old new rows
      → IsUnchanged old new
  unfolding Shown
  shown_unchanged rows never h =
      let none = subst NeverReturns h.1.is never in
      let it = subst (ShowsRows old new sql h.0 (timed params h.0.formats h.1.now) rows) none h.2 in it.3

  survivor_follows : (Commits : Trees → Type 0) → Survives old new Commits
      → (HasCleanDisk new → IsTrue new.is_open → IsTrue old.is_open) → Follows old new
  survivor_follows Commits survives was_open = record {
    clean = λ h. omega (arith, h, survives.clean);
    was_open = was_open;
    counts = survives.counts;
    limit = survives.limit;
    closes = survives.closes;
  }

  -- A query without a RETURNING clause commits nothing.
  pub asks_nothing_new : OnlyAsks sql → Survives old new (CommitsShowing sql params old) → LeavesNothingNew old new
  unfolding CommitsShowing
  asks_nothing_new asks survives clean db may = elim (survives.crash clean db may) [
    | inl was ↦ was
    | inr shows ↦ absurd (never_returns shows.0 (subst NeverReturns shows.1.is (asks old.now.schema)) shows.2)
  ]
    where
      never_returns : (c : Compiled) → c.returning ≡ None → IsSome c.returning → ⊥
      never_returns c never some = true≢false (sym (subst IsSome never some))

  -- after its rows were returned
  pub reads_shown : Survives old new (CommitsShowing sql params old) → (rows : List Row) → OnlyAsks sql
      → (HasCleanDisk new → Shown sql params old new rows) → OnlyReads old new
  reads_shown survives rows asks h = record {
    keeps = record {
      follows = survivor_follows (CommitsShowing sql params old) survives (λ clean o. shown_was_open rows (h clean));
      same = λ intact. (shown_unchanged rows (asks old.now.schema) (h intact.0)).0.now_is;
    };
    crash = asks_nothing_new asks survives;
  }

  -- after it failed
  pub reads_failed : (Commits : Trees → Type 0) → Survives old new Commits → LeavesNothingNew old new → (e : Error)
      → ShowsCommitted old
      → (HasCleanDisk new → FailsToQuery sql params old new e) → OnlyReads old new
  reads_failed Commits survives nothing e settled h = record {
    keeps = record {
      follows = survivor_follows Commits survives (λ clean o. (failed_stays e (h clean) o).0);
      same = λ intact. let stays = failed_stays e (h intact.0) intact.1 in stays.1 stays.0 (settled stays.0);
    };
    crash = nothing;
  }
