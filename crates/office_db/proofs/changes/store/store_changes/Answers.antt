use Rattle.std.proofs.Common.{rules, ◌≡◌, ◌<◌, List, length, IsTrue, sym, subst}
use Rattle.sqlite_trees.specs.Tree.{Trees}
use Rattle.sqlite.specs.Effect.{Database}
use Rattle.sqlite.specs.Held.{state}
use Rattle.sqlite.specs.State.{State, HasCleanDisk, Survives}
use Rattle.office_state.specs.declared.change.Change.{Change}
use Rattle.office_state.specs.declared.office.Office.{Office}
use Rattle.office_schema.specs.tables.Crashes.{LeavesOldOr}
use Rattle.office_schema.specs.tables.Steps.{StaysInside}
use Rattle.office_schema.specs.tables.Tables.{HoldsOffice}
use Rattle.office_schema.proofs.statements.Crashes.{committed_once}
use Rattle.office_db.specs.changes.StoresChanges.{CommitsChanges, StoresChanges}
use Rattle.office_db.proofs.changes.store.store_changes.Goals as goal

-- What the transaction commits: `begun` is its first state, and `mid` its last.
stored_once : (first : Office) (old begun mid new : State) (changes : List Change) → begun.now ≡ old.now
    → begun.is_open ≡ old.is_open
    → ((db : Trees) → begun.may_leave db → old.may_leave db) → StaysInside begun mid
    → StoresChanges first begun mid changes
    → (0 < length changes → HasCleanDisk mid → IsTrue begun.is_open) → Survives mid new (λ db. db ≡ mid.now.trees)
    → LeavesOldOr (CommitsChanges first old changes) old new
stored_once first old begun mid new changes same open_ before inside made was_open =
    committed_once (CommitsChanges first old changes) old begun mid new before inside (λ clean. record {
      was_open = λ some. subst (λ b. IsTrue b) open_ (was_open some clean);
      stored = λ office fits well_formed was.
          (made.shown office clean fits well_formed (subst (λ (d : Database). HoldsOffice d office) (sym same) was)).0;
    })

pub returns-in_err-commit-clause-crash : goal.returns-in_err-commit-clause-crash
returns-in_err-commit-clause-crash g c =
    let old = state g.S.Store c.args.conn.now in
    let same : c.conn-2-1.given.0 ≡ c.commit.new.self.0 = search rules in
    subst (λ k. LeavesOldOr (CommitsChanges c.args.office.now old c.args.changes.now) old (state g.S.Store k))
    (sym same)
    (stored_once c.args.office.now old (state g.S.Store c.transaction-tx.result.conn.now)
    (state g.S.Store c.apply_changes.new.tx.conn.now) (state g.S.Store c.commit.new.self.0)
    c.args.changes.now (search rules) (search rules) (search rules) c.apply_changes.ensures.runs.inside
    c.in_ok-apply_changes.ensures.runs.made c.in_ok-apply_changes.ensures.was_open
    c.commit.ensures.survives)

pub returns-clause-crash : goal.returns-clause-crash
returns-clause-crash g c =
    let old = state g.S.Store c.args.conn.now in
    let same : c.conn-2-1.given.0 ≡ c.commit.new.self.0 = search rules in
    subst (λ k. LeavesOldOr (CommitsChanges c.args.office.now old c.args.changes.now) old (state g.S.Store k))
    (sym same)
    (stored_once c.args.office.now old (state g.S.Store c.transaction-tx.result.conn.now)
    (state g.S.Store c.apply_changes.new.tx.conn.now) (state g.S.Store c.commit.new.self.0)
    c.args.changes.now (search rules) (search rules) (search rules) c.apply_changes.ensures.runs.inside
    c.in_ok-apply_changes.ensures.runs.made c.in_ok-apply_changes.ensures.was_open
    c.commit.ensures.survives)
