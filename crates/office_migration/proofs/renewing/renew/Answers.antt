use Rattle.std.proofs.Common.{rules, ◌≡◌, arith, sym, subst}
use Rattle.sqlite.specs.Effect.{Database}
use Rattle.sqlite.specs.Held.{state}
use Rattle.sqlite.specs.State.{State, Survives}
use Rattle.office_schema.specs.declared.rows.records.OfficeRecords.{OfficeRecords}
use Rattle.office_schema.specs.declared.tables.layouts.Layout.{Layout}
use Rattle.office_schema.specs.tables.Crashes.{LeavesOldOr}
use Rattle.office_schema.specs.tables.Refilling.{Migrates}
use Rattle.office_schema.specs.tables.Steps.{StaysInside}
use Rattle.office_schema.specs.tables.InLayout.{HasTablesIn}
use Rattle.office_schema.proofs.statements.Crashes.{committed_once}
use Rattle.office_migration.specs.Inner.Renewed.{HoldsRecords}
use Rattle.office_migration.proofs.earlier.Committed.{committed}
use Rattle.office_migration.proofs.renewing.renew.Goals as goal

pub returns-clause-made : goal.returns-clause-made
returns-clause-made g c =
    let old = state g.S.Store c.args.conn.now in
    let begun = state g.S.Store c.transaction-tx.result.conn.now in
    let mid = state g.S.Store c.migrate_tables.new.tx.conn.now in
    let new = state g.S.Store c.commit.new.self.0 in
    let same : c.conn-2-1.given.0 ≡ c.commit.new.self.0 = search rules in
    let done = committed c.args.layout c.args.records.now old begun mid new c.in_ok-migrate_tables.ensures.made
    (cc (c.transaction-tx.ensures.begun))
    (λ clean. omega (arith, clean, c.commit.ensures.survives.clean))
    (λ clean. (c.in_ok-commit.ensures.ok clean).1.now_is) c.requires c.in_ok-commit.ensures.ended in
    subst (λ k. Migrates c.args.layout c.args.records.now old (state g.S.Store k)) (sym same) done

-- What the transaction commits: `begun` is its first state, and `mid` its last.
renewed_once : (layout : Layout) (records : OfficeRecords) (old begun mid new : State) → begun.now ≡ old.now
    → ((db : _) → begun.may_leave db → old.may_leave db)
    → StaysInside begun mid → Migrates layout records begun mid → Survives mid new (λ db. db ≡ mid.now.trees)
    → LeavesOldOr (HoldsRecords layout records old.now) old new
renewed_once layout records old begun mid new same before inside made =
    committed_once (HoldsRecords layout records old.now) old begun mid new before inside
    (λ clean tables has are. made.shown tables clean
    (subst (λ (d : Database). HasTablesIn layout d tables) (sym same) has) are)

pub returns-in_err-commit-clause-crash : goal.returns-in_err-commit-clause-crash
returns-in_err-commit-clause-crash g c =
    let old = state g.S.Store c.args.conn.now in
    let same : c.conn-2-1.given.0 ≡ c.commit.new.self.0 = search rules in
    subst (λ k. LeavesOldOr (HoldsRecords c.args.layout c.args.records.now old.now) old (state g.S.Store k)) (sym same)
    (renewed_once c.args.layout c.args.records.now old (state g.S.Store c.transaction-tx.result.conn.now)
    (state g.S.Store c.migrate_tables.new.tx.conn.now) (state g.S.Store c.commit.new.self.0)
    (cc (c.transaction-tx.ensures.begun)) (search rules) c.migrate_tables.ensures.inside
    c.in_ok-migrate_tables.ensures.made c.commit.ensures.survives)

pub returns-clause-crash : goal.returns-clause-crash
returns-clause-crash g c =
    let old = state g.S.Store c.args.conn.now in
    let same : c.conn-2-1.given.0 ≡ c.commit.new.self.0 = search rules in
    subst (λ k. LeavesOldOr (HoldsRecords c.args.layout c.args.records.now old.now) old (state g.S.Store k)) (sym same)
    (renewed_once c.args.layout c.args.records.now old (state g.S.Store c.transaction-tx.result.conn.now)
    (state g.S.Store c.migrate_tables.new.tx.conn.now) (state g.S.Store c.commit.new.self.0)
    (cc (c.transaction-tx.ensures.begun)) (search rules) c.migrate_tables.ensures.inside
    c.in_ok-migrate_tables.ensures.made c.commit.ensures.survives)
