use Rattle.std.proofs.Common.{rules, ◌≡◌, sym, ap, ◌∙◌, subst}
use Rattle.sqlite_trees.specs.Tree.{Trees}
use Rattle.sqlite.specs.Effect.{Database}
use Rattle.sqlite.specs.Held.{state}
use Rattle.sqlite.specs.State.{State, Survives}
use Rattle.office_state.specs.Office.{empty_office}
use Rattle.office_schema.specs.tables.Crashes.{LeavesOldOr}
use Rattle.office_schema.specs.tables.Schema.{no_schema}
use Rattle.office_schema.specs.tables.Steps.{StaysInside}
use Rattle.office_schema.specs.tables.Tables.{HoldsOffice}
use Rattle.office_schema.proofs.statements.Crashes.{committed_once}
use Rattle.office_db.specs.creation.Created.{Starts}
use Rattle.office_db.proofs.creation.empty.start_office.Goals as goal

-- What the transaction commits: `begun` is its first state, and `mid` its last.
started_once : (old begun mid new : State) → begun.now ≡ old.now
    → ((db : Trees) → begun.may_leave db → old.may_leave db)
    → StaysInside begun mid → Starts begun mid → Survives mid new (λ db. db ≡ mid.now.trees)
    → old.now.schema ≡ no_schema
    → LeavesOldOr (λ after. HoldsOffice after empty_office) old new
started_once old begun mid new same before inside made commits blank =
    committed_once (λ after. HoldsOffice after empty_office) old begun mid new before inside
    (λ clean. made.shown clean (ap (λ (d : Database). d.schema) same ∙ blank)) commits

pub returns-in_err-commit-clause-crash : goal.returns-in_err-commit-clause-crash
returns-in_err-commit-clause-crash g c blank =
    let old = state g.S.Store c.args.conn.now in
    let same : c.conn-2-1.given.0 ≡ c.commit.new.self.0 = search rules in
    subst (λ k. LeavesOldOr (λ after. HoldsOffice after empty_office) old (state g.S.Store k)) (sym same)
    (started_once old (state g.S.Store c.transaction-tx.result.conn.now) (state g.S.Store c.start.new.tx.conn.now)
    (state g.S.Store c.commit.new.self.0)
    (search rules) (search rules) c.start.ensures.inside c.in_ok-start.ensures.made c.commit.ensures.survives blank)

pub returns-clause-crash : goal.returns-clause-crash
returns-clause-crash g c blank =
    let old = state g.S.Store c.args.conn.now in
    let same : c.conn-2-1.given.0 ≡ c.commit.new.self.0 = search rules in
    subst (λ k. LeavesOldOr (λ after. HoldsOffice after empty_office) old (state g.S.Store k)) (sym same)
    (started_once old (state g.S.Store c.transaction-tx.result.conn.now) (state g.S.Store c.start.new.tx.conn.now)
    (state g.S.Store c.commit.new.self.0)
    (search rules) (search rules) c.start.ensures.inside c.in_ok-start.ensures.made c.commit.ensures.survives blank)
