use Rattle.std.proofs.Common.{arith}
use Rattle.std.proofs.lemmas.Result.{on_ok_weaker}
use Rattle.sqlite.specs.Held.{state}
use Rattle.office_schema.specs.tables.Crashes.{WasOpen}
use Rattle.office_schema.proofs.statements.Crashes.{was_open_then}
use Rattle.office_schema.proofs.statements.Runs.{some_of, some_then}
use Rattle.office_db.proofs.changed_rows.Calls.{stores_cleared}
use Rattle.office_db.proofs.changes.round.clear_round.Goals as goal

pub returns-clause-runs : goal.returns-clause-runs
returns-clause-runs g c =
    some_then c.in_ok-clear_round_tables.ensures.runs (some_of c.clear_withdrawn.ensures) (stores_cleared _ _ _)

-- Its last statement ran.
pub returns-clause-was_open : goal.returns-clause-was_open
returns-clause-was_open g c =
    let old = state g.S.Store c.args.tx.now.conn.now in
    let mid = state g.S.Store c.clear_round_tables.new.tx.conn.now in
    let new = state g.S.Store c.clear_withdrawn.new.tx.conn.now in
    on_ok_weaker {Q = WasOpen old new} c.clear_withdrawn.result
    (was_open_then old mid new c.clear_round_tables.ensures.runs.inside
    (λ clean. omega (arith, clean, c.clear_withdrawn.ensures.inside.survives.clean)))
    c.clear_withdrawn.ensures.was_open
