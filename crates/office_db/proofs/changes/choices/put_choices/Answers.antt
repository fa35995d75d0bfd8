use Rattle.std.proofs.Common.{arith}
use Rattle.std.proofs.lemmas.Result.{on_ok_weaker}
use Rattle.sqlite.specs.Held.{state}
use Rattle.office_schema.specs.tables.Crashes.{WasOpen}
use Rattle.office_schema.proofs.statements.Runs.{some_of, some_then}
use Rattle.office_db.proofs.changed_rows.Calls.{stores_choices}
use Rattle.office_db.proofs.changes.choices.put_choices.Goals as goal

pub returns-clause-runs : goal.returns-clause-runs
returns-clause-runs g c =
    some_then (some_of c.in_ok-drop_choices.ensures) c.add_choices.ensures
    (λ early. stores_choices _ _ _ early c.args.person.now c.args.choices.now)

-- Its first statement ran.
pub returns-clause-was_open : goal.returns-clause-was_open
returns-clause-was_open g c =
    on_ok_weaker {Q = WasOpen (state g.S.Store c.args.tx.now.conn.now) (state g.S.Store c.add_choices.new.tx.conn.now)}
    c.add_choices.result
    (λ made clean. c.in_ok-drop_choices.ensures.was_open
    (omega (arith, clean, c.add_choices.ensures.inside.survives.clean))) c.add_choices.ensures.made
