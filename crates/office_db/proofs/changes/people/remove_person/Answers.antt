use Rattle.std.proofs.Common.{arith}
use Rattle.std.proofs.lemmas.Result.{on_ok_weaker}
use Rattle.sqlite.specs.Held.{state}
use Rattle.office_schema.specs.tables.Crashes.{WasOpen}
use Rattle.office_schema.proofs.statements.Runs.{some_of, some_then}
use Rattle.office_db.proofs.changed_rows.Calls.{stores_gone}
use Rattle.office_db.proofs.changes.people.remove_person.Goals as goal

pub returns-clause-runs : goal.returns-clause-runs
returns-clause-runs g c =
    some_then (some_of c.in_ok-drop_grade.ensures) (some_of c.drop_person.ensures)
    (λ early. stores_gone _ _ _ early c.args.person.now)

-- Its first statement ran.
pub returns-clause-was_open : goal.returns-clause-was_open
returns-clause-was_open g c =
    on_ok_weaker {Q = WasOpen (state g.S.Store c.args.tx.now.conn.now) (state g.S.Store c.drop_person.new.tx.conn.now)}
    c.drop_person.result
    (λ made clean. c.in_ok-drop_grade.ensures.was_open
    (omega (arith, clean, c.drop_person.ensures.inside.survives.clean))) c.drop_person.ensures.made
