use Rattle.std.proofs.Common.{arith}
use Rattle.std.proofs.lemmas.Result.{on_ok_weaker}
use Rattle.sqlite.specs.Held.{state}
use Rattle.office_schema.specs.tables.Crashes.{WasOpen}
use Rattle.office_schema.proofs.statements.Runs.{some_of, some_then}
use Rattle.office_db.proofs.changed_rows.Calls.{stores_grade}
use Rattle.office_db.proofs.changes.grades.put_grade.Goals as goal

pub returns-clause-runs : goal.returns-clause-runs
returns-clause-runs g c =
    some_then (some_of c.in_ok-drop_grade.ensures) c.record_grade.ensures
    (λ early. stores_grade _ _ _ early c.args.person.now c.args.grade)

-- Its first statement ran.
pub returns-clause-was_open : goal.returns-clause-was_open
returns-clause-was_open g c =
    on_ok_weaker {Q = WasOpen (state g.S.Store c.args.tx.now.conn.now) (state g.S.Store c.record_grade.new.tx.conn.now)}
    c.record_grade.result
    (λ made clean. c.in_ok-drop_grade.ensures.was_open
    (omega (arith, clean, c.record_grade.ensures.inside.survives.clean))) c.record_grade.ensures.made
