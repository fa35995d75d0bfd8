use Rattle.std.proofs.Common.{drop, take, []}
use Rattle.std.proofs.lemmas.Result.{on_err_weaker}
use Rattle.sqlite.specs.Held.{state}
use Rattle.office_schema.specs.tables.Schema.{first_tables, office_schema}
use Rattle.office_schema.proofs.statements.Cleared.{and_then, clears, made_too_few}
use Rattle.office_schema.proofs.statements.Runs.{some_then}
use Rattle.office_schema.proofs.tables.round_tables.clear_round_tables.Goals as goal

pub returns-clause-runs : goal.returns-clause-runs
returns-clause-runs g c =
    some_then c.in_ok-drop_tables_to.ensures.runs c.create_tables_from.ensures.runs
    (λ early dropped made. clears _ _
    (and_then _ _ _ early
    (first_tables 10) (first_tables 6) (first_tables 10) (take 6 office_schema.tables) (take 6 office_schema.tables)
    [] (drop 6 (take 10 office_schema.tables))
    (λ x y h. h) dropped made))

pub returns-clause-undone : goal.returns-clause-undone
returns-clause-undone g c =
    let old = state g.S.Store c.args.tx.now.conn.now in
    let mid = state g.S.Store c.drop_tables_to.new.tx.conn.now in
    let new = state g.S.Store c.create_tables_from.new.tx.conn.now in
    on_err_weaker c.create_tables_from.result
    (λ undone. made_too_few old mid new c.drop_tables_to.ensures.runs.inside c.create_tables_from.ensures.runs.inside
    c.in_ok-drop_tables_to.ensures.runs.made undone) c.create_tables_from.ensures.undone
