use Rattle.std.proofs.Common.{◌∙◌, subst}
use Rattle.sqlite.specs.Held.{state}
use Rattle.office_schema.specs.tables.Tables.{HasTables}
use Rattle.office_schema.proofs.statements.Runs.{some_of, some_then}
use Rattle.office_db.proofs.created_tables.Empty.{no_rows, made_empty, first_rows}
use Rattle.office_db.proofs.creation.empty.start.Goals as goal

pub returns : goal.returns
returns g c =
    let new = state g.S.Store c.add_round.new.tx.conn.now in
    some_then c.in_ok-create_tables_from.ensures.runs (some_of c.add_round.ensures)
    (λ early tables filled. record {
      shown = λ clean none. subst (HasTables new.now) first_rows
          (filled.shown no_rows clean (made_empty _ _ tables (early clean) none));
      mode = λ clean. filled.mode clean ∙ tables.mode (early clean);
    })
