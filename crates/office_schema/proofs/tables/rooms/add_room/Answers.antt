use Rattle.office_schema.proofs.statements.Made.{makes_room}
use Rattle.office_schema.proofs.statements.Runs.{runs_so}
use Rattle.office_schema.proofs.tables.rooms.add_room.Goals as goal

pub returns : goal.returns
returns g c =
    runs_so c.run.ensures
    (λ ran. makes_room _ _ c.args.room.now c.args.shut
    (λ clean. rw (c.params-to_sql.ensures, c.params-to_sql-2.ensures, c.as_str.ensures.text) at (ran clean)))
