use Rattle.std.proofs.Common.{sym, ◌∙◌}
use Rattle.office_schema.proofs.statements.Runs.{runs_so}
use Rattle.office_db.proofs.changed_rows.Calls.{stores_known_room, stores_new_room}
use Rattle.office_db.proofs.changes.store.put_room.Goals as goal

pub returns-then-contains_key : goal.returns-then-contains_key
returns-then-contains_key g c =
    let known = sym c.contains_key.ensures ∙ c.if-contains_key.true in
    runs_so c.set_shut.ensures (stores_known_room _ _ c.args.first.now c.args.room.now c.args.shut known)

pub returns : goal.returns
returns g c =
    let unknown = sym c.contains_key.ensures ∙ c.if-contains_key.false in
    runs_so c.add_room.ensures
    (stores_new_room _ _ c.args.first.now c.args.room.now c.args.shut unknown c.lemma_text.ensures)
