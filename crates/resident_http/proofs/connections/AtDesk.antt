-- Serving a connection at a desk simulates serving it with the office that the desk represents.
use Rattle.sqlite_trees.specs.declared.memory.MemStore.{MemStore}
use Rattle.sqlite_trees.specs.declared.store.Store.{Ghosts}
use Rattle.room_types.specs.declared.stream.Stream.{Ghosts as Calls}
use Rattle.sqlite.specs.Held.{state}
use Rattle.sqlite.specs.State.{HasCleanDisk}
use Rattle.sqlite.specs.Steps.{over_memory}
use Rattle.office_state.specs.declared.office.Office.{Office}
use Rattle.office_schema.specs.tables.Steps.{Follows}
use Rattle.office_schema.proofs.statements.Steps.{follows-refl, follows_then}
use Rattle.office_store.specs.Desk.{DeskState, Shows, Represents}
use Rattle.office_store.specs.Handling.{HandlesAt}
use Rattle.office_core.specs.Requests.{Handles}
use Rattle.office_store.proofs.desks.Runs.{step_in_memory}
use Rattle.resident_http.specs.Connections.{Connection, ServesConnection}
use Rattle.resident_http.specs.declared.served.Served.{Served}
use Rattle.resident_http.proofs.connections.Simulates.{ServesConnection-simulates}

module _ {S : Type 0} (g : Ghosts S) where
  -- The state of the database connection afterwards follows the one before.
  pub connection_follows : {T : Type 0} (calls : Calls T) (served : Served) (old new : DeskState S)
      (before after : Connection T) → ServesConnection calls (HandlesAt g) served old new before after
      → Follows (state g old.conn) (state g new.conn)
  connection_follows calls served old new before after h =
      (ServesConnection-simulates (HandlesAt g) (λ (k : Unit {0}) r a n. Unit {0})
      (λ desk. Follows (state g desk.conn) (state g new.conn)) (λ desk k. Unit {0})
      (λ o m r a step rest. follows_then _ _ _ step.follows rest) (λ o m r a step rest k s. (tt, tt, tt)) calls served
      old new before after h).0
      (follows-refl (state g new.conn))

  -- serving at a desk, seen from the office that the desk represents
  pub connection_represented : {T : Type 0} (calls : Calls T) (served : Served) (old new : DeskState S)
      (before after : Connection T) → ServesConnection calls (HandlesAt g) served old new before after
      → HasCleanDisk (state g new.conn) → (office : Office) → Represents g old office
      → (next : Office) × ServesConnection calls Handles served office next before after × Represents g new next
  connection_represented calls served old new before after h =
      (ServesConnection-simulates (HandlesAt g) Handles (λ desk. HasCleanDisk (state g desk.conn)) (Represents g)
      (λ o m r a step. step.follows.clean) (λ o m r a step clean. step.steps clean) calls served old new
      before after h).1

-- the same in memory, from the office that the desk shows
pub connection_in_memory : {T : Type 0} (calls : Calls T) (served : Served) (old new : DeskState MemStore)
    (before after : Connection T) → ServesConnection calls (HandlesAt over_memory) served old new before after
    → (office : Office) → Shows over_memory old office
    → (next : Office) × ServesConnection calls Handles served office next before after × Shows over_memory new next
connection_in_memory calls served old new before after h =
    (ServesConnection-simulates (HandlesAt over_memory) Handles (λ desk. Unit {0}) (Shows over_memory)
    (λ o m r a step well. tt) (λ o m r a step well office shows. let n = step_in_memory o m r a step office shows in
    (n.0, n.1.handled, n.2)) calls served old new before after h).1
    tt
