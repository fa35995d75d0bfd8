-- Serving residents, one connection after another.
use Rattle.std.specs.Prelude.{◌≡◌, ◌⊎◌, ◌≤◌, ℕ, zero, suc, true, false, List, Option, Some, None, Ok, Err, IsTrue}
use Rattle.sqlite.specs.Held.{state}
use Rattle.sqlite.specs.State.{HasCleanDisk}
use Rattle.sqlite_trees.specs.declared.store.Store.{Ghosts}
use Rattle.office_state.specs.declared.office.Office.{Office}
use Rattle.room_types.specs.Printing.{Prints, PrintsUnavailable}
use Rattle.office_store.specs.Desk.{DeskState, Represents}
use Rattle.office_store.specs.Handling.{HandlesAt, TellsIfOpen}
use Rattle.office_core.specs.Requests.{Handles}
use Rattle.office_store.specs.declared.desk.faults.Unavailable.{Unavailable}
use Rattle.office_schema.specs.tables.Steps.{Follows}
use Rattle.resident_http.specs.Connections.{Connection, ServesConnection, connection_limit, connection_of}
use Rattle.resident_http.specs.declared.served.Served.{Served}
use Rattle.resident_http.specs.server.Network.{Network, SeenDesk, seen}
use Rattle.resident_http.specs.server.Texts.{listening_text, served_text}
use Rattle.resident_http.specs.server.Unused.{IsUnused}
use Rattle.room_types.specs.Streams.{Output}
use Rattle.room_types.specs.Watched.{StopsAtEnd, watched_reads}
use Rattle.room_types.specs.declared.stream.Stream.{Ghosts as Calls}
use Rattle.room_types.specs.declared.watched.Watched.{Watched}

module _ {S : Type 0} (g : Ghosts S) where
  -- The desk serves a connection. If the disk returned what was written to it, the office that the desk represents
  -- may serve the connection in the same way. The desk then represents the office after this service.
  pub record ServesAtDesk {T : Type 0} (calls : Calls T) (old new : DeskState S) (before after : Connection T) : Type 0 where
    pub served : Served
    pub follows : Follows (state g old.conn) (state g new.conn)
    pub at_desk : ServesConnection calls (HandlesAt g) served old new before after
    pub serves : HasCleanDisk (state g new.conn) → (office : Office) → Represents g old office
        → (next : Office) × ServesConnection calls Handles served office next before after × Represents g new next

  -- The desk said that its connection is open.
  abbrev pub IsFoundOpen : DeskState S → DeskState S → Type 0
  IsFoundOpen old new = TellsIfOpen g old (Ok true) new

  -- The desk said that its connection is closed. Or it did not say whether it is open, as if memory had run out: the
  -- cause is in no clause.
  abbrev pub IsNotFoundOpen : DeskState S → DeskState S → Type 0
  IsNotFoundOpen old new = TellsIfOpen g old (Ok false) new ⊎ ((fault : Unavailable) × TellsIfOpen g old (Err fault) new)

  module _ {L T : Type 0} (calls : Calls T) (remaining contents : T → Option (List ℕ)) (accepts : L → Output → SeenDesk → Option (Watched T) → L → Type 0) (closes : L → Output → SeenDesk → Watched T → L → Type 0) (printed : Output) where
    -- The listener accepted an unused connection while the desk was as `old`, and closed it while the desk was as `new`.
    -- The server served and closed the connection before it printed anything more. It made no call on the connection
    -- after a failure, and no read after the end.
    pub record Serves (listener : L) (old : DeskState S) (listener' : L) (new : DeskState S) : Type 0 where
      pub between : L
      pub before : Watched T
      pub after : Watched T
      pub accepted : accepts listener printed (seen g old) (Some before) between
      pub begins : IsUnused before
      pub service : ServesAtDesk calls old new (connection_of remaining contents before) (connection_of remaining contents after)
      pub few : watched_reads after ≤ connection_limit
      pub no_wasted : StopsAtEnd before after
      pub closed : closes between printed (seen g new) after listener'

    -- The listener was asked for one connection. Either it accepted one, which was served. Or it could accept none,
    -- and nothing else happened.
    abbrev pub ServesNext : L → DeskState S → L → DeskState S → Type 0
    ServesNext listener old listener' new =
        Serves listener old listener' new ⊎ (accepts listener printed (seen g old) None listener' × (new ≡ old))

    -- The desk was found open, and the listener was asked for a connection while the desk was as it was found. So no
    -- connection is accepted at a desk whose connection to the database is closed, if the disk returned what was written
    -- to it.
    pub record ServesAtOpenDesk (listener : L) (old : DeskState S) (listener' : L) (new : DeskState S) : Type 0 where
      pub desk : DeskState S
      pub found : IsFoundOpen old desk
      pub no_connection_at_a_closed_desk : HasCleanDisk (state g desk.conn) → IsTrue (state g desk.conn).is_open
      pub next : ServesNext listener desk listener' new

    -- The listener was asked for this number of connections, one after another, each at a desk that was found open. For
    -- generic code, only the listener's calls prove `accepts` and `closes`. So the desks of each exchange are, as far as
    -- `seen` shows them, the ones that were there.
    unfoldable pub ServesEach : L → DeskState S → ℕ → L → DeskState S → Type 0
    ServesEach listener old zero listener' new = (listener' ≡ listener) × (new ≡ old)
    ServesEach listener old (suc count) listener' new =
        (middle : L) × (between : DeskState S) × ServesEach listener old count middle between × ServesAtOpenDesk middle between listener' new

    -- The listener was asked for all `count` connections, and the desk was found open after the last.
    abbrev pub EndsAtOpenDesk : L → DeskState S → ℕ → L → DeskState S → Type 0
    EndsAtOpenDesk listener old count listener' new =
        (last : DeskState S) × ServesEach listener old count listener' last × IsFoundOpen last new

    -- The listener was asked for `asked` of the `count` connections. Then the desk was not found open. It need not have
    -- been closed: no clause refuses a server that ends early as if memory had run out.
    abbrev pub EndsAtClosedDesk : L → DeskState S → ℕ → L → DeskState S → Type 0
    EndsAtClosedDesk listener old count listener' new =
        (asked : ℕ) × (asked ≤ count) × (last : DeskState S) × ServesEach listener old asked listener' last × IsNotFoundOpen last new

  module _ {L T : Type 0} (calls : Calls T) (remaining contents : T → Option (List ℕ)) (accepts : L → Output → SeenDesk → Option (Watched T) → L → Type 0) (closes : L → Output → SeenDesk → Watched T → L → Type 0) where
    -- The last line of a server that listened. If the listener was asked for all `count` connections and the desk was
    -- found open after the last, the line has `count`, and the status is 0. If the desk was not found open before a
    -- connection or after the last, the line is `unavailable`, and the status is 3. If printing the line fails, the
    -- status is 3.
    abbrev pub ServesAndPrints : L → DeskState S → L → DeskState S → ℕ → ℕ → Output → Output → Type 0
    ServesAndPrints listener old listener' new count status printed out' =
        (EndsAtOpenDesk calls remaining contents accepts closes printed listener old count listener' new × Prints (served_text count) 0 status printed out')
        ⊎ (EndsAtClosedDesk calls remaining contents accepts closes printed listener old count listener' new × PrintsUnavailable status printed out')

    -- One of three cases holds. In the first, the line with the port was printed and flushed. Then the listener was
    -- asked for connections, one after another. Each one that it accepted was served, and closed before the next was
    -- asked for. Nothing was printed meanwhile. At the end, the last line was printed, or printing it failed
    -- (`ServesAndPrints`). In the second case, the first line could not be printed. In the third, an allocation for the
    -- two lines failed. In the second and third cases, the listener was asked for no connection.
    abbrev pub ServesAll : L → DeskState S → L → DeskState S → ℕ → ℕ → ℕ → Output → Output → Type 0
    ServesAll listener old listener' new port count status out out' =
        ((printed : Output) × Prints (listening_text port) 0 0 out printed × ServesAndPrints listener old listener' new count status printed out')
        ⊎ ((listener' ≡ listener) × (new ≡ old) × (status ≡ 3) × Prints (listening_text port) 0 status out out')
        ⊎ ((listener' ≡ listener) × (new ≡ old) × PrintsUnavailable status out out')

  -- Either listening on the port returned a socket, residents were served on the socket, and the socket was closed.
  -- Or listening on the port failed, and `unavailable` was printed.
  abbrev pub ServesPort : {P : Type 0} → Network P → P → DeskState S → P → DeskState S → ℕ → ℕ → ℕ → Output → Output → Type 0
  ServesPort {P} network ports old ports' new port count status out out' =
      ((listener : network.Socket) × (listener' : network.Socket) × (between : P) × network.listens ports port listener between
      × ServesAll network.calls network.remaining network.contents network.accepts network.closes listener old listener' new port count status out out'
      × network.stops between listener' ports')
      ⊎ (network.fails ports port ports' × (new ≡ old) × PrintsUnavailable status out out')
