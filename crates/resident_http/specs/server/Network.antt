-- Ports, listening sockets and connections.
use Rattle.std.specs.Prelude.{ℕ, List, Option, Result, ⊤}
use Rattle.std.specs.declared.io.Error.{Error}
use Rattle.sqlite.specs.Held.{state}
use Rattle.sqlite.specs.State.{State}
use Rattle.sqlite_trees.specs.declared.store.Store.{Ghosts}
use Rattle.office_state.specs.declared.office.Office.{Office}
use Rattle.office_store.specs.Desk.{DeskState}
use Rattle.room_types.specs.Streams.{Output}
use Rattle.room_types.specs.declared.stream.Stream.{Ghosts as Calls}
use Rattle.room_types.specs.declared.watched.Watched.{Watched}

-- What a socket sees of a desk: the state of the desk's connection to the database, and the cached office, if any.
pub record SeenDesk : Type 1 where
  pub conn : State
  pub cached : Option Office

abbrev pub seen : {S : Type 0} → Ghosts S → DeskState S → SeenDesk
seen g desk = record { conn = state g desk.conn; cached = desk.cached }

-- How ports, sockets and connections behave. `listens` and `fails` describe how listening on a port succeeds or
-- fails, and `stops` how a socket is closed. `accepts` and `closes` describe how a socket accepts and closes a
-- connection, after some output has been written and while a desk is as it is seen. Each of these is a relation between
-- the states before and after one call. `calls` describes the calls on a connection, `remaining` the bytes still to be read from it, and `contents`
-- the bytes written to it, where they are known.
pub record Network (P : Type 0) : Type 1 where
  pub Socket : Type 0
  pub Stream : Type 0
  pub calls : Calls Stream
  pub remaining : Stream → Option (List ℕ)
  pub contents : Stream → Option (List ℕ)
  pub accepts : Socket → Output → SeenDesk → Option (Watched Stream) → Socket → Type 0
  pub closes : Socket → Output → SeenDesk → Watched Stream → Socket → Type 0
  pub listens : P → ℕ → Socket → P → Type 0
  pub fails : P → ℕ → P → Type 0
  pub stops : P → Socket → P → Type 0

-- the network that the ghost members of the traits `Ports` and `Listener` define
abbrev pub network_of : {P L T : Type 0} → (T → List ℕ → List ℕ → Result ℕ Error → T → Type 0) → (T → List ℕ → Result ℕ Error → T → Type 0) → (T → Result ⊤ Error → T → Type 0)
    → (T → Option (List ℕ)) → (T → Option (List ℕ)) → (L → Output → SeenDesk → Option (Watched T) → L → Type 0) → (L → Output → SeenDesk → Watched T → L → Type 0)
    → (P → ℕ → L → P → Type 0) → (P → ℕ → P → Type 0) → (P → L → P → Type 0) → Network P
network_of {L = L} {T = T} reads writes flushes remaining contents accepts closes listens fails stops = record {
  Socket = L;
  Stream = T;
  calls = record { reads = reads; writes = writes; flushes = flushes };
  remaining = remaining;
  contents = contents;
  accepts = accepts;
  closes = closes;
  listens = listens;
  fails = fails;
  stops = stops;
}
