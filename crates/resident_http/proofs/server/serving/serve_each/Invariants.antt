use Rattle.room_types.specs.Streams.{output_of}
use Rattle.resident_http.specs.server.Serving.{ServesEach}
use Rattle.resident_http.proofs.server.serving.serve_each.Given as goal

-- The connections so far were served.
abbrev pub invariant-connections : goal.invariant-connections
invariant-connections g l =
    ServesEach g.S.Store g.L.Stream.Stream g.L.Stream.Read.remaining g.L.Stream.Write.contents g.L.Listener.accepts
    g.L.Listener.closes
    (output_of g.W.Write.contents l.printed) l.fn.listener l.fn.desk l.counter l.listener l.desk
