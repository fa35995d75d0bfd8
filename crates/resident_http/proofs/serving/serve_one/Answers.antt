use Rattle.resident_http.proofs.connections.AtDesk.{connection_follows, connection_represented}
use Rattle.resident_http.proofs.serving.serve_one.Goals as goal

pub returns-clause-follows : goal.returns-clause-follows
returns-clause-follows g c =
    connection_follows g.S.Store g.T.Stream _ _ _ _ _ c.serve_connection.ensures.serves_connection

pub returns-clause-serves : goal.returns-clause-serves
returns-clause-serves g c =
    connection_represented g.S.Store g.T.Stream _ _ _ _ _ c.serve_connection.ensures.serves_connection
