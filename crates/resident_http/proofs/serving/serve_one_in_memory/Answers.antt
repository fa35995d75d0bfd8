use Rattle.resident_http.proofs.connections.AtDesk.{connection_in_memory}
use Rattle.resident_http.proofs.serving.serve_one_in_memory.Goals as goal

pub returns-clause-serves : goal.returns-clause-serves
returns-clause-serves g c = connection_in_memory g.T.Stream _ _ _ _ _ c.serve_connection.ensures.serves_connection
