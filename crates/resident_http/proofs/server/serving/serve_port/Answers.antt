use Rattle.std.proofs.Common.{inl, inr, refl}
use Rattle.resident_http.proofs.server.serving.serve_port.Goals as goal

pub returns-in-Ok-clause-serves : goal.returns-in-Ok-clause-serves
returns-in-Ok-clause-serves g c =
    inl (
      c.in-Ok.listener,
      c.serve_listener-status.new.listener,
      c.listen.new.self,
      c.in-Ok.ensures.listening,
      c.serve_listener-status.ensures.serves,
      c.stop.ensures,
    )

pub returns-in-Err-clause-serves : goal.returns-in-Err-clause-serves
returns-in-Err-clause-serves g c = inr (c.in-Err.ensures.failed, refl, c.print.ensures.prints)
