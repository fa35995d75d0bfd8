use Rattle.std.proofs.Common.{inl, subst}
use Rattle.room_types.specs.Streams.{output_of}
use Rattle.resident_http.specs.server.Network.{seen}
use Rattle.resident_http.proofs.server.serving.serve_next.Goals as goal

pub returns : goal.returns
returns g c =
    let talk = c.serve_one-served in
    record {
      serves = inl (record {
        between = c.accept.new.self;
        before = c.in-Some.connection;
        after = talk.new.stream;
        accepted =
            subst (λ connection. g.L.Listener.accepts c.args.listener.now
            (output_of g.W.Write.contents c.args.printed.now) (seen g.S.Store c.args.desk.now) connection
            c.accept.new.self)
            c.in-Some.is c.accept.ensures.accepts;
        begins = c.in-Some.ensures.unused;
        service =
            record {
              served = talk.result;
              follows = talk.ensures.follows;
              at_desk = talk.ensures.serves_connection;
              serves = talk.ensures.serves;
            };
        few = talk.ensures.few;
        no_wasted = talk.ensures.no_wasted;
        closed = c.close.ensures;
      });
    }
