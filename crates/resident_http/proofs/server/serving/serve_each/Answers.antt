use Rattle.std.proofs.Common.{◌≡◌, ◌+◌, ℕ, suc, Result, Ok, Err, OnErr, refl, subst, sym, arith}
use Rattle.std.proofs.lemmas.Result.{on_err_weaker, on_ok_weaker}
use Rattle.room_types.specs.Streams.{output_of}
use Rattle.resident_http.specs.server.Serving.{ServesEach}
use Rattle.resident_http.proofs.server.serving.serve_each.Goals as goal

pub connections-init : goal.connections-init
unfolding ServesEach
connections-init g c = (refl, refl)

pub connections-preserved : goal.connections-preserved
unfolding ServesEach
connections-preserved g c =
    let more : c.connections.counter + 1 ≡ suc c.connections.counter = omega arith in
    subst (λ (n : ℕ). ServesEach g.S.Store g.L.Stream.Stream g.L.Stream.Read.remaining g.L.Stream.Write.contents
    g.L.Listener.accepts g.L.Listener.closes
    (output_of g.W.Write.contents c.args.printed.now) c.args.listener.now c.args.desk.now n c.serve_next.new.listener
    c.serve_next.new.desk)
    (sym more) (
      c.connections.listener,
      c.connections.desk,
      c.connections.invariant,
      record {
        desk = c.require_open.new.desk;
        found = c.in_ok-require_open.ensures.open;
        no_connection_at_a_closed_desk = λ clean. sym (c.in_ok-require_open.ensures.open.right clean);
        next = c.serve_next.ensures.serves;
      },
    )

pub returns-in_err-require_open-clause-stops : goal.returns-in_err-require_open-clause-stops
returns-in_err-require_open-clause-stops g c =
    on_error c.from_residual.result (
      c.connections.counter,
      omega (arith, c.connections-test.true),
      c.connections.desk,
      c.connections.invariant,
      c.in_err-require_open.ensures.closed,
    )
  where
    on_error : {T E P : Type 0} (r : Result T E) → P → OnErr r P
    on_error (Ok x) p = tt
    on_error (Err e) p = p

pub returns-clause-serves : goal.returns-clause-serves
returns-clause-serves g c =
    let all : c.connections.counter ≡ c.args.count =
    omega (arith, c.connections-test.false, c.connections.auto.counter-end) in
    on_ok_weaker c.require_open-2.result
    (λ found. (
      c.connections.desk,
      subst (λ (n : ℕ). ServesEach g.S.Store g.L.Stream.Stream g.L.Stream.Read.remaining g.L.Stream.Write.contents
          g.L.Listener.accepts g.L.Listener.closes
          (output_of g.W.Write.contents c.args.printed.now) c.args.listener.now c.args.desk.now n c.connections.listener
          c.connections.desk) all c.connections.invariant,
      found,
    ))
    c.require_open-2.ensures.open

pub returns-clause-stops : goal.returns-clause-stops
returns-clause-stops g c =
    on_err_weaker c.require_open-2.result
    (λ closed. (
      c.connections.counter,
      omega (arith, c.connections.auto.counter-end),
      c.connections.desk,
      c.connections.invariant,
      closed,
    ))
    c.require_open-2.ensures.closed
