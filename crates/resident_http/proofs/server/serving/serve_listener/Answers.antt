use Rattle.std.proofs.Common.{◌≡◌, ◌∙◌, inl, inr, refl, arith}
use Rattle.room_types.specs.Streams.{output_of}
use Rattle.resident_http.specs.server.Texts.{listening_text, served_text}
use Rattle.resident_http.proofs.served_connections.Printed.{Prints-other_status}
use Rattle.resident_http.proofs.server.serving.serve_listener.Goals as goal

pub returns-then-print-ne-ACCEPTED-clause-serves : goal.returns-then-print-ne-ACCEPTED-clause-serves
returns-then-print-ne-ACCEPTED-clause-serves g c =
    let text : c.as_str.result.now ≡ listening_text c.args.port = c.as_str.ensures.value ∙ c.in-Ok.ensures.listening in
    let returned = rw text at c.print-2.ensures.prints in
    let ill : c.print-2.result ≡ 3 =
    Prints-other_status _ _ _ _ returned (λ is. grind (arith, is, c.if-print-ne-ACCEPTED.true)) in
    inr (inl (refl, refl, refl, rw ill at returned))

pub returns-in_default-serve_each-clause-serves : goal.returns-in_default-serve_each-clause-serves
returns-in_default-serve_each-clause-serves g c =
    let first : c.as_str.result.now ≡ listening_text c.args.port = c.as_str.ensures.value ∙ c.in-Ok.ensures.listening in
    let well : c.print-2.result ≡ 0 = omega (arith, c.if-print-ne-ACCEPTED.false) in
    let returned = rw first at c.print-2.ensures.prints in
    inl (
      output_of g.W.Write.contents c.print-2.new.output,
      rw well at returned,
      inr (c.in_default-serve_each.ensures.stops, c.print-in_default-serve_each.ensures.prints),
    )

pub returns-clause-serves : goal.returns-clause-serves
returns-clause-serves g c =
    let first : c.as_str.result.now ≡ listening_text c.args.port = c.as_str.ensures.value ∙ c.in-Ok.ensures.listening in
    let last : c.as_str-2.result.now ≡ served_text c.args.count = c.as_str-2.ensures.value ∙ c.in-Ok.ensures.served in
    let well : c.print-2.result ≡ 0 = omega (arith, c.if-print-ne-ACCEPTED.false) in
    let returned = rw first at c.print-2.ensures.prints in
    inl (
      output_of g.W.Write.contents c.print-2.new.output,
      rw well at returned,
      inl (c.in-Ok-serve_each.ensures.serves, rw last at c.print-3.ensures.prints),
    )
