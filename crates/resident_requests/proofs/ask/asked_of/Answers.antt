use Rattle.std.proofs.Common.{ap, ◌∙◌, map}
use Rattle.httparse.specs.Spans.{header_bytes, span_bytes}
use Rattle.resident_requests.specs.Asks.{path_of}
use Rattle.resident_requests.proofs.http_requests.Requests.{asked_request}
use Rattle.resident_requests.proofs.ask.asked_of.Goals as goal

pub returns-in-Ok-2-clause-value : goal.returns-in-Ok-2-clause-value
returns-in-Ok-2-clause-value c =
    let window = c.args.window.now in
    let head = c.args.head in
    rw c.of.ensures
    (asked_request (span_bytes window head.method) (span_bytes window head.path) c.path_of.result.now _ head.version
    (map (header_bytes window) c.args.headers.now) head.len c.in-Ok.length c.args.bytes.now
    c.if-has_bad_host.ensures c.if-has_field.ensures c.if-has_field-2.ensures c.in-Ok.ensures.value c.key_of.ensures
    (c.path_of.ensures ∙ ap path_of (c.text_of.ensures ∙ c.of-in-Ok-2.ensures)) c.if-rest-length.false)
