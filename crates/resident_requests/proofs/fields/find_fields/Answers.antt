use Rattle.std.proofs.Common.{◌<◌, length, arith}
use Rattle.httparse.specs.declared.spans.HeaderSpan.{HeaderSpan}
use Rattle.resident_requests.proofs.http_requests.Fields.{values_of-more}
use Rattle.resident_requests.proofs.fields.find_fields.Goals as goal

pub loop-header-preserved : goal.loop-header-preserved
loop-header-preserved c =
    let lt : c.loop-header.header-index < length c.args.headers.now = omega arith in
    let nowhere : HeaderSpan = record { name = record { start = 0; end = 0 }; value = record { start = 0; end = 0 } } in
    let here = c.with_field-found.ensures _ c.loop-header.invariant in
    rw (values_of-more c.args.name.now c.args.buf.now c.args.headers.now c.loop-header.header-index nowhere lt) here
