use Rattle.std.proofs.Common.{take, map}
use Rattle.httparse.specs.Spans.{header_bytes}
use Rattle.resident_requests.specs.Fields.{values_of}
use Rattle.resident_requests.specs.Inner.Found.{Finds}
use Rattle.resident_requests.proofs.fields.find_fields.Given as goal

-- the result for the fields so far
abbrev pub invariant-loop-header : goal.invariant-loop-header
invariant-loop-header l =
    Finds l.buf l.found (values_of l.name (map (header_bytes l.buf) (take l.header-index l.headers)))
