use Rattle.std.proofs.Common.{◌≡◌, take, min}
use Rattle.resident_requests.specs.Fields.{number_of}
use Rattle.resident_requests.proofs.fields.number_up_to.Given as goal

-- the number of the digits so far
abbrev pub invariant-loop-b : goal.invariant-loop-b
invariant-loop-b l = l.number ≡ min (number_of (take l.b-index l.text)) l.most
