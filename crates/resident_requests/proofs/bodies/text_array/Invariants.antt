use Rattle.std.proofs.Common.{◌≡◌, take, map}
use Rattle.serde_json.specs.Data.{string}
use Rattle.serde_json.specs.View.{view}
use Rattle.resident_requests.proofs.bodies.text_array.Given as goal

-- the values of the codes so far
abbrev pub invariant-loop-code : goal.invariant-loop-code
invariant-loop-code l = map view l.values.items ≡ map string (take l.code-index l.codes)
