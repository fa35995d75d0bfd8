use Rattle.std.proofs.Common.{◌≡◌, take, map}
use Rattle.serde_json.specs.View.{view}
use Rattle.resident_requests.specs.Bodies.{room_data}
use Rattle.resident_requests.proofs.bodies.rooms_data.Given as goal

-- the values of the rooms so far
abbrev pub invariant-loop-row : goal.invariant-loop-row
invariant-loop-row l = map view l.values.items ≡ map room_data (take l.row-index l.rows)
