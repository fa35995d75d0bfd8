use Rattle.std.proofs.Common.{ap, ◌∙◌}
use Rattle.serde_json.specs.Written.{has_float}
use Rattle.resident_requests.proofs.json.Floats.{no_float_in_rooms}
use Rattle.resident_requests.proofs.bodies.rooms_body.Goals as goal

pub written_json-requires : goal.written_json-requires
written_json-requires c = ap has_float c.in_ok-value.ensures ∙ no_float_in_rooms c.args.rows.now
