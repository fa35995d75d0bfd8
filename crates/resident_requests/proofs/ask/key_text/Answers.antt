use Rattle.resident_requests.proofs.http_requests.Keys.{no_key_of}
use Rattle.resident_requests.proofs.ask.key_text.Goals as goal

pub returns-in_default : goal.returns-in_default
returns-in_default c = no_key_of c.args.value.now c.in_default.ensures.cases.0
