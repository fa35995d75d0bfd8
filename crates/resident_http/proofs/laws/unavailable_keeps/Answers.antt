use Rattle.resident_http.proofs.own_replies.Unavailable.{keeps_where_unavailable}
use Rattle.resident_http.proofs.laws.unavailable_keeps.Goals as goal

pub returns : goal.returns
returns c = keeps_where_unavailable
