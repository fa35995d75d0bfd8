use Rattle.resident_http.proofs.own_replies.Replies.{replies_by_own_record}
use Rattle.resident_http.proofs.laws.own_reply.Goals as goal

pub returns : goal.returns
returns c = replies_by_own_record
