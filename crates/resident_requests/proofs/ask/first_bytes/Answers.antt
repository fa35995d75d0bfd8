use Rattle.std.proofs.Common.{sym}
use Rattle.resident_requests.proofs.http_requests.Windows.{window-few, window-is, first_cut}
use Rattle.resident_requests.proofs.ask.first_bytes.Goals as goal

pub returns-then-bytes-lt-HEAD_LIMIT-clause-value : goal.returns-then-bytes-lt-HEAD_LIMIT-clause-value
returns-then-bytes-lt-HEAD_LIMIT-clause-value c = sym (window-few c.args.bytes.now c.if-bytes-lt-HEAD_LIMIT.true)

pub returns-clause-value : goal.returns-clause-value
returns-clause-value c = window-is c.args.bytes.now

pub returns-clause-all : goal.returns-clause-all
returns-clause-all c = first_cut c.args.bytes.now c.if-bytes-lt-HEAD_LIMIT.false
