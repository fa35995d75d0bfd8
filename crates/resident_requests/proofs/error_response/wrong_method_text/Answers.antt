use Rattle.std.proofs.Common.{refl}
use Rattle.std.specs.Fmt.{digits}
use Rattle.serde_json.proofs.OnLiterals.{serde_json_on_literals}
use Rattle.resident_requests.proofs.error_response.wrong_method_text.Goals as goal

pub returns-in-Get : goal.returns-in-Get
unfolding digits serde_json_on_literals
returns-in-Get c = rw c.in-Get.is refl

pub returns-in-Put : goal.returns-in-Put
unfolding digits serde_json_on_literals
returns-in-Put c = rw c.in-Put.is refl

pub returns-in-Post : goal.returns-in-Post
unfolding digits serde_json_on_literals
returns-in-Post c = rw c.in-Post.is refl
