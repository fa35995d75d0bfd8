use Rattle.std.proofs.Common.{◌∙◌, append_assoc}
use Rattle.resident_requests.proofs.answer.head_text.Goals as goal

pub returns : goal.returns
returns c =
    let last = c.in_ok-push_str.ensures.bytes in
    let allow = c.in_ok-push_allow.ensures in
    let first = c.in_ok-text.ensures.ok in
    let reason = c.reason-reason.ensures in
    let code = c.as_u16-code.ensures.value in
    last ∙ simp (allow, first, reason, code, append_assoc)
