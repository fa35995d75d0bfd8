-- The text and the status of a response.
use Rattle.std.specs.Prelude.{ℕ, Bool, true, false, ⊤, [], ◌∷◌, codes}
use Rattle.room_types.specs.Texts.{Text}
use Rattle.office_core.specs.Requests.{AnswerAscends}
use Rattle.office_core.specs.declared.requests.Answer.TheVariants.{Reply, Refused, Unavailable}
use Rattle.office_lines.specs.declared.render.response.Response.{Response}
use Rattle.office_lines.specs.declared.render.response.Response.TheVariants.{Nothing, Answered, NotUnderstood}
use Rattle.office_lines.specs.render.RefusalTexts.{refusal_text}
use Rattle.room_types.specs.OutputLines.{line_of}
use Rattle.office_lines.specs.render.Replies.{reply_text}

-- the text to print for a response
abbrev pub text_of : Response → Text
text_of Nothing = []
text_of (Answered (Reply reply)) = reply_text reply
text_of (Answered (Refused refusal)) = refusal_text refusal
text_of (Answered Unavailable) = line_of (codes "unavailable" ∷ [])
text_of NotUnderstood = line_of (codes "not understood" ∷ [])

-- whether the response is neither a reply nor a refusal: then its text is a constant, which needs no allocation
abbrev pub is_constant : Response → Bool
is_constant Nothing = true
is_constant (Answered (Reply reply)) = false
is_constant (Answered (Refused refusal)) = false
is_constant (Answered Unavailable) = true
is_constant NotUnderstood = true

-- if the response is a reply, its rows ascend
abbrev pub ResponseAscends : Response → Type 0
ResponseAscends Nothing = ⊤
ResponseAscends (Answered answer) = AnswerAscends answer
ResponseAscends NotUnderstood = ⊤

-- the status of a line: 0 for accepted or no response, 1 for refused, 2 for not understood, 3 for unavailable
abbrev pub exit_status : Response → ℕ
exit_status Nothing = 0
exit_status (Answered (Reply reply)) = 0
exit_status (Answered (Refused refusal)) = 1
exit_status NotUnderstood = 2
exit_status (Answered Unavailable) = 3
