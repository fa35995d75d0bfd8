-- A response with status 503 leaves the office unchanged.
use Rattle.std.proofs.Common.{◌≡◌, ℕ, List, Option, Some, None, Result, Ok, Err, inl, inr}
use Rattle.std.proofs.Common.{ap, ◌∙◌, arith}
use Rattle.std.specs.Prelude.{not}
use Rattle.serde_json.specs.Written.{compact_text}
use Rattle.room_types.specs.Texts.{Text}
use Rattle.room_types.specs.declared.fault.TypeFault.{TypeFault}
use Rattle.office_state.specs.declared.office.Office.{Office}
use Rattle.office_core.specs.Command.{accepts, next, reply_to}
use Rattle.office_core.specs.declared.command.Command.{Command}
use Rattle.office_core.specs.declared.command.Command.TheVariants.{SetChoices, Withdraw}
use Rattle.office_core.specs.declared.refusal.Refusal.{Refusal}
use Rattle.office_core.specs.declared.reply.Reply.{Reply}
use Rattle.office_core.specs.declared.reply.Standing.{Standing}
use Rattle.office_core.specs.Requests.{Handles, answer_unless, office_unless}
use Rattle.office_core.specs.declared.requests.Answer.{Answer as DeskAnswer}
use Rattle.office_core.specs.declared.requests.Answer.TheVariants as desk
use Rattle.office_core.specs.declared.requests.Request.TheVariants as request
use Rattle.resident_requests.specs.Answers.{Answer}
use Rattle.resident_requests.specs.Asks.{ask, fault, more}
use Rattle.resident_requests.specs.Bodies.{choices_data, choices_of_body, withdrawn_data}
use Rattle.resident_requests.specs.Routes.{Wanted, forbidden, unknown, wanted, wanted_of}
use Rattle.resident_requests.specs.Routes.{wrong_method}
use Rattle.resident_requests.specs.declared.routes.Route.{Route}
use Rattle.resident_requests.specs.declared.routes.Route.TheVariants as route
use Rattle.resident_http.specs.DueResponses.{command_answer}
use Rattle.resident_http.specs.OwnReply.{KeepsWhereUnavailable}
use Rattle.resident_http.specs.Serving.{AnswersWanted, Executes, Dispatches, Authorizes}
use Rattle.resident_http.specs.Serving.{Records}

-- a command that is not accepted changes nothing
refused_keeps : (returned : DeskAnswer) (refusal : Option Refusal) (r : Reply) (old new after : Office)
    → returned ≡ answer_unless refusal r → ((s : Reply) → returned ≡ desk.Reply s → ⊥)
    → new ≡ office_unless refusal old after → new ≡ old
refused_keeps returned None r old new after is none e = absurd (none r is)
refused_keeps returned (Some cause) r old new after is none e = e

unaccepted_keeps : (command : Command) (returned : DeskAnswer) (old new : Office)
    → Handles old (request.Office command) returned new → ((s : Reply) → returned ≡ desk.Reply s → ⊥) → new ≡ old
unaccepted_keeps command returned old new (inl done) none =
    refused_keeps returned (accepts old command) (reply_to old command) old new (next old command) done.0 none done.1
unaccepted_keeps command returned old new (inr want) none = want.1

command_keeps : (command : Command) (success : List ℕ) (returned : DeskAnswer) (answer : Answer) (old new : Office)
    → Handles old (request.Office command) returned new
    → answer ≡ command_answer success returned → answer.status ≡ 503 → new ≡ old
command_keeps command success (desk.Reply r) answer old new h is e = let s : answer.status ≡ 200 =
    ap (λ (x : Answer). x.status) is in absurd (omega (arith, s, e))
command_keeps command success (desk.Refused cause) answer old new h is e =
    unaccepted_keeps command (desk.Refused cause) old new h (λ s d. cc)
command_keeps command success desk.Unavailable answer old new h is e =
    unaccepted_keeps command desk.Unavailable old new h (λ s d. cc)

Executes-keep : (command : Command) (success : List ℕ) (answer : Answer) (old new : Office)
    → Executes Handles command success old answer new → answer.status ≡ 503 → new ≡ old
Executes-keep command success answer old new (inl h) e = command_keeps command success h.0 answer old new h.1 h.2 e
Executes-keep command success answer old new (inr h) e = h.1

Dispatches-keep : (route : Route) (standing : Standing) (body : List ℕ) (answer : Answer) (old new : Office)
    → Dispatches Handles route standing body old answer new → answer.status ≡ 503 → new ≡ old
Dispatches-keep route.Standing standing body answer old new h e = h.1
Dispatches-keep route.Rooms standing body answer old new h e = elim h.1 [ inl done ↦ done.1 | inr want ↦ want.1 ]
Dispatches-keep route.Withdrawal standing body answer old new h e =
    Executes-keep (Withdraw standing.person) (compact_text withdrawn_data) answer old new h e
Dispatches-keep route.Choices standing body answer old new h e = records_keep standing.person (choices_of_body body) h
  where
    records_keep : (person : Text) (read : Result (List Text) TypeFault)
        → Records Handles person read old answer new → new ≡ old
    records_keep person (Ok choices) r =
        Executes-keep (SetChoices person choices) (compact_text (choices_data choices)) answer old new r e
    records_keep person (Err cause) r = r.1

Authorizes-keep : (route : Route) (body : List ℕ) (who : DeskAnswer) (answer : Answer) (old new : Office)
    → Authorizes Handles route body who old answer new → answer.status ≡ 503 → new ≡ old
Authorizes-keep route body who answer old new (inl h) e = Dispatches-keep route h.0 body answer old new h.2 e
Authorizes-keep route body who answer old new (inr (inl h)) e = h.2
Authorizes-keep route body who answer old new (inr (inr h)) e = h.1

wanted_keep : (what : Wanted) (body : List ℕ) (answer : Answer) (old new : Office)
    → AnswersWanted Handles what body old answer new → answer.status ≡ 503 → new ≡ old
wanted_keep unknown body answer old new h e = h.1
wanted_keep (wrong_method allow) body answer old new h e = h.1
wanted_keep forbidden body answer old new h e = h.1
wanted_keep (wanted route key) body answer old new (inl h) e =
    Authorizes-keep route body h.0 answer h.1 new h.3 e ∙ (elim h.2 [ inl done ↦ done.1 | inr want ↦ want.1 ])
wanted_keep (wanted route key) body answer old new (inr h) e = h.1

pub keeps_where_unavailable : KeepsWhereUnavailable
keeps_where_unavailable office next bytes answer (more, asks, h) e = h.1
keeps_where_unavailable office next bytes answer (fault status, asks, h) e = h.1
keeps_where_unavailable office next bytes answer (ask method path key body used, asks, h) e =
    wanted_keep (wanted_of method path key) body answer office next h e
