-- Which response a resident gets, and what the desk does for it (RFC 9110, section 15).
use Rattle.std.specs.Prelude.{◌≡◌, ℕ, ◌⊎◌, List, Result, Ok, Err}
use Rattle.serde_json.specs.Written.{compact_text}
use Rattle.room_types.specs.Texts.{Text}
use Rattle.room_types.specs.declared.fault.TypeFault.{TypeFault}
use Rattle.room_types.specs.declared.rows.RoomRow.{RoomRow}
use Rattle.office_core.specs.declared.command.Command.{Command}
use Rattle.office_core.specs.declared.command.Command.TheVariants.{SetChoices, Withdraw}
use Rattle.office_core.specs.declared.query.Query.TheVariants as query
use Rattle.office_core.specs.declared.refusal.Refusal.TheVariants.{UnknownPerson}
use Rattle.office_core.specs.declared.reply.Reply.TheVariants as reply
use Rattle.office_core.specs.declared.reply.Standing.{Standing}
use Rattle.office_core.specs.declared.requests.Answer.{Answer as DeskAnswer}
use Rattle.office_core.specs.declared.requests.Answer.TheVariants as desk
use Rattle.office_core.specs.declared.requests.Request.{Request}
use Rattle.office_core.specs.declared.requests.Request.TheVariants as request
use Rattle.resident_requests.specs.Answers.{Answer}
use Rattle.resident_requests.specs.Asks.{Asked, Asks, ask, fault, more}
use Rattle.resident_requests.specs.Bodies.{choices_data, choices_of_body, withdrawn_data}
use Rattle.resident_requests.specs.Faults.{status_fault, wrong_method_answer}
use Rattle.resident_requests.specs.Routes.{Wanted, forbidden, unknown, wanted, wanted_of, wrong_method}
use Rattle.resident_requests.specs.declared.routes.Route.{Route}
use Rattle.resident_requests.specs.declared.routes.Route.TheVariants as route
use Rattle.resident_http.specs.DueResponses.{command_answer, list_fault, rooms_answer, standing_answer, unavailable_answer}

-- The response is `due`, or it is 503 because an allocation failed.
abbrev pub IsDue : Answer → Answer → Type 0
IsDue due answer = (answer ≡ due) ⊎ (answer ≡ unavailable_answer)

-- The response is `due`, which needs no allocation, and the desk stays as it was.
abbrev pub RespondsAlways : {H : Type 0} → Answer → H → Answer → H → Type 0
RespondsAlways due old answer new = (answer ≡ due) × (new ≡ old)

-- The response is `due`, or 503 if an allocation failed. The desk stays as it was.
abbrev pub RespondsDirectly : {H : Type 0} → Answer → H → Answer → H → Type 0
RespondsDirectly due old answer new = IsDue due answer × (new ≡ old)

module _ {H : Type 0} (handles : H → Request → DeskAnswer → H → Type 0) where
  -- Either the desk handles the command, and the desk's answer alone determines the response: the response then needs
  -- no allocation. Or an allocation failed before the desk was asked. Then the response is 503, and the desk does
  -- nothing.
  abbrev pub Executes : Command → List ℕ → H → Answer → H → Type 0
  Executes command success old answer new =
      ((returned : DeskAnswer) × handles old (request.Office command) returned new × (answer ≡ command_answer success returned))
      ⊎ ((answer ≡ unavailable_answer) × (new ≡ old))

  -- a person withdraws from the round
  abbrev pub Withdraws : Text → H → Answer → H → Type 0
  Withdraws person = Executes (Withdraw person) (compact_text withdrawn_data)

  -- A person hands in a preference list: the desk handles the command that records it, as `Executes` describes. A
  -- body that is not a preference list gets an error response, and the desk is not asked.
  abbrev pub Records : Text → Result (List Text) TypeFault → H → Answer → H → Type 0
  Records person (Ok choices) = Executes (SetChoices person choices) (compact_text (choices_data choices))
  Records person (Err cause) = RespondsDirectly (list_fault cause)

  -- The desk is asked for the rooms. The response lists them, or is 503.
  abbrev pub ListsRooms : H → Answer → H → Type 0
  ListsRooms old answer new =
      (returned : DeskAnswer) × handles old (request.Ask query.Rooms) returned new
      × (((rows : List RoomRow) × (returned ≡ desk.Reply (reply.Rooms rows)) × (answer ≡ rooms_answer rows))
      ⊎ (answer ≡ unavailable_answer))

  -- The response to a request by the owner of the key, for each route. Only the route `Choices` uses the body.
  abbrev pub Dispatches : Route → Standing → List ℕ → H → Answer → H → Type 0
  Dispatches route.Standing standing body = RespondsDirectly (standing_answer standing)
  Dispatches route.Rooms standing body = ListsRooms
  Dispatches route.Withdrawal standing body = Withdraws standing.person
  Dispatches route.Choices standing body = Records standing.person (choices_of_body body)

  -- The response, given the desk's answer `me` to the question who owns the key. If somebody owns the key, the
  -- owner's request is carried out. If nobody does, the response is 403. If the desk was unavailable or an allocation
  -- failed, it is 503.
  abbrev pub Authorizes : Route → List ℕ → DeskAnswer → H → Answer → H → Type 0
  Authorizes route body me old answer new =
      ((standing : Standing) × (me ≡ desk.Reply (reply.Me standing)) × Dispatches route standing body old answer new)
      ⊎ (((me ≡ desk.Refused UnknownPerson) × (answer ≡ status_fault 403) × (new ≡ old))
      ⊎ ((answer ≡ unavailable_answer) × (new ≡ old)))

  -- The desk is first asked who owns the key, and its answer determines what follows. Or an allocation failed before
  -- that. Then the response is 503, and the desk is not asked.
  abbrev pub Authenticates : Route → Text → List ℕ → H → Answer → H → Type 0
  Authenticates route key body old answer new =
      ((me : DeskAnswer) × (between : H) × handles old (request.Ask (query.Me key)) me between
      × Authorizes route body me between answer new)
      ⊎ ((answer ≡ unavailable_answer) × (new ≡ old))

  -- the response to a request, given the result of routing it
  abbrev pub AnswersWanted : Wanted → List ℕ → H → Answer → H → Type 0
  AnswersWanted unknown body = RespondsDirectly (status_fault 404)
  AnswersWanted (wrong_method allow) body = RespondsDirectly (wrong_method_answer allow)
  AnswersWanted forbidden body = RespondsDirectly (status_fault 403)
  AnswersWanted (wanted route key) body = Authenticates route key body

  -- The response to the parsed bytes, after which no more bytes come. The response due to an incomplete request is
  -- therefore 400. The response to an incomplete request or to a fault needs no allocation.
  abbrev pub Answers : Asked → H → Answer → H → Type 0
  Answers more = RespondsAlways (status_fault 400)
  Answers (ask method path key body used) = AnswersWanted (wanted_of method path key) body
  Answers (fault status) = RespondsAlways (status_fault status)

  -- the response to the bytes of a connection, after which no more bytes come
  abbrev pub Serves : List ℕ → H → Answer → H → Type 0
  Serves bytes old answer new = (asked : Asked) × Asks bytes asked × Answers asked old answer new
