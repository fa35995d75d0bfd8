-- Serving with a concrete handler simulates serving with an abstract one, if each request does.
use Rattle.std.proofs.Common.{◌≡◌, ℕ, List, Result, Ok, Err, inl, inr, refl, sym, subst}
use Rattle.room_types.specs.Texts.{Text}
use Rattle.room_types.specs.declared.fault.TypeFault.{TypeFault}
use Rattle.office_core.specs.declared.command.Command.{Command}
use Rattle.office_core.specs.declared.command.Command.TheVariants.{SetChoices, Withdraw}
use Rattle.office_core.specs.declared.reply.Standing.{Standing}
use Rattle.serde_json.specs.Written.{compact_text}
use Rattle.room_types.specs.declared.stream.Stream.{Ghosts as Calls}
use Rattle.office_core.specs.declared.requests.Answer.{Answer as DeskAnswer}
use Rattle.office_core.specs.declared.requests.Request.{Request}
use Rattle.resident_requests.specs.Answers.{Answer}
use Rattle.resident_requests.specs.Asks.{Asked, ask, fault, more}
use Rattle.resident_requests.specs.Bodies.{choices_data, choices_of_body, withdrawn_data}
use Rattle.resident_requests.specs.Faults.{status_fault, wrong_method_answer}
use Rattle.resident_requests.specs.Routes.{Wanted, forbidden, unknown, wanted, wanted_of, wrong_method}
use Rattle.resident_requests.specs.declared.routes.Route.{Route}
use Rattle.resident_requests.specs.declared.routes.Route.TheVariants as route
use Rattle.resident_http.specs.Connections.{Connection, ServesConnection, Replies}
use Rattle.resident_http.specs.DueResponses.{list_fault, standing_answer}
use Rattle.resident_http.specs.Serving.{Authenticates, Answers, AnswersWanted, Executes, Dispatches, Authorizes}
use Rattle.resident_http.specs.Serving.{IsDue, ListsRooms, Records}
use Rattle.resident_http.specs.declared.served.Served.{Served}
use Rattle.resident_http.specs.declared.served.Served.TheVariants.{Answered, ReadFault, Silent, WriteFault}

-- A concrete handler, an abstract one, and the relation between their states. A request that ends well began well, and
-- is then also a request to the abstract handler.
module _ {H K : Type 0} (handles : H → Request → DeskAnswer → H → Type 0) (does : K → Request → DeskAnswer → K → Type 0)
    (IsWell : H → Type 0) (represents : H → K → Type 0)
    (back : (old new : H) (request : Request) (answer : DeskAnswer) → handles old request answer new → IsWell new
    → IsWell old)
    (step : (old new : H) (request : Request) (answer : DeskAnswer) → handles old request answer new → IsWell new
    → (k : K) → represents old k
    → (next : K) × does k request answer next × represents new next) where
  -- A step that ends well began well, and is then a step `Q` of the abstract handler too.
  abbrev pub Carried : H → H → (K → K → Type 0) → Type 0
  Carried old new Q =
      (IsWell new → IsWell old)
      × (IsWell new → (k : K) → represents old k → (next : K) × Q k next × represents new next)

  Simulates-same : (old new : H) (Q : K → K → Type 0) → new ≡ old → ((k : K) → Q k k) → Carried old new Q
  Simulates-same old new Q same q =
      (λ well. subst IsWell same well, λ well k s. (k, q k, subst (λ z. represents z k) (sym same) s))

  Simulates-step : (old new : H) (Q : K → K → Type 0) (request : Request) (answer : DeskAnswer)
      → handles old request answer new
      → ((k n : K) → does k request answer n → Q k n) → Carried old new Q
  Simulates-step old new Q request answer h q = (
    back old new request answer h,
    λ well k s. let n = step old new request answer h well k s in (n.0, q k n.0 n.1, n.2),
  )

  Simulates-then : (old mid new : H) (Q R : K → K → Type 0) (request : Request) (answer : DeskAnswer)
      → handles old request answer mid → Carried mid new Q
      → ((k m n : K) → does k request answer m → Q m n → R k n) → Carried old new R
  Simulates-then old mid new Q R request answer h rest r = (
    λ well. back old mid request answer h (rest.0 well),
    λ well k s.
        let m = step old mid request answer h (rest.0 well) k s in
        let n = rest.1 well m.0 m.2 in
        (n.0, r k m.0 n.0 m.1 n.1, n.2),
  )

  -- a response that leaves the desk as it was
  Responds-simulates : (P : Type 0) (old new : H) → P × (new ≡ old) → Carried old new (λ k n. P × (n ≡ k))
  Responds-simulates P old new h = Simulates-same old new _ h.1 (λ k. (h.0, refl))

  Executes-simulates : (command : Command) (success : List ℕ) (answer : Answer) (old new : H)
      → Executes handles command success old answer new
      → Carried old new (λ k n. Executes does command success k answer n)
  Executes-simulates command success answer old new (inl h) =
      Simulates-step old new _ _ h.0 h.1 (λ k n d. inl (h.0, d, h.2))
  Executes-simulates command success answer old new (inr h) = Simulates-same old new _ h.1 (λ k. inr (h.0, refl))

  Records-simulates : (person : Text) (read : Result (List Text) TypeFault) (answer : Answer) (old new : H)
      → Records handles person read old answer new
      → Carried old new (λ k n. Records does person read k answer n)
  Records-simulates person (Ok choices) answer old new h =
      Executes-simulates (SetChoices person choices) (compact_text (choices_data choices)) answer old new h
  Records-simulates person (Err cause) answer old new h = Responds-simulates (IsDue (list_fault cause) answer) old new h

  ListsRooms-simulates : (answer : Answer) (old new : H) → ListsRooms handles old answer new
      → Carried old new (λ k n. ListsRooms does k answer n)
  ListsRooms-simulates answer old new h = Simulates-step old new _ _ h.0 h.1 (λ k n d. (h.0, d, h.2))

  Dispatches-simulates : (route : Route) (standing : Standing) (body : List ℕ) (answer : Answer) (old new : H)
      → Dispatches handles route standing body old answer new
      → Carried old new (λ k n. Dispatches does route standing body k answer n)
  Dispatches-simulates route.Standing standing body answer old new h =
      Responds-simulates (IsDue (standing_answer standing) answer) old new h
  Dispatches-simulates route.Rooms standing body answer old new h = ListsRooms-simulates answer old new h
  Dispatches-simulates route.Withdrawal standing body answer old new h =
      Executes-simulates (Withdraw standing.person) (compact_text withdrawn_data) answer old new h
  Dispatches-simulates route.Choices standing body answer old new h =
      Records-simulates standing.person (choices_of_body body) answer old new h

  Authorizes-simulates : (route : Route) (body : List ℕ) (me : DeskAnswer) (answer : Answer) (old new : H)
      → Authorizes handles route body me old answer new
      → Carried old new (λ k n. Authorizes does route body me k answer n)
  Authorizes-simulates route body me answer old new (inl h) =
      let c = Dispatches-simulates route h.0 body answer old new h.2 in
      (c.0, λ well k s. let n = c.1 well k s in (n.0, inl (h.0, h.1, n.1), n.2))
  Authorizes-simulates route body me answer old new (inr (inl h)) =
      Simulates-same old new _ h.2 (λ k. inr (inl (h.0, h.1, refl)))
  Authorizes-simulates route body me answer old new (inr (inr h)) =
      Simulates-same old new _ h.1 (λ k. inr (inr (h.0, refl)))

  Authenticates-simulates : (route : Route) (key : Text) (body : List ℕ) (answer : Answer) (old new : H)
      → Authenticates handles route key body old answer new
      → Carried old new (λ k n. Authenticates does route key body k answer n)
  Authenticates-simulates route key body answer old new (inl h) =
      Simulates-then old h.1 new _ _ _ h.0 h.2 (Authorizes-simulates route body h.0 answer h.1 new h.3)
      (λ k m n d q. inl (h.0, m, d, q))
  Authenticates-simulates route key body answer old new (inr h) = Simulates-same old new _ h.1 (λ k. inr (h.0, refl))

  AnswersWanted-simulates : (what : Wanted) (body : List ℕ) (answer : Answer) (old new : H)
      → AnswersWanted handles what body old answer new
      → Carried old new (λ k n. AnswersWanted does what body k answer n)
  AnswersWanted-simulates unknown body answer old new h = Responds-simulates (IsDue (status_fault 404) answer) old new h
  AnswersWanted-simulates (wrong_method allow) body answer old new h =
      Responds-simulates (IsDue (wrong_method_answer allow) answer) old new h
  AnswersWanted-simulates forbidden body answer old new h =
      Responds-simulates (IsDue (status_fault 403) answer) old new h
  AnswersWanted-simulates (wanted route key) body answer old new h =
      Authenticates-simulates route key body answer old new h

  -- the response to parsed bytes
  pub Answers-simulates : (asked : Asked) (answer : Answer) (old new : H) → Answers handles asked old answer new
      → Carried old new (λ k n. Answers does asked k answer n)
  Answers-simulates more answer old new h = Responds-simulates (answer ≡ status_fault 400) old new h
  Answers-simulates (ask method path key body used) answer old new h =
      AnswersWanted-simulates (wanted_of method path key) body answer old new h
  Answers-simulates (fault status) answer old new h = Responds-simulates (answer ≡ status_fault status) old new h

  Replies-simulates : {T : Type 0} (calls : Calls T) (served : Served) (old new : H) (before after : Connection T)
      → Replies calls handles old new served before after
      → Carried old new (λ k n. Replies calls does k n served before after)
  Replies-simulates calls served old new before after h =
      let c = Answers-simulates h.asked h.responds.answer old new h.responds.answers in (
        c.0,
        λ well k s.
            let n = c.1 well k s in (
              n.0,
              record {
                bytes = h.bytes;
                asked = h.asked;
                between = h.between;
                called = h.called;
                read = h.read;
                limit = h.limit;
                each = h.each;
                asks = h.asks;
                unended = h.unended;
                ended = h.ended;
                responds =
                    record {
                      answer = h.responds.answer;
                      answers = n.1;
                      delivers = h.responds.delivers;
                      sends = h.responds.sends;
                    };
              },
              n.2,
            ),
      )

  -- a whole connection
  pub ServesConnection-simulates : {T : Type 0} (calls : Calls T) (served : Served) (old new : H)
      (before after : Connection T) → ServesConnection calls handles served old new before after
      → Carried old new (λ k n. ServesConnection calls does served k n before after)
  ServesConnection-simulates calls (Answered status) old new before after h =
      Replies-simulates calls (Answered status) old new before after h
  ServesConnection-simulates calls Silent old new before after h =
      Simulates-same old new _ h.same
      (λ k. record {
        called = h.called;
        read = h.read;
        each = h.each;
        at_end = h.at_end;
        ended = h.ended;
        untouched = h.untouched;
        same = refl;
      })
  ServesConnection-simulates calls ReadFault old new before after h = Simulates-same old new _ h.same (λ k. record {
    bytes = h.bytes;
    between = h.between;
    called = h.called;
    fails = h.fails;
    read = h.read;
    limit = h.limit;
    each = h.each;
    asks = h.asks;
    failed = h.failed;
    untouched = h.untouched;
    same = refl;
  })
  ServesConnection-simulates calls (WriteFault sent) old new before after h =
      Replies-simulates calls (WriteFault sent) old new before after h
