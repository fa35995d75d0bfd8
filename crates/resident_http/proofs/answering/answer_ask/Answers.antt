use Rattle.std.proofs.Common.{subst}
use Rattle.std.proofs.lemmas.Result.{err_from_is_err_and}
use Rattle.std.specs.Option.{option_map}
use Rattle.resident_requests.specs.Routes.{wanted_of}
use Rattle.resident_http.specs.Inner.Responses.{WithAnswer}
use Rattle.resident_http.specs.Serving.{AnswersWanted}
use Rattle.resident_http.proofs.responses.Responses.{AnswersWanted-unavailable}
use Rattle.resident_http.proofs.answering.answer_ask.Goals as goal

pub returns-in_err-route_request-in-Ask-clause-answers : goal.returns-in_err-route_request-in-Ask-clause-answers
returns-in_err-route_request-in-Ask-clause-answers g c =
    let p = err_from_is_err_and c.from_residual.result c.from_residual.ensures.1 in
    let asked = c.in-Ask in
    let what = wanted_of asked.method.now asked.path.now (option_map (λ k. k.now) asked.key) in
    rw asked.is
    (rw (p.1, p.2) (AnswersWanted-unavailable g.H.Handler.handles what asked.body.now c.args.handler.now))

pub returns-in-To-clause-answers : goal.returns-in-To-clause-answers
returns-in-To-clause-answers g c =
    let done = c.authenticate in
    rw c.in-Ask.is
    (subst (λ what. WithAnswer done.result (λ answer.
    AnswersWanted g.H.Handler.handles what c.in-Ask.body.now c.args.handler.now answer done.new.handler))
    (rw c.in-To.is at c.in_ok-route_request-in-Ask.ensures) done.ensures.answers)
