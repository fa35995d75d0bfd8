use Rattle.std.proofs.Common.{◌∙◌, ap, inl, inr, refl, subst}
use Rattle.office_core.specs.declared.query.Query.TheVariants as query
use Rattle.office_core.specs.declared.requests.Answer.TheVariants as desk
use Rattle.office_core.specs.declared.requests.Request.TheVariants as request
use Rattle.resident_http.specs.Serving.{Dispatches}
use Rattle.resident_http.proofs.responses.Responses.{WithAnswer-weaker}
use Rattle.resident_http.proofs.answering.authenticate.Goals as goal

pub returns-in-Reply-Me-clause-answers : goal.returns-in-Reply-Me-clause-answers
returns-in-Reply-Me-clause-answers g c =
    let handles = g.H.Handler.handles in
    let me = c.handle in
    let owner = c.in-Reply-Me in
    let asked = subst (λ k. handles c.args.handler.now (request.Ask (query.Me k)) me.result me.new.self)
    c.in-Ok.ensures.value me.ensures.handles in
    WithAnswer-weaker c.act.result (λ answer.
    Dispatches handles c.args.route owner.standing c.args.body.now me.new.self answer c.act.new.handler) _
    (λ answer h.
    inl (me.result, me.new.self, asked, inl (owner.standing, owner.is ∙ ap desk.Reply owner.field-0-is, h)))
    c.act.ensures.answers

pub returns-in-Refused-UnknownPerson-clause-answers : goal.returns-in-Refused-UnknownPerson-clause-answers
returns-in-Refused-UnknownPerson-clause-answers g c =
    let me = c.handle in
    let refusal = c.in-Refused-UnknownPerson in
    let asked = subst (λ k. g.H.Handler.handles c.args.handler.now (request.Ask (query.Me k)) me.result me.new.self)
    c.in-Ok.ensures.value me.ensures.handles in
    inl (me.result, me.new.self, asked, inr (inl (refusal.is ∙ ap desk.Refused refusal.field-0-is, refl, refl)))

pub returns-clause-answers : goal.returns-clause-answers
returns-clause-answers g c =
    let me = c.handle in
    let asked = subst (λ k. g.H.Handler.handles c.args.handler.now (request.Ask (query.Me k)) me.result me.new.self)
    c.in-Ok.ensures.value me.ensures.handles in
    inl (me.result, me.new.self, asked, inr (inr (refl, refl)))
