use Rattle.std.proofs.Common.{rules, ◌≡◌, true, IfSome, inr, refl, sym, ap, ◌∙◌, subst}
use Rattle.sqlite.specs.Held.{state}
use Rattle.office_state.specs.Empty.{is_empty}
use Rattle.office_state.specs.Office.Invariants.{IsLawful}
use Rattle.office_schema.specs.tables.Crashes.{LeavesOldOr}
use Rattle.office_db.proofs.found_offices.Following.{reads-refl}
use Rattle.office_store.specs.Handling.{CommitsRequest, HandlesAt, UpdatesCache}
use Rattle.office_store.specs.Storing.{changes_nothing}
use Rattle.office_core.specs.declared.requests.Answer.TheVariants.{Reply, Unavailable}
use Rattle.office_core.specs.declared.requests.Request.TheVariants.{Office as Request-Office}
use Rattle.office_store.proofs.desks.Certain.{changes_are_stored, false_is_not_true}
use Rattle.office_store.proofs.desks.Caches.{changes_something, no_length, stays_cached}
use Rattle.office_store.proofs.desks.Requests.{cached_office_answers, carried_out, command_committed, nothing_stored}
use Rattle.office_store.proofs.desks.Requests.{represents_still, unavailable_keeps_desk, unavailable_uncached}
use Rattle.office_store.proofs.desk.Desk.execute.Goals as goal

pub returns-in_default-clause-handles : goal.returns-in_default-clause-handles
returns-in_default-clause-handles g c =
    unavailable_uncached g.S.Store c.args.self.now c.args.self.now (Request-Office c.args.command.now)
    (sym (ap (λ desk. desk.cached) c.self.view_is) ∙ c.in_default.is)
    (reads-refl (state g.S.Store c.args.self.now.conn)) (λ clean office represents. represents) (search rules)

pub returns-in-Err-clause-handles : goal.returns-in-Err-clause-handles
returns-in-Err-clause-handles g c =
    cached_office_answers g.S.Store c.args.self.now c.in-Some.office (Request-Office c.args.command.now) c.in-Err.answer
    (sym (ap (λ desk. desk.cached) c.self.view_is) ∙ c.in-Some.is)
    (subst (λ cached. IfSome cached (λ o. IsLawful o)) c.in-Some.is c.self.invariant.lawful)
    c.in-Err.ensures.refused c.in-Err.ensures.certain
    (λ stored. c.in-Err.ensures.no_reply stored.0) (search rules)

pub returns-then-is_empty-clause-handles : goal.returns-then-is_empty-clause-handles
returns-then-is_empty-clause-handles g c =
    nothing_stored g.S.Store c.args.self.now c.in-Some.office c.args.command.now c.in-Ok.decision
    (sym (ap (λ desk. desk.cached) c.self.view_is) ∙ c.in-Some.is) c.in-Ok.ensures.decides c.in-Ok.ensures.leads
    (subst (λ cached. IfSome cached (λ o. IsLawful o)) c.in-Some.is c.self.invariant.lawful)
    (ap is_empty (sym c.as_slice-changes.ensures.value) ∙ sym (no_length c.as_slice-changes.result.now)
    ∙ sym c.is_empty.ensures ∙ c.if-is_empty.true) (search rules)

pub returns-in_default-stored-clause-handles : goal.returns-in_default-stored-clause-handles
returns-in_default-stored-clause-handles g c =
    let old = c.self.inside.conn in
    let new = c.store_changes-stored.new.conn in
    let cached = c.self.inside.cached in
    let request = Request-Office c.args.command.now in
    let changes = c.as_slice-changes.result.now in
    let same = c.as_slice-changes.ensures.value ∙ c.in-Ok.ensures.decides.changed in
    let some = sym (no_length changes) ∙ sym c.is_empty.ensures ∙ c.if-is_empty.false in
    let accepted = c.in-Ok.ensures.decides.accepted in
    subst (λ desk. HandlesAt g.S.Store desk request Unavailable (record { conn = new; cached = cached })) c.self.view_is
    (unavailable_keeps_desk g.S.Store (record { conn = old; cached = cached })
    (record { conn = new; cached = cached }) request
    (record {
      follows = c.store_changes-stored.ensures.follows;
      same = λ intact. c.in_default-stored.ensures.undone intact;
    })
    (subst (λ k. IfSome k (λ office. UpdatesCache office request Unavailable k)) (sym c.in-Some.is)
    (stays_cached c.in-Some.office request Unavailable (inr (refl, refl))
    (changes_are_stored c.in-Some.office c.args.command.now Unavailable changes accepted same some)))
    (subst (λ k. IfSome k (λ office. changes_nothing office request ≡ true → new ≡ old)) (sym c.in-Some.is)
    (λ nothing. absurd
    (false_is_not_true (sym (changes_something c.in-Some.office c.args.command.now changes accepted same some)
    ∙ nothing))))
    (λ clean office represents. represents_still g.S.Store old new cached office clean
    c.store_changes-stored.ensures.follows (λ intact. c.in_default-stored.ensures.undone intact) represents)
    (search rules)
    (subst (λ k. LeavesOldOr (CommitsRequest g.S.Store (record { conn = old; cached = k }) request)
    (state g.S.Store old) (state g.S.Store new)) (sym c.in-Some.is)
    (command_committed g.S.Store old new c.in-Some.office c.args.command.now c.in-Ok.decision changes
    c.in-Ok.ensures.decides c.in-Ok.ensures.leads
    c.as_slice-changes.ensures.value some c.store_changes-stored.ensures.crash)))

pub returns-clause-handles : goal.returns-clause-handles
returns-clause-handles g c =
    let old = c.self.inside.conn in
    let new = c.store_changes-stored.new.conn in
    let after = c.cached_office.result in
    let changes = c.as_slice-changes.result.now in
    subst (λ desk. HandlesAt g.S.Store desk (Request-Office c.args.command.now) (Reply c.in-Ok.decision.reply)
    (record { conn = new; cached = after }))
    (ap (λ cached. record { conn = old; cached = cached }) (sym c.in-Some.is) ∙ c.self.view_is)
    (carried_out g.S.Store old new c.in-Some.office c.args.command.now c.in-Ok.decision changes c.take.result after
    c.in-Ok.ensures.decides c.in-Ok.ensures.leads
    (subst (λ cached. IfSome cached (λ o. IsLawful o)) c.in-Some.is c.self.invariant.lawful)
    c.as_slice-changes.ensures.value
    (sym (no_length changes) ∙ sym c.is_empty.ensures ∙ c.if-is_empty.false)
    c.store_changes-stored.ensures.follows c.in-Ok-stored.ensures.is_open c.in-Ok-stored.ensures.stored
    (c.take.ensures.value ∙ c.in-Some.is) c.cached_office.ensures.cached c.cached_office.ensures.lost (search rules)
    c.store_changes-stored.ensures.crash)
