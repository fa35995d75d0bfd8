use Rattle.std.proofs.Common.{sym, subst}
use Rattle.sqlite.specs.Held.{state}
use Rattle.office_schema.specs.tables.Crashes.{ShowsCommitted}
use Rattle.office_store.specs.Handling.{TellsIfOpen}
use Rattle.office_store.proofs.desks.Openness.{tells_open, tells_failed}
use Rattle.office_store.proofs.desk.Desk.is_open.Goals.{in-Ok, in-Err}
use Rattle.office_store.proofs.desk.Desk.is_open.Goals as goal

pub returns : goal.returns
returns g c =
    let old = c.self.inside.conn in
    let new = c.prepare.new.self in
    let cached = c.self.inside.cached in
    let settled = c.show_committed.ensures in
    let committed : ShowsCommitted (state g.S.Store new) = c.show_committed-2.ensures in
    record {
      tells = subst (λ desk. TellsIfOpen g.S.Store desk c.match-prepare.answer (record { conn = new; cached = cached }))
          c.self.view_is
          (elim c.match-prepare.branch [
            | in-Ok w ↦ subst
                (λ answer. TellsIfOpen g.S.Store (record { conn = old; cached = cached }) answer
                (record { conn = new; cached = cached })) (sym w.answer-is)
                (tells_open g.S.Store old new cached c.prepare.ensures.survives committed
                (λ clean. (w.in-Ok.ensures.ok clean).1))
            | in-Err w ↦ subst
                (λ answer. TellsIfOpen g.S.Store (record { conn = old; cached = cached }) answer
                (record { conn = new; cached = cached })) (sym w.answer-is)
                (tells_failed g.S.Store old new cached c.prepare.ensures.survives committed settled w.in-Err.error
                w.in-Err.ensures.err w.openness_after-answer.result w.openness_after-answer.ensures.closed)
          ]);
    }
