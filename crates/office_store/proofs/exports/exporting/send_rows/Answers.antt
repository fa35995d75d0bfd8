use Rattle.std.proofs.Common.{◌≡◌, ◌∙◌, ◌+◌, ℕ, length, refl, sym, ap, subst, arith}
use Rattle.sqlite.specs.Held.{state}
use Rattle.sqlite.specs.State.{HasCleanDisk}
use Rattle.room_types.specs.Streams.{output_of}
use Rattle.office_lists.specs.Exports.{header_of, record_bytes}
use Rattle.office_store.specs.exports.Stepping.{GivesRecord}
use Rattle.office_store.proofs.sent_rows.Stepping.{UnderWay, counted_cut, prefix_cut, between_stopped, prefix_stopped}
use Rattle.office_store.proofs.sent_rows.Stepping.{head_sent, keeps_still, keeps_then, one_sent, short_cut}
use Rattle.office_store.proofs.sent_rows.Stepping.{survives_next, survives_still, whole_sent}
use Rattle.office_store.proofs.exports.exporting.send_rows.Goals as goal

pub loop-init : goal.loop-init
loop-init g c =
    let first = c.args.rows.now.conn.now in
    let contents = g.W.Write.contents in
    let bytes = c.deref.result.now in
    let is : bytes ≡ record_bytes (header_of g.E.Exported.kind) = c.deref.ensures.value ∙ c.in-Ok.ensures
    ∙ ap (λ k. record_bytes (header_of k)) c.kind.ensures in
    let size : c.len-sent.result ≡ length bytes = c.len-sent.ensures ∙ sym c.deref.ensures.len in
    let sent =
    head_sent g.S.Store g.E.Exported.kind g.E.Exported.text g.E.Exported.fields first _ _ bytes is
    c.in_default-send.ensures.sent in
    record {
      same = refl;
      mode = λ h. h;
      survives = survives_still (state g.S.Store first);
      keeps = λ clean. keeps_still (state g.S.Store first);
      sent = subst (λ (n : ℕ). UnderWay g.S.Store g.E.Exported.kind g.E.Exported.text g.E.Exported.fields first first n
          (output_of contents c.args.output.now) (output_of contents c.send.new.output)) (sym size) sent;
      room = omega (arith, c.len-sent.type_inv);
      failed = c.in_default-send.ensures.kept;
      flushes = c.in_default-send.ensures.flushes;
      stops = c.in_default-send.ensures.stops;
    }

pub returns-in_default-next_record-clause-prefix : goal.returns-in_default-next_record-clause-prefix
returns-in_default-next_record-clause-prefix g c clean office asked =
    let before : HasCleanDisk (state g.S.Store c.loop.rows.conn.now) =
    omega (arith, clean, c.next_record.ensures.survives.clean) in
    prefix_stopped g.S.Store g.E.Exported.kind g.E.Exported.text g.E.Exported.fields c.args.rows.now.conn.now
    c.loop.rows.conn.now c.loop.sent _ _ c.loop.invariant.sent c.requires before office asked

pub returns-in_default-next_record-clause-short : goal.returns-in_default-next_record-clause-short
returns-in_default-next_record-clause-short g c clean office asked =
    (returns-in_default-next_record-clause-prefix g c clean office asked).within

pub returns-in_default-next-clause-whole : goal.returns-in_default-next-clause-whole
returns-in_default-next-clause-whole g c clean office asked =
    let before : HasCleanDisk (state g.S.Store c.loop.rows.conn.now) =
    omega (arith, clean, c.next_record.ensures.survives.clean) in
    let ends =
    subst (GivesRecord g.S.Store g.E.Exported.fields c.loop.rows.conn.now c.next_record.new.rows.conn.now)
    c.in_default-next.is c.in-Ok-next_record.ensures.gives in
    whole_sent g.S.Store g.E.Exported.kind g.E.Exported.text g.E.Exported.fields c.args.rows.now.conn.now
    c.loop.rows.conn.now c.loop.sent _ _ c.loop.invariant.sent c.requires
    c.next_record.new.rows.conn.now before (ends clean) office asked

pub returns-in-Err-send-clause-prefix : goal.returns-in-Err-send-clause-prefix
returns-in-Err-send-clause-prefix g c clean office asked =
    let gives =
    subst (GivesRecord g.S.Store g.E.Exported.fields c.loop.rows.conn.now c.next_record.new.rows.conn.now)
    c.in-Some.is c.in-Ok-next_record.ensures.gives in
    prefix_cut g.S.Store g.E.Exported.kind g.E.Exported.text g.E.Exported.fields c.args.rows.now.conn.now
    c.loop.rows.conn.now c.loop.sent _ _ c.loop.invariant.sent
    c.next_record.new.rows.conn.now gives.0 c.deref-in-loop.result.now (c.deref-in-loop.ensures.value ∙ gives.1)
    (λ h. omega (arith, h, c.next_record.ensures.survives.clean)) gives.2 c.in-Ok-next_record.ensures.same
    _ c.in-Err-send.part c.in-Err-send.ensures.short c.in-Err-send.ensures.prefix c.requires clean office asked

pub returns-in-Err-send-clause-short : goal.returns-in-Err-send-clause-short
returns-in-Err-send-clause-short g c clean office asked =
    let gives =
    subst (GivesRecord g.S.Store g.E.Exported.fields c.loop.rows.conn.now c.next_record.new.rows.conn.now)
    c.in-Some.is c.in-Ok-next_record.ensures.gives in
    short_cut g.S.Store g.E.Exported.kind g.E.Exported.text g.E.Exported.fields c.args.rows.now.conn.now
    c.loop.rows.conn.now c.loop.sent _ _ c.loop.invariant.sent
    c.next_record.new.rows.conn.now gives.0 c.deref-in-loop.result.now (c.deref-in-loop.ensures.value ∙ gives.1)
    (λ h. omega (arith, h, c.next_record.ensures.survives.clean)) gives.2 c.in-Ok-next_record.ensures.same
    _ c.in-Err-send.part c.in-Err-send.ensures.short c.in-Err-send.ensures.prefix c.requires clean office asked

pub returns-in-Err-send-clause-counted : goal.returns-in-Err-send-clause-counted
returns-in-Err-send-clause-counted g c =
    let gives =
    subst (GivesRecord g.S.Store g.E.Exported.fields c.loop.rows.conn.now c.next_record.new.rows.conn.now)
    c.in-Some.is c.in-Ok-next_record.ensures.gives in
    counted_cut g.S.Store g.E.Exported.kind g.E.Exported.text g.E.Exported.fields c.args.rows.now.conn.now
    c.loop.rows.conn.now c.loop.sent _ _ c.loop.invariant.sent
    c.next_record.new.rows.conn.now gives.0 c.deref-in-loop.result.now (c.deref-in-loop.ensures.value ∙ gives.1)
    (λ h. omega (arith, h, c.next_record.ensures.survives.clean)) gives.2 c.in-Ok-next_record.ensures.same
    _ c.in-Err-send.part c.in-Err-send.ensures.short c.in-Err-send.ensures.prefix

pub loop-preserved : goal.loop-preserved
loop-preserved g c =
    let first = c.args.rows.now.conn.now in
    let now = c.loop.rows.conn.now in
    let next = c.next_record.new.rows.conn.now in
    let contents = g.W.Write.contents in
    let bytes = c.deref-in-loop.result.now in
    let gives =
    subst (GivesRecord g.S.Store g.E.Exported.fields now next) c.in-Some.is c.in-Ok-next_record.ensures.gives in
    let size : c.len.result ≡ length bytes = c.len.ensures ∙ sym c.deref-in-loop.ensures.len in
    let before : HasCleanDisk (state g.S.Store next) → HasCleanDisk (state g.S.Store now) =
    λ h. omega (arith, h, c.next_record.ensures.survives.clean) in
    let sent =
    one_sent g.S.Store g.E.Exported.kind g.E.Exported.text g.E.Exported.fields first now c.loop.sent _ _
    c.loop.invariant.sent
    next gives.0 bytes (c.deref-in-loop.ensures.value ∙ gives.1) before gives.2 c.in-Ok-next_record.ensures.same _
    c.in_default-send-2.ensures.sent in
    record {
      same = c.next_record.ensures.same_reference ∙ c.loop.invariant.same;
      mode = λ h. c.next_record.ensures.mode (c.loop.invariant.mode h);
      survives =
          survives_next (state g.S.Store first) (state g.S.Store now) (state g.S.Store next) c.loop.invariant.survives
          c.next_record.ensures.survives;
      keeps = λ clean. keeps_then (state g.S.Store first) (state g.S.Store now) (state g.S.Store next)
          (c.loop.invariant.keeps (before clean)) (c.next_record.ensures.keeps clean);
      sent = subst (λ (n : ℕ). UnderWay g.S.Store g.E.Exported.kind g.E.Exported.text g.E.Exported.fields first next
          (c.loop.sent + n) (output_of contents c.args.output.now)
          (output_of contents c.send-in-loop.new.output)) (sym size) sent;
      room = omega (arith, c.loop.invariant.room, c.len.type_inv);
      failed = c.in_default-send-2.ensures.kept ∙ c.loop.invariant.failed;
      flushes = c.in_default-send-2.ensures.flushes ∙ c.loop.invariant.flushes;
      stops = λ fresh. c.in_default-send-2.ensures.stops (c.loop.invariant.failed ∙ fresh)
          ∙ c.loop.invariant.stops fresh;
    }

pub returns-clause-prefix : goal.returns-clause-prefix
returns-clause-prefix g c clean office asked =
    prefix_stopped g.S.Store g.E.Exported.kind g.E.Exported.text g.E.Exported.fields c.args.rows.now.conn.now
    c.loop.rows.conn.now c.loop.sent _ _ c.loop.invariant.sent c.requires clean office asked

pub returns-clause-short : goal.returns-clause-short
returns-clause-short g c clean office asked = (returns-clause-prefix g c clean office asked).within

pub returns-in_default-next_record-clause-between : goal.returns-in_default-next_record-clause-between
returns-in_default-next_record-clause-between g c =
    between_stopped g.S.Store g.E.Exported.kind g.E.Exported.text g.E.Exported.fields c.args.rows.now.conn.now
    c.loop.rows.conn.now c.loop.sent _ _ c.loop.invariant.sent

pub returns-clause-between : goal.returns-clause-between
returns-clause-between g c =
    between_stopped g.S.Store g.E.Exported.kind g.E.Exported.text g.E.Exported.fields c.args.rows.now.conn.now
    c.loop.rows.conn.now c.loop.sent _ _ c.loop.invariant.sent
