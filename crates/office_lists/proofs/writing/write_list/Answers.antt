use Rattle.std.proofs.Common.{◌≡◌, ◌∙◌, ◌+◌, ◌<◌, ◌^◌, ℕ, length, sym, subst, arith}
use Rattle.room_types.specs.Streams.{output_of}
use Rattle.office_lists.specs.Exports.{export, header_of}
use Rattle.office_lists.proofs.csv.Sending.{IsWritten, writing_begun, writing_cut, cut_short, writing_goes_on}
use Rattle.office_lists.proofs.csv.Sending.{row_bytes_are, row_place, writing_stopped, stopped_short}
use Rattle.office_lists.proofs.writing.write_list.Goals as goal

pub returns-in_default-clause-short : goal.returns-in_default-clause-short
returns-in_default-clause-short g c =
    let records = export c.args.kind g.R.ExportRow.fields c.args.rows.now in
    let before = output_of g.W.Write.contents c.args.output.now in
    stopped_short records 0 0 before before (omega arith) (writing_begun records before)

pub returns-in_default-row_bytes-clause-prefix : goal.returns-in_default-row_bytes-clause-prefix
returns-in_default-row_bytes-clause-prefix g c =
    let records = export c.args.kind g.R.ExportRow.fields c.args.rows.now in
    writing_stopped records (c.loop-row.row-index + 1) c.loop-row.sent _ _ c.loop-row.invariant.written

pub returns-in_default-row_bytes-clause-short : goal.returns-in_default-row_bytes-clause-short
returns-in_default-row_bytes-clause-short g c =
    let fields = g.R.ExportRow.fields in
    let rows = c.args.rows.now in
    let place = row_place (header_of c.args.kind) fields rows c.loop-row.row-index (omega arith) in
    stopped_short (export c.args.kind fields rows) (c.loop-row.row-index + 1) c.loop-row.sent _ _ place
    c.loop-row.invariant.written

pub returns-in-Err-send-clause-prefix : goal.returns-in-Err-send-clause-prefix
returns-in-Err-send-clause-prefix g c =
    let fields = g.R.ExportRow.fields in
    let rows = c.args.rows.now in
    let i = c.loop-row.row-index in
    let place = row_place (header_of c.args.kind) fields rows i (omega arith) in
    let own = row_bytes_are (header_of c.args.kind) fields rows i c.row-item.result c.row-item.result _ _
    (omega arith) c.row-item.is c.in-Ok-row_bytes.ensures c.deref-in-loop-row.ensures.value in
    writing_cut (export c.args.kind fields rows) (i + 1) c.loop-row.sent c.in-Err-send.part _ _ _ _ place own
    c.in-Err-send.ensures.short c.in-Err-send.ensures.prefix c.loop-row.invariant.written

pub returns-in-Err-send-clause-short : goal.returns-in-Err-send-clause-short
returns-in-Err-send-clause-short g c =
    let fields = g.R.ExportRow.fields in
    let rows = c.args.rows.now in
    let i = c.loop-row.row-index in
    let place = row_place (header_of c.args.kind) fields rows i (omega arith) in
    let own = row_bytes_are (header_of c.args.kind) fields rows i c.row-item.result c.row-item.result _ _
    (omega arith) c.row-item.is c.in-Ok-row_bytes.ensures c.deref-in-loop-row.ensures.value in
    cut_short (export c.args.kind fields rows) (i + 1) c.loop-row.sent c.in-Err-send.part _ _ _ place own
    c.in-Err-send.ensures.short c.loop-row.invariant.written

pub loop-row-preserved : goal.loop-row-preserved
loop-row-preserved g c =
    let fields = g.R.ExportRow.fields in
    let rows = c.args.rows.now in
    let i = c.loop-row.row-index in
    let bytes = c.deref-in-loop-row.result.now in
    let records = export c.args.kind fields rows in
    let contents = g.W.Write.contents in
    let place = row_place (header_of c.args.kind) fields rows i (omega arith) in
    let own = row_bytes_are (header_of c.args.kind) fields rows i c.row-item.result c.row-item.result _ _
    (omega arith) c.row-item.is c.in-Ok-row_bytes.ensures c.deref-in-loop-row.ensures.value in
    let size : c.len.result ≡ length bytes = c.len.ensures ∙ sym c.deref-in-loop-row.ensures.len in
    let small : length bytes < 2 ^ 64 = omega (arith, c.len.type_inv) in
    let written =
    writing_goes_on records (i + 1) c.loop-row.sent _ _ _ bytes place own small c.in_default-send-2.ensures.sent
    c.loop-row.invariant.written in
    let kept = c.in_default-send-2.ensures.kept ∙ c.loop-row.invariant.failed in
    record {
      written =
          subst (λ (n : ℕ). IsWritten records (i + 1 + 1) (c.loop-row.sent + n) (output_of contents c.args.output.now)
          (output_of contents c.send-in-loop-row.new.output)) (sym size) written;
      failed = kept;
      flushes = c.in_default-send-2.ensures.flushes ∙ c.loop-row.invariant.flushes;
      stops = λ fresh. c.in_default-send-2.ensures.stops (c.loop-row.invariant.failed ∙ fresh)
          ∙ c.loop-row.invariant.stops fresh;
    }
