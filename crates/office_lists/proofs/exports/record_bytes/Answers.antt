use Rattle.std.proofs.Common.{◌≢◌, ◌∙◌}
use Rattle.csv.specs.declared.writer.QuoteStyle.TheVariants as style
use Rattle.office_lists.specs.Exports.{record_bytes}
use Rattle.office_lists.proofs.exports.record_bytes.Goals as goal

pub returns-in-Ok-into_inner : goal.returns-in-Ok-into_inner
unfolding record_bytes
returns-in-Ok-into_inner c =
    let from = c.from_writer-writer.ensures in
    let plain : c.from_writer-writer.result.cfg.style ≢ style.NonNumeric = rw (from.cfg, c.new.ensures) (λ e. cc e) in
    let written = c.in-Ok.ensures.bytes from.fields from.wrote plain in
    let text =
    rw (
      from.cfg,
      c.new.ensures,
      from.wtr,
      c.new-2.ensures.items,
      from.empty,
      c.as_byte_record.ensures,
      c.in_ok-record.ensures.fields,
    ) at written in
    c.in-Ok-into_inner.ensures.ok ∙ text
