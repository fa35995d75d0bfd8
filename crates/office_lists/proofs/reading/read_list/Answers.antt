use Rattle.std.proofs.Common.{◌≡◌, ◌∙◌, ◌<◌, ◌+◌, ◌++◌, ℕ, List, [], ◌∷◌, true, length, sym, subst, arith}
use Rattle.std.specs.Result.{is_ok}
use Rattle.csv.specs.Records.{fields_of}
use Rattle.office_lists.specs.Records.{Fails}
use Rattle.office_lists.specs.Inner.RecordFaults.{at_record}
use Rattle.office_lists.proofs.csv.Records.{HasGiven, IsReadTo, all_read, fails_for_memory, reader_gives, no_bytes}
use Rattle.office_lists.proofs.csv.Records.{no_header, no_records, none_read, one_fails, one_read, one_too_many}
use Rattle.office_lists.proofs.csv.Records.{same_width, some_bytes, reader_started}
use Rattle.office_lists.proofs.reading.read_list.Goals as goal

pub returns-then-is_empty-clause-fault : goal.returns-then-is_empty-clause-fault
returns-then-is_empty-clause-fault g c =
    no_bytes g.E.ListEntry.form c.args.bytes.now (sym c.is_empty.ensures ∙ c.if-is_empty.true)

pub returns-in_default-clause-fault : goal.returns-in_default-clause-fault
returns-in_default-clause-fault g c =
    let bytes = c.args.bytes.now in
    let are = c.csv_records-records.ensures in
    let begun : HasGiven bytes [] c.csv_records-records.result.rdr =
    reader_started bytes c.csv_records-records.result.rdr are.trim are.header_is_record are.headers are.flexible
    are.config are.source are.state in
    let s = rw c.in_default.is
    at ((c.next.ensures.steps c.csv_records-records.ensures.left begun.trims).0 begun.ready) in
    no_records g.E.ListEntry.form bytes c.csv_records-records.result.rdr c.next.new.self.rdr begun s

pub returns-then-not-is_header-clause-fault : goal.returns-then-not-is_header-clause-fault
returns-then-not-is_header-clause-fault g c =
    let bytes = c.args.bytes.now in
    let are = c.csv_records-records.ensures in
    let begun : HasGiven bytes [] c.csv_records-records.result.rdr =
    reader_started bytes c.csv_records-records.result.rdr are.trim are.header_is_record are.headers are.flexible
    are.config are.source are.state in
    let steps =
    rw (c.in-Some.is, c.in-Ok.is) at (c.next.ensures.steps c.csv_records-records.ensures.left begun.trims) in
    let s = steps.0 begun.ready in
    let has =
    reader_gives bytes [] c.csv_records-records.result.rdr c.next.new.self.rdr c.in-Ok.header begun s.0
    s.1 steps.3 in
    no_header g.E.ListEntry.form bytes (fields_of c.in-Ok.header) c.next.new.self.rdr has
    (sym c.if-not-is_header.ensures)

pub loop-row-init : goal.loop-row-init
loop-row-init g c =
    let bytes = c.args.bytes.now in
    let are = c.csv_records-records.ensures in
    let begun : HasGiven bytes [] c.csv_records-records.result.rdr =
    reader_started bytes c.csv_records-records.result.rdr are.trim are.header_is_record are.headers are.flexible
    are.config are.source are.state in
    let steps =
    rw (c.in-Some.is, c.in-Ok.is) at (c.next.ensures.steps c.csv_records-records.ensures.left begun.trims) in
    let s = steps.0 begun.ready in
    let has =
    reader_gives bytes [] c.csv_records-records.result.rdr c.next.new.self.rdr c.in-Ok.header begun s.0
    s.1 steps.3 in
    rw (c.into_iter-row-iterator.ensures.into_iter_gives, c.new-entries.ensures.items) (
      none_read g.E.ListEntry.form bytes (fields_of c.in-Ok.header) c.next.new.self.rdr has
          (sym c.if-not-is_header.ensures),
      s.2,
    )

pub returns-then-len-ge-RECORD_LIMIT-clause-fault : goal.returns-then-len-ge-RECORD_LIMIT-clause-fault
returns-then-len-ge-RECORD_LIMIT-clause-fault g c =
    let inv = c.loop-row.invariant in
    let old = c.loop-row.row-iterator.rdr in
    let new = c.next-in-loop-row.new.self.rdr in
    let row = c.in-Ok-row.row in
    let steps = rw (c.in-Some-row.is, c.in-Ok-row.is) at (c.next-in-loop-row.ensures.steps inv.1 inv.0.given.trims) in
    let s = steps.0 inv.0.given.ready in
    one_too_many g.E.ListEntry.form c.args.bytes.now c.loop-row.entries.items old new row inv.0 s.0 s.1 steps.3
    (omega (arith, c.len.ensures))

pub read_record-requires : goal.read_record-requires
read_record-requires g c =
    c.len-width.ensures ∙ same_width g.E.ListEntry.form.header (fields_of c.in-Ok.header)
    (sym c.if-not-is_header.ensures)

pub loop-row-preserved : goal.loop-row-preserved
loop-row-preserved g c =
    let inv = c.loop-row.invariant in
    let old = c.loop-row.row-iterator.rdr in
    let new = c.next-in-loop-row.new.self.rdr in
    let row = c.in-Ok-row.row in
    let steps = rw (c.in-Some-row.is, c.in-Ok-row.is) at (c.next-in-loop-row.ensures.steps inv.1 inv.0.given.trims) in
    let s = steps.0 inv.0.given.ready in
    let few : length c.loop-row.entries.items < 10000 = omega (arith, c.len.ensures) in
    let read =
    one_read g.E.ListEntry.form c.args.bytes.now c.loop-row.entries.items old new row c.in-Ok-read_record.entry
    inv.0 s.0 s.1 steps.3 few c.in-Ok-read_record.ensures.good c.in-Ok-read_record.ensures.returned in
    let good : is_ok c.push.result ≡ true = c.if-is_err.ensures.negation in
    let items : c.push.new.self.items ≡ c.loop-row.entries.items ++ c.in-Ok-read_record.entry ∷ [] =
    rw good at c.push.ensures.items in
    (subst (λ (entries : List _). IsReadTo g.E.ListEntry.form c.args.bytes.now entries new) (sym items) read, s.2)

pub returns-in-Err-read_record-clause-fault : goal.returns-in-Err-read_record-clause-fault
returns-in-Err-read_record-clause-fault g c =
    let inv = c.loop-row.invariant in
    let old = c.loop-row.row-iterator.rdr in
    let new = c.next-in-loop-row.new.self.rdr in
    let row = c.in-Ok-row.row in
    let steps = rw (c.in-Some-row.is, c.in-Ok-row.is) at (c.next-in-loop-row.ensures.steps inv.1 inv.0.given.trims) in
    let s = steps.0 inv.0.given.ready in
    let few : length c.loop-row.entries.items < 10000 = omega (arith, c.len.ensures) in
    let some = some_bytes (length c.args.bytes.now) (sym c.is_empty.ensures ∙ c.if-is_empty.false) in
    let at : length c.loop-row.entries.items + 1 ≡ c.loop-row.entries.len + 1 = omega (arith, c.loop-row.entries.ok) in
    rw (c.at_record.ensures, c.len-in-Err-read_record.ensures)
    (subst (λ (n : ℕ). Fails g.E.ListEntry.form c.args.bytes.now (at_record n c.in-Err-read_record.fault)) at
    (one_fails g.E.ListEntry.form c.args.bytes.now c.loop-row.entries.items old new row c.in-Err-read_record.fault inv.0
    s.0 s.1 steps.3 few some c.in-Err-read_record.ensures.fault))

pub returns-clause-returned : goal.returns-clause-returned
returns-clause-returned g c =
    let inv = c.loop-row.invariant in
    let s = rw c.in-None.is at ((c.next-in-loop-row.ensures.steps inv.1 inv.0.given.trims).0 inv.0.given.ready) in
    all_read g.E.ListEntry.form c.args.bytes.now c.loop-row.entries.items c.loop-row.row-iterator.rdr
    c.next-in-loop-row.new.self.rdr inv.0 s

pub out_of_memory-requires : goal.out_of_memory-requires
out_of_memory-requires g c =
    let bytes = c.args.bytes.now in
    let are = c.csv_records-records.ensures in
    let begun : HasGiven bytes [] c.csv_records-records.result.rdr =
    reader_started bytes c.csv_records-records.result.rdr are.trim are.header_is_record are.headers are.flexible
    are.config are.source are.state in
    let s = rw (c.in-Some.is, c.in-Err.is)
    at ((c.next.ensures.steps c.csv_records-records.ensures.left begun.trims).0 begun.ready) in
    fails_for_memory bytes [] c.csv_records-records.result.rdr c.next.new.self.rdr c.in-Err.error begun s

pub out_of_memory-requires-in-Err-row : goal.out_of_memory-requires-in-Err-row
out_of_memory-requires-in-Err-row g c =
    let inv = c.loop-row.invariant in
    let s = rw (c.in-Some-row.is, c.in-Err-row.is)
    at ((c.next-in-loop-row.ensures.steps inv.1 inv.0.given.trims).0 inv.0.given.ready) in
    fails_for_memory c.args.bytes.now (inv.0.header ∷ inv.0.done) c.loop-row.row-iterator.rdr
    c.next-in-loop-row.new.self.rdr c.in-Err-row.error inv.0.given s
