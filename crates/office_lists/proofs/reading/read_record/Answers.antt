use Rattle.std.proofs.Common.{◌≡◌, ◌∙◌, length, sym, ap, subst, inr, option_map}
use Rattle.csv.specs.Records.{AllText, fields_of}
use Rattle.office_lists.specs.declared.fault.RecordFault.TheVariants.{Bad}
use Rattle.office_lists.proofs.csv.Fields.{cause_of_text, no_text}
use Rattle.office_lists.proofs.reading.read_record.Goals as goal

pub returns-in-Ok-clause-good : goal.returns-in-Ok-clause-good
returns-in-Ok-clause-good g c =
    let form = g.E.ListEntry.form in
    let same = c.in-Ok.ensures.same in
    let width : length (fields_of c.args.row) ≡ length form.header = sym c.len.ensures ∙ c.if-len-width.false
    ∙ c.requires in
    let cause = cause_of_text form (fields_of c.args.row) width (subst AllText same c.in-Ok.ensures.text) in
    rw cause (rw same at c.from_fields.ensures.good)

pub returns-in-Ok-clause-fault : goal.returns-in-Ok-clause-fault
returns-in-Ok-clause-fault g c =
    let form = g.E.ListEntry.form in
    let same = c.in-Ok.ensures.same in
    let width : length (fields_of c.args.row) ≡ length form.header = sym c.len.ensures ∙ c.if-len-width.false
    ∙ c.requires in
    let cause = cause_of_text form (fields_of c.args.row) width (subst AllText same c.in-Ok.ensures.text) in
    rw cause (rw same at c.from_fields.ensures.fault)

pub returns-clause-fault : goal.returns-clause-fault
returns-clause-fault g c =
    let form = g.E.ListEntry.form in
    let width : length (fields_of c.args.row) ≡ length form.header = sym c.len.ensures ∙ c.if-len-width.false
    ∙ c.requires in
    inr (ap (option_map (λ why. Bad why))
    (no_text form (fields_of c.args.row) width (λ text. cc (c.in-Err.ensures.refused text))))
