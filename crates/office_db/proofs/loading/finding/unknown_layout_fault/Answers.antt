use Rattle.std.proofs.Common.{inr, sym, ap, ◌∙◌, subst}
use Rattle.sqlite.specs.Held.{state}
use Rattle.office_schema.specs.declared.tables.layouts.Layout.TheVariants.{Own}
use Rattle.office_db.specs.loading.Causes.{HasCause, IsAllowed, layout_fault}
use Rattle.office_db.specs.loading.Finding.{DeclaresTables}
use Rattle.office_schema.specs.tables.FirstTables.{BeginsOffice}
use Rattle.office_db.proofs.found_offices.Finding.{layout_fault_allowed, layout_fault_cause}
use Rattle.office_db.proofs.found_offices.Following.{reads-refl}
use Rattle.office_db.proofs.loading.finding.unknown_layout_fault.Goals as goal

pub returns-then-not-begins_office-clause-reads : goal.returns-then-not-begins_office-clause-reads
returns-then-not-begins_office-clause-reads g c = reads-refl (state g.S.Store c.args.conn.now)

pub returns-in-Ok-clause-cause : goal.returns-in-Ok-clause-cause
returns-in-Ok-clause-cause g c clean =
    let start = state g.S.Store c.args.conn.now in
    let front = subst BeginsOffice c.schema.ensures.value (c.begins_office.ensures.0 c.if-not-begins_office.false) in
    subst (HasCause start.now) (sym c.layout_fault.ensures)
    (layout_fault_cause start.now front c.declares_tables-all_there.result c.in-Ok.found
    (λ declares. c.declares_tables-all_there.ensures.1
    (subst (DeclaresTables Own) (sym c.schema-2.ensures.value) declares))
    (c.in-Ok.ensures.other clean front) (c.in-Ok.ensures.returned clean front))

pub returns-in-Ok-clause-allowed : goal.returns-in-Ok-clause-allowed
returns-in-Ok-clause-allowed g c =
    let start = state g.S.Store c.args.conn.now in
    let front = subst BeginsOffice c.schema.ensures.value (c.begins_office.ensures.0 c.if-not-begins_office.false) in
    subst (IsAllowed start.now.schema) (sym c.layout_fault.ensures)
    (layout_fault_allowed start.now.schema c.declares_tables-all_there.result c.in-Ok.found front
    (λ declares. c.declares_tables-all_there.ensures.1
    (subst (DeclaresTables Own) (sym c.schema-2.ensures.value) declares))
    c.in-Ok.ensures.number)

pub returns-in-Ok-clause-other : goal.returns-in-Ok-clause-other
returns-in-Ok-clause-other g c clean version front other =
    inr (c.layout_fault.ensures ∙ ap (layout_fault c.declares_tables-all_there.result)
    (c.in-Ok.ensures.returned clean front version other))
