use Rattle.std.proofs.Common.{inr, length, refl}
use Rattle.std.proofs.lemmas.Bool.{le-ltb, lt-leb}
use Rattle.std.specs.FinMap as map
use Rattle.std.proofs.lemmas.Result.{err_from_is_err_and}
use Rattle.office_state.specs.Office.Limits.{byte_limit, label_limit}
use Rattle.office_core.specs.declared.refusal.Refusal.TheVariants as refused
use Rattle.office_core.proofs.imports.ListChecks.{list_is_refused}
use Rattle.office_core.proofs.command.import.import_new.Goals as goal

pub returns-in_err-changes : goal.returns-in_err-changes
returns-in_err-changes c =
    let p = err_from_is_err_and c.from_residual.result c.from_residual.ensures.1 in
    rw (p.1, p.2) (list_is_refused c.args.office.now c.args.label.now c.args.kind c.args.bytes.now
    c.in_err-changes.field-0.0
    (cc c.if-not-may_import.ensures)
    (lt-leb label_limit (map.len c.args.office.now.lists)
    (rw c.len.ensures at c.if-len-ge-LABEL_LIMIT.false))
    (le-ltb byte_limit (length c.args.bytes.now)
    (rw c.len-2.ensures at c.if-len-gt-BYTE_LIMIT.false))
    (rw c.as_slice.ensures at c.in_err-changes.ensures.refused))

pub returns-in_err-push : goal.returns-in_err-push
returns-in_err-push c =
    let p = err_from_is_err_and c.from_residual-in_err-push.result
    c.from_residual-in_err-push.ensures.1 in
    rw (p.1, p.2) (list_is_refused c.args.office.now c.args.label.now c.args.kind c.args.bytes.now
    refused.OutOfMemory
    (cc c.if-not-may_import.ensures)
    (lt-leb label_limit (map.len c.args.office.now.lists)
    (rw c.len.ensures at c.if-len-ge-LABEL_LIMIT.false))
    (le-ltb byte_limit (length c.args.bytes.now)
    (rw c.len-2.ensures at c.if-len-gt-BYTE_LIMIT.false))
    (inr refl))
