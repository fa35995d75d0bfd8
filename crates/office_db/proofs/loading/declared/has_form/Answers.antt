use Rattle.std.proofs.Common.{sym, ◌∙◌}
use Rattle.office_db.proofs.found_offices.Deciding.{last_decides}
use Rattle.office_db.proofs.found_offices.Declarations.{form-Decides, no_columns, no_rules}
use Rattle.office_db.proofs.loading.declared.has_form.Goals as goal

pub returns : goal.returns
returns c =
    last_decides _ _ _ (sym c.has_columns.ensures ∙ c.if-not-has_columns.false)
    (sym c.has_rules.ensures ∙ c.if-not-has_rules.false)
    (form-Decides c.args.own c.args.table.now _ c.has_checks.ensures)

pub returns-then-not-has_columns : goal.returns-then-not-has_columns
returns-then-not-has_columns c =
    no_columns c.args.own c.args.table.now (sym c.has_columns.ensures ∙ c.if-not-has_columns.true)

pub returns-then-not-has_rules : goal.returns-then-not-has_rules
returns-then-not-has_rules c = no_rules c.args.own c.args.table.now (sym c.has_rules.ensures ∙ c.if-not-has_rules.true)
