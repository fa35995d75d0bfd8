use Rattle.std.proofs.Common.{◌≡◌, Decides, ap₂, subst, List, ◌∙◌}
use Rattle.sqlite_sql.specs.Term.{Term}
use Rattle.sqlite_schema.specs.Code.{terms_in}
use Rattle.office_db.specs.loading.Inner.Declared.{checks_of}
use Rattle.office_db.proofs.loading.declared.checks.has_checks.Goals as goal

pub returns : goal.returns
returns c =
    subst (λ (ts : List Term). Decides c.are_checks.result (ts ≡ checks_of c.args.own))
    (ap₂ (λ nodes roots. terms_in nodes roots) c.as_slice.ensures c.as_slice-2.ensures ∙ c.checks.view_is)
    c.are_checks.ensures
