use Rattle.std.proofs.Common.{List, sym, ap, length, ◌∙◌, ◌==◌, true≢false}
use Rattle.sqlite_schema.specs.declared.schema.View.{View}
use Rattle.office_db.proofs.found_offices.Deciding.{never}
use Rattle.office_db.proofs.found_offices.LayoutTests.{begins_if}
use Rattle.office_db.proofs.loading.first_tables.begins_office.Goals as goal

pub returns : goal.returns
returns c =
    let views = rw c.as_slice.ensures at c.is_empty.ensures in
    let tables = rw c.as_slice-2.ensures at c.are_first.ensures in (
      λ e. begins_if c.args.schema.now (sym views ∙ c.if-not-is_empty.false) (tables.0 e),
      λ begins. tables.1 begins.tables,
    )

pub returns-then-not-is_empty : goal.returns-then-not-is_empty
returns-then-not-is_empty c =
    let views = rw c.as_slice.ensures at c.is_empty.ensures in
    never (λ begins. true≢false (sym (ap (λ (vs : List View). length vs == 0) begins.views) ∙ sym views
    ∙ c.if-not-is_empty.true))
