use Rattle.std.proofs.Common.{sym, ◌∙◌, true≢false}
use Rattle.std.proofs.lemmas.Bool.Decides.{not_from_Decides}
use Rattle.office_db.proofs.found_offices.Deciding.{never}
use Rattle.office_db.proofs.found_offices.LayoutTests.{begins_indexes, begins_tables, begins_views, begins_with_layout}
use Rattle.office_db.proofs.loading.first_tables.begins_with.Goals as goal

pub returns : goal.returns
returns c =
    let views = rw c.as_slice.ensures at c.is_empty.ensures in
    let tables = rw c.as_slice-2.ensures at c.has_first_tables.ensures in
    let indexes = rw c.as_slice-3.ensures at c.has_first_indexes.ensures in (
      λ e. begins_with_layout c.args.layout c.args.schema.now (sym views ∙ c.if-not-is_empty.false)
          (tables.0 c.if-not-has_first_tables.false) (sym indexes ∙ e),
      λ begins. indexes ∙ begins_indexes c.args.layout c.args.schema.now begins,
    )

pub returns-then-not-has_first_tables : goal.returns-then-not-has_first_tables
returns-then-not-has_first_tables c =
    let tables = rw c.as_slice-2.ensures at c.has_first_tables.ensures in
    never (λ begins. not_from_Decides _ tables c.if-not-has_first_tables.true
    (begins_tables c.args.layout c.args.schema.now begins))

pub returns-then-not-is_empty : goal.returns-then-not-is_empty
returns-then-not-is_empty c =
    let views = rw c.as_slice.ensures at c.is_empty.ensures in
    never (λ begins. true≢false (sym (begins_views c.args.layout c.args.schema.now begins) ∙ sym views
    ∙ c.if-not-is_empty.true))
