use Rattle.std.proofs.Common.{sym, ap, ◌∙◌, true≢false}
use Rattle.std.proofs.lemmas.Bool.Decides.{not_from_Decides}
use Rattle.sqlite_schema.specs.declared.schema.Schema.{Schema}
use Rattle.office_db.proofs.found_offices.Deciding.{never}
use Rattle.office_db.proofs.found_offices.LayoutTests.{has_no_views, has_own_indexes, schema_is}
use Rattle.office_db.proofs.loading.layout.is_laid_out.Goals as goal

pub returns : goal.returns
returns c =
    let views = rw c.as_slice.ensures at c.is_empty.ensures in
    let tables = rw c.as_slice-2.ensures at c.has_tables.ensures in
    let indexes = rw c.as_slice-3.ensures at c.has_indexes.ensures in (
      λ e. schema_is c.args.layout c.args.schema.now (sym views ∙ c.if-not-is_empty.false)
          (tables.0 c.if-not-has_tables.false) (sym indexes ∙ e),
      λ p. indexes ∙ has_own_indexes c.args.layout c.args.schema.now p,
    )

pub returns-then-not-has_tables : goal.returns-then-not-has_tables
returns-then-not-has_tables c =
    let tables = rw c.as_slice-2.ensures at c.has_tables.ensures in
    never (λ p. not_from_Decides _ tables c.if-not-has_tables.true (ap (λ (s : Schema). s.tables) p))

pub returns-then-not-is_empty : goal.returns-then-not-is_empty
returns-then-not-is_empty c =
    let views = rw c.as_slice.ensures at c.is_empty.ensures in
    never (λ p. true≢false (sym (has_no_views c.args.layout c.args.schema.now p) ∙ sym views ∙ c.if-not-is_empty.true))
