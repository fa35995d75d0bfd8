use Rattle.std.proofs.Common.{◌≡◌}
use Rattle.sqlite_schema.specs.declared.schema.Schema.{Schema}
use Rattle.office_schema.specs.tables.Layouts.{schema_of}
use Rattle.office_schema.specs.declared.tables.layouts.Layout.{Layout}
use Rattle.office_schema.specs.declared.tables.layouts.Layout.TheVariants.{Own, Documented, DocumentedSecond}
use Rattle.office_schema.specs.declared.tables.layouts.Layout.TheVariants.{DocumentedFirst, EarlierFirst}
use Rattle.std.proofs.lemmas.Bool.Decides.{not_from_Decides}
use Rattle.office_db.proofs.loading.layout.layout_in.Goals as goal

none_of_five : (schema : Schema) → (schema ≡ schema_of Own → ⊥) → (schema ≡ schema_of Documented → ⊥)
    → (schema ≡ schema_of DocumentedSecond → ⊥) → (schema ≡ schema_of DocumentedFirst → ⊥)
    → (schema ≡ schema_of EarlierFirst → ⊥)
    → (layout : Layout) → schema ≡ schema_of layout → ⊥
none_of_five schema a b c d e Own = a
none_of_five schema a b c d e Documented = b
none_of_five schema a b c d e DocumentedSecond = c
none_of_five schema a b c d e DocumentedFirst = d
none_of_five schema a b c d e EarlierFirst = e

pub returns-clause-unknown : goal.returns-clause-unknown
returns-clause-unknown c none =
    none_of_five c.args.schema.now (not_from_Decides _ c.is_laid_out.ensures c.if-is_laid_out.false)
    (not_from_Decides _ c.is_laid_out-2.ensures c.if-is_laid_out-2.false)
    (not_from_Decides _ c.is_laid_out-3.ensures c.if-is_laid_out-3.false)
    (not_from_Decides _ c.is_laid_out-4.ensures c.if-is_laid_out-4.false)
    (not_from_Decides _ c.is_laid_out-5.ensures c.if-is_laid_out-5.false)
