-- What the queries over rowids mean among the tables of an office, in each layout.
use Rattle.std.proofs.Common.{ℕ, zero, suc, false, ◌<◌, ◌≤◌, List, [], ◌∷◌, codes, slice_index_or, refl, arith}
use Rattle.sqlite_sql.specs.Term.{Term, col}
use Rattle.sqlite_value.specs.declared.keys.Key.{Key}
use Rattle.sqlite_value.specs.declared.keys.Collation.TheVariants.{Binary}
use Rattle.sqlite_schema.specs.declared.schema.Index.{Index}
use Rattle.sqlite_schema.specs.declared.schema.Schema.{Schema}
use Rattle.sqlite_schema.specs.declared.schema.Table.{Table}
use Rattle.sqlite.specs.Listing.{understood}
use Rattle.sqlite_tied.specs.Compute.{everything}
use Rattle.office_schema.specs.tables.Layouts.{table_count}
use Rattle.office_schema.specs.declared.tables.layouts.Layout.{Layout}
use Rattle.office_schema.specs.declared.tables.layouts.Layout.TheVariants.{Own, Documented, DocumentedSecond}
use Rattle.office_schema.specs.declared.tables.layouts.Layout.TheVariants.{DocumentedFirst, EarlierFirst}
use Rattle.office_schema.proofs.asking.Selects.{selects_only_ask}
use Rattle.office_schema.specs.tables.Asking.{OnlyAsks}
use Rattle.office_schema.specs.tables.FirstTables.{Begins, followed_by}
use Rattle.office_schema.specs.tables.Listing.{ListsTable}
use Rattle.office_db.specs.loading.Numbers.{only_rowid, rowid_text, tree_of}
use Rattle.office_schema.proofs.table_rows.QueryMeanings.{listed_first}

-- The key of table `round` has a name of its own.
abbrev pub rowid_names : ℕ → List (List ℕ)
rowid_names place = slice_index_or ((codes "rowid" ∷ []) ∷ (codes "rowid" ∷ []) ∷ (codes "one" ∷ []) ∷ []) place
    (codes "rowid" ∷ [])

-- ascending
abbrev by_rowid : List (Term × Key)
by_rowid = (col 1 0, record { collation = Binary; descending = false }) ∷ []

-- Each layout has tables.
pub some_tables : (layout : Layout) → 0 < table_count layout
some_tables Own = omega arith
some_tables Documented = omega arith
some_tables DocumentedSecond = omega arith
some_tables DocumentedFirst = omega arith
some_tables EarlierFirst = omega arith

-- the query over the rowids of the table at this place
rowids_followed : (layout : Layout) (place : ℕ) → place < table_count layout → (tables : List Table)
    (indexes : List Index)
    → ListsTable (followed_by layout tables indexes) (rowid_text place) (tree_of layout place) only_rowid
    (rowid_names place)
unfolding understood everything
rowids_followed Own zero low tables indexes =
    record { order = by_rowid; is = refl; plain = (refl, refl); unlisted = refl }
rowids_followed Own (suc zero) low tables indexes =
    record { order = by_rowid; is = refl; plain = (refl, refl); unlisted = refl }
rowids_followed Own (suc (suc zero)) low tables indexes =
    record { order = by_rowid; is = refl; plain = (refl, refl); unlisted = refl }
rowids_followed Own (suc (suc (suc zero))) low tables indexes =
    record { order = by_rowid; is = refl; plain = (refl, refl); unlisted = refl }
rowids_followed Own (suc (suc (suc (suc zero)))) low tables indexes =
    record { order = by_rowid; is = refl; plain = (refl, refl); unlisted = refl }
rowids_followed Own (suc (suc (suc (suc (suc zero))))) low tables indexes =
    record { order = by_rowid; is = refl; plain = (refl, refl); unlisted = refl }
rowids_followed Own (suc (suc (suc (suc (suc (suc zero)))))) low tables indexes =
    record { order = by_rowid; is = refl; plain = (refl, refl); unlisted = refl }
rowids_followed Own (suc (suc (suc (suc (suc (suc (suc zero))))))) low tables indexes =
    record { order = by_rowid; is = refl; plain = (refl, refl); unlisted = refl }
rowids_followed Own (suc (suc (suc (suc (suc (suc (suc (suc zero)))))))) low tables indexes =
    record { order = by_rowid; is = refl; plain = (refl, refl); unlisted = refl }
rowids_followed Own (suc (suc (suc (suc (suc (suc (suc (suc (suc zero))))))))) low tables indexes =
    record { order = by_rowid; is = refl; plain = (refl, refl); unlisted = refl }
rowids_followed Own (suc (suc (suc (suc (suc (suc (suc (suc (suc (suc place)))))))))) low tables indexes =
    absurd (omega (arith, low))
rowids_followed Documented zero low tables indexes =
    record { order = by_rowid; is = refl; plain = (refl, refl); unlisted = refl }
rowids_followed Documented (suc zero) low tables indexes =
    record { order = by_rowid; is = refl; plain = (refl, refl); unlisted = refl }
rowids_followed Documented (suc (suc zero)) low tables indexes =
    record { order = by_rowid; is = refl; plain = (refl, refl); unlisted = refl }
rowids_followed Documented (suc (suc (suc zero))) low tables indexes =
    record { order = by_rowid; is = refl; plain = (refl, refl); unlisted = refl }
rowids_followed Documented (suc (suc (suc (suc zero)))) low tables indexes =
    record { order = by_rowid; is = refl; plain = (refl, refl); unlisted = refl }
rowids_followed Documented (suc (suc (suc (suc (suc zero))))) low tables indexes =
    record { order = by_rowid; is = refl; plain = (refl, refl); unlisted = refl }
rowids_followed Documented (suc (suc (suc (suc (suc (suc zero)))))) low tables indexes =
    record { order = by_rowid; is = refl; plain = (refl, refl); unlisted = refl }
rowids_followed Documented (suc (suc (suc (suc (suc (suc (suc zero))))))) low tables indexes =
    record { order = by_rowid; is = refl; plain = (refl, refl); unlisted = refl }
rowids_followed Documented (suc (suc (suc (suc (suc (suc (suc (suc zero)))))))) low tables indexes =
    record { order = by_rowid; is = refl; plain = (refl, refl); unlisted = refl }
rowids_followed Documented (suc (suc (suc (suc (suc (suc (suc (suc (suc zero))))))))) low tables indexes =
    record { order = by_rowid; is = refl; plain = (refl, refl); unlisted = refl }
rowids_followed Documented (suc (suc (suc (suc (suc (suc (suc (suc (suc (suc place)))))))))) low tables indexes =
    absurd (omega (arith, low))
rowids_followed DocumentedSecond zero low tables indexes =
    record { order = by_rowid; is = refl; plain = (refl, refl); unlisted = refl }
rowids_followed DocumentedSecond (suc zero) low tables indexes =
    record { order = by_rowid; is = refl; plain = (refl, refl); unlisted = refl }
rowids_followed DocumentedSecond (suc (suc zero)) low tables indexes =
    record { order = by_rowid; is = refl; plain = (refl, refl); unlisted = refl }
rowids_followed DocumentedSecond (suc (suc (suc zero))) low tables indexes =
    record { order = by_rowid; is = refl; plain = (refl, refl); unlisted = refl }
rowids_followed DocumentedSecond (suc (suc (suc (suc zero)))) low tables indexes =
    record { order = by_rowid; is = refl; plain = (refl, refl); unlisted = refl }
rowids_followed DocumentedSecond (suc (suc (suc (suc (suc zero))))) low tables indexes =
    record { order = by_rowid; is = refl; plain = (refl, refl); unlisted = refl }
rowids_followed DocumentedSecond (suc (suc (suc (suc (suc (suc zero)))))) low tables indexes =
    record { order = by_rowid; is = refl; plain = (refl, refl); unlisted = refl }
rowids_followed DocumentedSecond (suc (suc (suc (suc (suc (suc (suc zero))))))) low tables indexes =
    record { order = by_rowid; is = refl; plain = (refl, refl); unlisted = refl }
rowids_followed DocumentedSecond (suc (suc (suc (suc (suc (suc (suc (suc zero)))))))) low tables indexes =
    record { order = by_rowid; is = refl; plain = (refl, refl); unlisted = refl }
rowids_followed DocumentedSecond (suc (suc (suc (suc (suc (suc (suc (suc (suc place))))))))) low tables indexes =
    absurd (omega (arith, low))
rowids_followed DocumentedFirst zero low tables indexes =
    record { order = by_rowid; is = refl; plain = (refl, refl); unlisted = refl }
rowids_followed DocumentedFirst (suc zero) low tables indexes =
    record { order = by_rowid; is = refl; plain = (refl, refl); unlisted = refl }
rowids_followed DocumentedFirst (suc (suc zero)) low tables indexes =
    record { order = by_rowid; is = refl; plain = (refl, refl); unlisted = refl }
rowids_followed DocumentedFirst (suc (suc (suc zero))) low tables indexes =
    record { order = by_rowid; is = refl; plain = (refl, refl); unlisted = refl }
rowids_followed DocumentedFirst (suc (suc (suc (suc zero)))) low tables indexes =
    record { order = by_rowid; is = refl; plain = (refl, refl); unlisted = refl }
rowids_followed DocumentedFirst (suc (suc (suc (suc (suc zero))))) low tables indexes =
    record { order = by_rowid; is = refl; plain = (refl, refl); unlisted = refl }
rowids_followed DocumentedFirst (suc (suc (suc (suc (suc (suc zero)))))) low tables indexes =
    record { order = by_rowid; is = refl; plain = (refl, refl); unlisted = refl }
rowids_followed DocumentedFirst (suc (suc (suc (suc (suc (suc (suc zero))))))) low tables indexes =
    record { order = by_rowid; is = refl; plain = (refl, refl); unlisted = refl }
rowids_followed DocumentedFirst (suc (suc (suc (suc (suc (suc (suc (suc place)))))))) low tables indexes =
    absurd (omega (arith, low))
rowids_followed EarlierFirst zero low tables indexes =
    record { order = by_rowid; is = refl; plain = (refl, refl); unlisted = refl }
rowids_followed EarlierFirst (suc zero) low tables indexes =
    record { order = by_rowid; is = refl; plain = (refl, refl); unlisted = refl }
rowids_followed EarlierFirst (suc (suc zero)) low tables indexes =
    record { order = by_rowid; is = refl; plain = (refl, refl); unlisted = refl }
rowids_followed EarlierFirst (suc (suc (suc zero))) low tables indexes =
    record { order = by_rowid; is = refl; plain = (refl, refl); unlisted = refl }
rowids_followed EarlierFirst (suc (suc (suc (suc zero)))) low tables indexes =
    record { order = by_rowid; is = refl; plain = (refl, refl); unlisted = refl }
rowids_followed EarlierFirst (suc (suc (suc (suc (suc zero))))) low tables indexes =
    record { order = by_rowid; is = refl; plain = (refl, refl); unlisted = refl }
rowids_followed EarlierFirst (suc (suc (suc (suc (suc (suc zero)))))) low tables indexes =
    record { order = by_rowid; is = refl; plain = (refl, refl); unlisted = refl }
rowids_followed EarlierFirst (suc (suc (suc (suc (suc (suc (suc zero))))))) low tables indexes =
    record { order = by_rowid; is = refl; plain = (refl, refl); unlisted = refl }
rowids_followed EarlierFirst (suc (suc (suc (suc (suc (suc (suc (suc place)))))))) low tables indexes =
    absurd (omega (arith, low))

pub rowids_listed : (layout : Layout) (place : ℕ) → place < table_count layout → (schema : Schema)
    → Begins layout schema
    → ListsTable schema (rowid_text place) (tree_of layout place) only_rowid (rowid_names place)
rowids_listed layout place low = listed_first _ _ _ _ layout (rowids_followed layout place low)

pub rowids_asked : (place : ℕ) → place < 10 → OnlyAsks (rowid_text place)
unfolding everything
rowids_asked zero low = selects_only_ask (rowid_text 0) tt
rowids_asked (suc zero) low = selects_only_ask (rowid_text 1) tt
rowids_asked (suc (suc zero)) low = selects_only_ask (rowid_text 2) tt
rowids_asked (suc (suc (suc zero))) low = selects_only_ask (rowid_text 3) tt
rowids_asked (suc (suc (suc (suc zero)))) low = selects_only_ask (rowid_text 4) tt
rowids_asked (suc (suc (suc (suc (suc zero))))) low = selects_only_ask (rowid_text 5) tt
rowids_asked (suc (suc (suc (suc (suc (suc zero)))))) low = selects_only_ask (rowid_text 6) tt
rowids_asked (suc (suc (suc (suc (suc (suc (suc zero))))))) low = selects_only_ask (rowid_text 7) tt
rowids_asked (suc (suc (suc (suc (suc (suc (suc (suc zero)))))))) low = selects_only_ask (rowid_text 8) tt
rowids_asked (suc (suc (suc (suc (suc (suc (suc (suc (suc zero))))))))) low = selects_only_ask (rowid_text 9) tt
rowids_asked (suc (suc (suc (suc (suc (suc (suc (suc (suc (suc place)))))))))) low = absurd (omega (arith, low))

pub few_tables : (layout : Layout) → table_count layout ≤ 10
few_tables Own = omega arith
few_tables Documented = omega arith
few_tables DocumentedSecond = omega arith
few_tables DocumentedFirst = omega arith
few_tables EarlierFirst = omega arith
