-- The answer to the query for grades is their export.
use Rattle.std.proofs.Common.{◌≡◌, ℕ, ℤ, Bool, List, [], ◌∷◌, map, filter, flat_map, Option, Some, None, option_to_list}
use Rattle.std.proofs.Common.{unwrap_or, Equal, Less, refl, sym, ap, ap₂, ◌∙◌, subst, IsPermutation}
use Rattle.std.specs.FinMap as maps
use Rattle.std.proofs.lemmas.List.Sorted.{IsPermutation-map}
use Rattle.sqlite_value.specs.Order.{Row}
use Rattle.sqlite_value.specs.declared.value.Value.TheVariants.{Text}
use Rattle.sqlite_sql.specs.Term.{col}
use Rattle.sqlite_sql.specs.Query.{Join, Output, inner, left, end, matches, output, output_cmp}
use Rattle.sqlite_keyed.proofs.ListLemmas.{map-map, map_same, filter-map, ascending-map, ascending_weaker}
use Rattle.sqlite.specs.Effect.{Answers, Database}
use Rattle.room_types.specs.Texts.{Text as Bytes, text_cmp, text_eq}
use Rattle.office_state.specs.Office.Invariants.{IsLawful}
use Rattle.office_state.specs.declared.office.Office.{Office}
use Rattle.office_state.specs.declared.office.person.Person.{Person}
use Rattle.office_lists.specs.Exports.{grade_fields, header_of}
use Rattle.office_lists.specs.declared.exports.ExportKind.TheVariants.{Grades}
use Rattle.office_schema.specs.rows.Rows.{row_of_person, rows_of_people}
use Rattle.office_schema.specs.rows.Tables.{rows_at}
use Rattle.office_schema.specs.declared.rows.records.PersonRecord.{PersonRecord}
use Rattle.office_schema.specs.cells.Cells.{count_or_null}
use Rattle.office_schema.specs.cells.Columns.{grade_columns, person_columns}
use Rattle.office_schema.specs.tables.Holds.{Holds}
use Rattle.office_schema.specs.tables.Tables.{HoldsOffice}
use Rattle.office_schema.specs.tables.Queries.{alone}
use Rattle.office_store.specs.exports.Asking.{AsksForExport}
use Rattle.office_store.specs.exports.Exports.{exported, grade_row}
use Rattle.office_store.specs.exports.Queries.{grades_query, grades_text, is_theirs, up}
use Rattle.office_store.specs.exports.Shown.{grade_record}
use Rattle.office_store.proofs.export_answers.Graded.{grade_recorded, grades_shown, meets, out}
use Rattle.office_store.proofs.export_answers.Joining.{joined}
use Rattle.office_store.proofs.export_answers.Meanings.{grades_meant, grade_names}
use Rattle.office_store.proofs.export_answers.Ordering.{Rises, answer_is, text_before}
use Rattle.office_store.proofs.export_answers.Rising.{entries_rise}

abbrev from : Join
from = inner 2 (left 11 (is_theirs ∷ []) end)

-- the recorded grade of a person
abbrev recorded : Office → Bytes → Option ℕ
recorded office id = maps.get office.grades id

abbrev records : Office → List PersonRecord
records office = rows_of_people office.people office.withdrawn

outs_rise : (office : Office) → Rises from (col 1 1 ∷ col 2 2 ∷ []) (up (col 1 1) ∷ [])
    (map (out (recorded office)) (records office))
outs_rise office =
    let shown = out (recorded office) in
    let row = row_of_person office.withdrawn in
    ascending-map (λ a b. output_cmp grades_query a b ≡ Less) shown (records office)
    (ascending-map (λ a b. output_cmp grades_query (shown a) (shown b) ≡ Less) row (maps.entries office.people)
    (ascending_weaker (λ a b. text_cmp a.0 b.0 ≡ Less)
    (λ a b. output_cmp grades_query (shown (row a)) (shown (row b)) ≡ Less)
    (λ a b less. text_before a.0 b.0 Equal less) (maps.entries office.people) (entries_rise text_cmp office.people)))

-- the grade of a person, among the rows of the grades
graded : (office : Office) (rows : List Row) (h : Holds grade_columns rows (maps.entries office.grades)) (id : Bytes)
    → map (λ (e : ℤ × (Bytes × ℕ)). e.1.1)
    (filter (λ (e : ℤ × (Bytes × ℕ)). text_eq e.1.0 id) h.entries) ≡ option_to_list (recorded office id)
graded office rows h id =
    let of : ℤ × (Bytes × ℕ) → Bytes × ℕ = λ e. e.1 in
    let value : Bytes × ℕ → ℕ = λ e. e.1 in
    let test : Bytes × ℕ → Bool = λ e. text_eq e.0 id in
    sym (map-map value of (filter (λ e. test (of e)) h.entries))
    ∙ ap (map value) (sym (filter-map test of h.entries))
    ∙ grade_recorded office.grades id (map of h.entries) h.same

-- what is shown of all matches
outs_are : (office : Office) (people grades : List Row) (h : Holds person_columns people (records office))
    (k : Holds grade_columns grades (maps.entries office.grades))
    → map (output grades_query) (flat_map (λ person. joined person (filter (meets person) grades)) people)
    ≡ map (out (recorded office)) (map (λ (e : ℤ × PersonRecord). e.1) h.entries)
outs_are office people grades h k =
    ap₂ (λ (l m : List Row). map (output grades_query) (flat_map (λ person. joined person (filter (meets person) m)) l))
    h.rows_are k.rows_are
    ∙ grades_shown (recorded office) k.entries (graded office grades k) h.entries

shown_again : (office : Office) (e : Bytes × Person)
    → grade_record ((out (recorded office) (row_of_person office.withdrawn e)).1) ≡ grade_fields (grade_row office e)
shown_again office e = go (recorded office e.0)
  where
    go : (o : Option ℕ) → grade_record (Text e.0 ∷ count_or_null o ∷ []) ≡ grade_fields
        (record { person = e.0; grade = unwrap_or o 0 })
    go None = refl
    go (Some n) = refl

grades_answer : (db : Database) (office : Office) (rows : List Row) → HoldsOffice db office → IsLawful office
    → Answers db (alone grades_query) [] rows
    → header_of Grades ∷ map grade_record rows ≡ exported Grades office
unfolding rows_at
grades_answer db office rows holds lawful h =
    let held = holds.rows.people in
    let shown = out (recorded office) in
    let row = row_of_person office.withdrawn in
    let entries = maps.entries office.people in
    let all : IsPermutation (map shown (records office))
    (map (output grades_query) (matches db.trees [] from ([] ∷ []))) =
    subst (IsPermutation (map shown (records office)))
    (sym (outs_are office (db.trees 2) (db.trees 11) held holds.rows.grades))
    (IsPermutation-map shown _ _ held.same) in
    let is = answer_is from (col 1 1 ∷ col 2 2 ∷ []) (up (col 1 1) ∷ []) db rows (map shown (records office)) h all
    (outs_rise office) in
    ap (λ l. header_of Grades ∷ l)
    (ap (map grade_record) (is ∙ map-map (λ (o : Output). o.1) shown (records office)
    ∙ map-map (λ x. (shown x).1) row entries)
    ∙ map-map grade_record (λ e. (shown (row e)).1) entries
    ∙ map_same _ (λ e. grade_fields (grade_row office e)) (shown_again office) entries
    ∙ sym (map-map grade_fields (grade_row office) entries))

pub grades_exported_by_query : AsksForExport Grades grades_text grade_record
grades_exported_by_query = record {
  query = grades_query;
  names = grade_names;
  is = grades_meant.is;
  plain = grades_meant.plain;
  unlisted = grades_meant.unlisted;
  asks = grades_meant.asks;
  answers = grades_answer;
}
