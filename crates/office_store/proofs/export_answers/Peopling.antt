-- The answer to the query for people is their export.
use Rattle.std.proofs.Common.{◌≡◌, ℤ, List, [], ◌∷◌, map, Option, Some, None, Equal, Less, refl, sym, ap, ◌∙◌, subst}
use Rattle.std.proofs.Common.{IsPermutation}
use Rattle.std.specs.FinMap as maps
use Rattle.std.proofs.lemmas.List.Sorted.{IsPermutation-map}
use Rattle.sqlite_value.specs.Order.{Row}
use Rattle.sqlite_value.specs.declared.value.Value.TheVariants.{Text}
use Rattle.sqlite_sql.specs.Term.{col}
use Rattle.sqlite_sql.specs.Query.{Output, inner, end, matches, output, output_cmp}
use Rattle.sqlite_keyed.proofs.ListLemmas.{map-map, map_same, ascending-map, ascending_weaker}
use Rattle.sqlite.specs.Effect.{Answers, Database}
use Rattle.room_types.specs.Texts.{Text as Bytes, TextMap, text_cmp}
use Rattle.office_state.specs.Office.Invariants.{IsLawful}
use Rattle.office_state.specs.declared.office.Office.{Office}
use Rattle.office_state.specs.declared.office.person.Person.{Person}
use Rattle.office_core.specs.Query.Overview as people
use Rattle.office_lists.specs.Exports.{header_of, person_fields}
use Rattle.office_lists.specs.declared.exports.ExportKind.TheVariants.{People}
use Rattle.office_schema.specs.rows.Rows.{row_of_person, rows_of_people}
use Rattle.office_schema.specs.rows.Tables.{rows_at}
use Rattle.office_schema.specs.declared.rows.records.PersonRecord.{PersonRecord}
use Rattle.office_schema.specs.cells.Cells.{text_or_null}
use Rattle.office_schema.specs.cells.Columns.{person_columns}
use Rattle.office_schema.specs.tables.Holds.{Holds, stored}
use Rattle.office_schema.specs.tables.Tables.{HoldsOffice}
use Rattle.office_schema.specs.tables.Queries.{alone}
use Rattle.office_store.specs.exports.Asking.{AsksForExport}
use Rattle.office_store.specs.exports.Exports.{exported}
use Rattle.office_store.specs.exports.Queries.{people_query, people_text, up}
use Rattle.office_store.specs.exports.Shown.{person_record}
use Rattle.office_store.proofs.export_answers.Meanings.{people_meant, person_names}
use Rattle.office_store.proofs.export_answers.Ordering.{Rises, answer_is, one_table, text_before}
use Rattle.office_store.proofs.export_answers.Rising.{entries_rise}

-- the key of a person's row, and what is shown of it
abbrev out : PersonRecord → Output
out x = (Text x.id ∷ [], Text x.id ∷ Text x.person.name ∷ text_or_null x.person.home ∷ [])

-- what is shown of all rows of the table
outs_are : (rows : List Row) (records : List PersonRecord) (h : Holds person_columns rows records)
    → map (output people_query) (map (λ r. [] ∷ r ∷ []) rows) ≡ map out (map (λ (e : ℤ × PersonRecord). e.1) h.entries)
outs_are rows records h =
    ap (λ (l : List Row). map (output people_query) (map (λ r. [] ∷ r ∷ []) l)) h.rows_are
    ∙ ap (map (output people_query)) (map-map (λ (r : Row). [] ∷ r ∷ []) (stored person_columns) h.entries)
    ∙ map-map (output people_query) (λ e. [] ∷ stored person_columns e ∷ []) h.entries
    ∙ sym (map-map out (λ (e : ℤ × PersonRecord). e.1) h.entries)

outs_rise : (people : TextMap Person) (withdrawn : TextMap (Unit {0}))
    → Rises (inner 2 end) (col 1 1 ∷ col 1 2 ∷ col 1 4 ∷ []) (up (col 1 1) ∷ [])
    (map out (rows_of_people people withdrawn))
outs_rise people withdrawn =
    ascending-map (λ a b. output_cmp people_query a b ≡ Less) out (rows_of_people people withdrawn)
    (ascending-map (λ a b. output_cmp people_query (out a) (out b) ≡ Less) (row_of_person withdrawn)
    (maps.entries people)
    (ascending_weaker (λ a b. text_cmp a.0 b.0 ≡ Less)
    (λ a b. output_cmp people_query (out (row_of_person withdrawn a)) (out (row_of_person withdrawn b)) ≡ Less)
    (λ a b less. text_before a.0 b.0 Equal less) (maps.entries people) (entries_rise text_cmp people)))

shown_again : (withdrawn : TextMap (Unit {0})) (e : Bytes × Person)
    → person_record ((out (row_of_person withdrawn e)).1) ≡ person_fields (people.person_row e)
shown_again withdrawn e = go e.1.home
  where
    go : (home : Option Bytes) → person_record (Text e.0 ∷ Text e.1.name ∷ text_or_null home ∷ []) ≡ person_fields
        (record { person = e.0; name = e.1.name; home = home })
    go None = refl
    go (Some room) = refl

people_answer : (db : Database) (office : Office) (rows : List Row) → HoldsOffice db office → IsLawful office
    → Answers db (alone people_query) [] rows
    → header_of People ∷ map person_record rows ≡ exported People office
unfolding rows_at
people_answer db office rows holds lawful h =
    let held = holds.rows.people in
    let records = rows_of_people office.people office.withdrawn in
    let all : IsPermutation (map out records)
    (map (output people_query) (matches db.trees [] (inner 2 end) ([] ∷ []))) =
    subst (IsPermutation (map out records))
    (sym (ap (map (output people_query)) (one_table db.trees 2) ∙ outs_are (db.trees 2) records held))
    (IsPermutation-map out _ _ held.same) in
    let is = answer_is (inner 2 end) (col 1 1 ∷ col 1 2 ∷ col 1 4 ∷ []) (up (col 1 1) ∷ []) db rows
    (map out records) h all (outs_rise office.people office.withdrawn) in
    ap (λ l. header_of People ∷ l)
    (ap (map person_record)
    (is ∙ map-map (λ (o : Output). o.1) out records ∙ map-map (λ x. (out x).1) (row_of_person office.withdrawn)
    (maps.entries office.people))
    ∙ map-map person_record (λ e. (out (row_of_person office.withdrawn e)).1) (maps.entries office.people)
    ∙ map_same _ (λ e. person_fields (people.person_row e)) (shown_again office.withdrawn)
    (maps.entries office.people)
    ∙ sym (map-map person_fields people.person_row (maps.entries office.people)))

pub people_exported_by_query : AsksForExport People people_text person_record
people_exported_by_query = record {
  query = people_query;
  names = person_names;
  is = people_meant.is;
  plain = people_meant.plain;
  unlisted = people_meant.unlisted;
  asks = people_meant.asks;
  answers = people_answer;
}
