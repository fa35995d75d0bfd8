-- The answer to the query for rooms is their export.
use Rattle.std.proofs.Common.{◌≡◌, ℤ, Bool, true, false, List, [], ◌∷◌, map, filter, flat_map, Option, Some, None}
use Rattle.std.proofs.Common.{option_to_list, Equal, Less, refl, sym, ap, ap₂, ◌∙◌, subst, IsPermutation}
use Rattle.std.specs.FinMap as maps
use Rattle.std.proofs.lemmas.List.Sorted.{IsPermutation-map}
use Rattle.sqlite_value.specs.Order.{Row}
use Rattle.sqlite_value.specs.declared.value.Value.TheVariants.{Text}
use Rattle.sqlite_sql.specs.Term.{col}
use Rattle.sqlite_sql.specs.Query.{Join, Output, inner, left, end, matches, output, output_cmp}
use Rattle.sqlite_keyed.proofs.ListLemmas.{map-map, map_same, filter-map, ascending-map, ascending_weaker}
use Rattle.sqlite.specs.Effect.{Answers, Database}
use Rattle.room_types.specs.Texts.{Text as Bytes, text_cmp}
use Rattle.office_state.specs.Office.{is_text, tenant}
use Rattle.office_state.specs.Office.Invariants.{IsLawful}
use Rattle.office_state.specs.declared.office.Office.{Office}
use Rattle.office_core.specs.Query.Overview.{room_row, state_of}
use Rattle.office_lists.specs.Exports.{header_of, room_fields}
use Rattle.office_lists.specs.declared.exports.ExportKind.TheVariants.{Rooms}
use Rattle.office_schema.specs.rows.Tables.{rows_at}
use Rattle.office_schema.specs.rows.Rows.{rows_of_people}
use Rattle.office_schema.specs.declared.rows.records.PersonRecord.{PersonRecord}
use Rattle.office_schema.specs.cells.Cells.{flag, text_or_null}
use Rattle.office_schema.specs.cells.Columns.{person_columns, room_columns}
use Rattle.office_schema.specs.tables.Holds.{Holds}
use Rattle.office_schema.specs.tables.Tables.{HoldsOffice}
use Rattle.office_schema.specs.tables.Queries.{alone}
use Rattle.office_store.specs.exports.Asking.{AsksForExport}
use Rattle.office_store.specs.exports.Exports.{exported}
use Rattle.office_store.specs.exports.Queries.{lives_there, rooms_query, rooms_text, up}
use Rattle.office_store.specs.exports.Shown.{room_record}
use Rattle.office_store.proofs.export_answers.Joining.{all_shown, joined, meets, out}
use Rattle.office_store.proofs.export_answers.Meanings.{rooms_meant, room_names}
use Rattle.office_store.proofs.export_answers.Ordering.{Rises, answer_is, text_before}
use Rattle.office_store.proofs.export_answers.Rising.{entries_rise}
use Rattle.office_store.proofs.export_answers.Tenants.{tenant_named}

abbrev from : Join
from = inner 0 (left 2 (lives_there ∷ []) end)

outs_rise : (office : Office) → Rises from (col 1 1 ∷ col 1 2 ∷ col 2 1 ∷ []) (up (col 1 1) ∷ [])
    (map (out (tenant office)) (maps.entries office.rooms))
outs_rise office =
    ascending-map (λ a b. output_cmp rooms_query a b ≡ Less) (out (tenant office)) (maps.entries office.rooms)
    (ascending_weaker (λ a b. text_cmp a.0 b.0 ≡ Less)
    (λ a b. output_cmp rooms_query (out (tenant office) a) (out (tenant office) b) ≡ Less)
    (λ a b less. text_before a.0 b.0 Equal less) (maps.entries office.rooms) (entries_rise text_cmp office.rooms))

-- who lives in a room, among the rows of the people
named : (office : Office) → IsLawful office
    → (rows : List Row) (h : Holds person_columns rows (rows_of_people office.people office.withdrawn)) (code : Bytes)
    → map (λ (e : ℤ × PersonRecord). e.1.id)
    (filter (λ (e : ℤ × PersonRecord). is_text e.1.person.home code) h.entries) ≡ option_to_list (tenant office code)
named office lawful rows h code =
    let of : ℤ × PersonRecord → PersonRecord = λ e. e.1 in
    let test : PersonRecord → Bool = λ x. is_text x.person.home code in
    sym (map-map (λ (x : PersonRecord). x.id) of (filter (λ e. test (of e)) h.entries))
    ∙ ap (map (λ (x : PersonRecord). x.id)) (sym (filter-map test of h.entries))
    ∙ tenant_named office.people code lawful.register.homes office.withdrawn (map of h.entries) h.same

-- what is shown of all matches
outs_are : (office : Office) → IsLawful office
    → (rooms people : List Row) (h : Holds room_columns rooms (maps.entries office.rooms))
    (k : Holds person_columns people (rows_of_people office.people office.withdrawn))
    → map (output rooms_query) (flat_map (λ room. joined room (filter (meets room) people)) rooms)
    ≡ map (out (tenant office)) (map (λ (e : ℤ × (Bytes × Bool)). e.1) h.entries)
outs_are office lawful rooms people h k =
    ap₂ (λ (l m : List Row). map (output rooms_query) (flat_map (λ room. joined room (filter (meets room) m)) l))
    h.rows_are k.rows_are
    ∙ all_shown (tenant office) k.entries (named office lawful people k) h.entries

shown_again : (office : Office) (e : Bytes × Bool) → room_record ((out (tenant office) e).1) ≡ room_fields
    (room_row office e)
shown_again office e = go e.1 (tenant office e.0)
  where
    go : (shut : Bool) (o : Option Bytes) → room_record (Text e.0 ∷ flag shut ∷ text_or_null o ∷ []) ≡ room_fields
        (record { room = e.0; state = state_of shut o; tenant = o })
    go true None = refl
    go true (Some t) = refl
    go false None = refl
    go false (Some t) = refl

rooms_answer : (db : Database) (office : Office) (rows : List Row) → HoldsOffice db office → IsLawful office
    → Answers db (alone rooms_query) [] rows
    → header_of Rooms ∷ map room_record rows ≡ exported Rooms office
unfolding rows_at
rooms_answer db office rows holds lawful h =
    let held = holds.rows.rooms in
    let entries = maps.entries office.rooms in
    let outs = map (out (tenant office)) entries in
    let all : IsPermutation outs (map (output rooms_query) (matches db.trees [] from ([] ∷ []))) =
    subst (IsPermutation outs) (sym (outs_are office lawful (db.trees 0) (db.trees 2) held holds.rows.people))
    (IsPermutation-map (out (tenant office)) _ _ held.same) in
    let is = answer_is from (col 1 1 ∷ col 1 2 ∷ col 2 1 ∷ []) (up (col 1 1) ∷ []) db rows outs h all
    (outs_rise office) in
    ap (λ l. header_of Rooms ∷ l)
    (ap (map room_record) (is ∙ map-map (λ (o : Output). o.1) (out (tenant office)) entries)
    ∙ map-map room_record (λ e. (out (tenant office) e).1) entries
    ∙ map_same _ (λ e. room_fields (room_row office e)) (shown_again office) entries
    ∙ sym (map-map room_fields (room_row office) entries))

pub rooms_exported_by_query : AsksForExport Rooms rooms_text room_record
rooms_exported_by_query = record {
  query = rooms_query;
  names = room_names;
  is = rooms_meant.is;
  plain = rooms_meant.plain;
  unlisted = rooms_meant.unlisted;
  asks = rooms_meant.asks;
  answers = rooms_answer;
}
