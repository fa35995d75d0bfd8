-- Each room is joined with the person who lives there.
use Rattle.std.proofs.Common.{◌≡◌, ℤ, Bool, true, ◌&&◌, List, [], ◌∷◌, ◌++◌, map, flat_map, filter, Option, Some, None}
use Rattle.std.proofs.Common.{option_to_list, refl, sym, ap, ap₂, ◌∙◌}
use Rattle.std.specs.List.{list_all}
use Rattle.std.proofs.lemmas.List.{map-append}
use Rattle.sqlite_value.specs.Order.{Row}
use Rattle.sqlite_value.specs.declared.value.Value.TheVariants.{Text}
use Rattle.sqlite_sql.specs.Ops.{binary, is_true}
use Rattle.sqlite_sql.specs.Term.{Env, holds}
use Rattle.sqlite_sql.specs.Query.{Output, or_nulls, output}
use Rattle.sqlite_sql.specs.declared.ops.BinaryOp.TheVariants.{Compare}
use Rattle.sqlite_sql.specs.declared.ops.CompareOp.TheVariants.{Eq}
use Rattle.sqlite_value.specs.declared.keys.Collation.TheVariants.{Binary}
use Rattle.sqlite_keyed.proofs.ListLemmas.{filter-map}
use Rattle.room_types.specs.Texts.{Text as Bytes}
use Rattle.office_state.specs.Office.{is_text}
use Rattle.office_schema.specs.cells.Cells.{flag, text_or_null}
use Rattle.office_schema.specs.cells.Columns.{person_columns, room_columns}
use Rattle.office_schema.specs.declared.rows.records.PersonRecord.{PersonRecord}
use Rattle.office_schema.specs.tables.Holds.{stored}
use Rattle.office_schema.proofs.statements.Values.{same_text}
use Rattle.office_store.specs.exports.Queries.{lives_there, rooms_query}

-- the test that joins a room and a person
abbrev pub meets : Row → Row → Bool
meets room person = list_all (holds ([] ∷ room ∷ person ∷ [])) (lives_there ∷ [])

lives_is : (home : Option Bytes) (code : Bytes)
    → (is_true (binary (Compare Eq Binary) (text_or_null home) (Text code)) && true) ≡ is_text home code
unfolding binary
lives_is None code = refl
lives_is (Some room) code = same_text room code

meets_is : (room : ℤ × (Bytes × Bool)) (person : ℤ × PersonRecord) → meets (stored room_columns room)
    (stored person_columns person) ≡ is_text person.1.person.home room.1.0
meets_is room person = lives_is person.1.person.home room.1.0

-- the matches of a room
matches_of_room : (room : ℤ × (Bytes × Bool)) (people : List (ℤ × PersonRecord))
    → filter (meets (stored room_columns room)) (map (stored person_columns) people)
    ≡ map (stored person_columns) (filter (λ (e : ℤ × PersonRecord). is_text e.1.person.home room.1.0) people)
matches_of_room room people =
    filter-map (meets (stored room_columns room)) (stored person_columns) people
    ∙ ap (λ (test : ℤ × PersonRecord → Bool). map (stored person_columns) (filter test people))
    (λ i e. meets_is room e i)

-- the key of a room's row, and what is shown of it
abbrev pub out : (Bytes → Option Bytes) → Bytes × Bool → Output
out tenant e = (Text e.0 ∷ [], Text e.0 ∷ flag e.1 ∷ text_or_null (tenant e.0) ∷ [])

abbrev pub joined : Row → List Row → List Env
joined room people = flat_map (λ person. ([] ∷ room ∷ person ∷ []) ∷ []) (or_nulls people)

one_shown : (tenant : Bytes → Option Bytes) (room : ℤ × (Bytes × Bool)) (people : List (ℤ × PersonRecord))
    (o : Option Bytes) → tenant room.1.0 ≡ o
    → map (λ (e : ℤ × PersonRecord). e.1.id) people ≡ option_to_list o
    → map (output rooms_query) (joined (stored room_columns room) (map (stored person_columns) people)) ≡ out
    tenant room.1 ∷ []
one_shown tenant room [] None is named =
    ap (λ t. (Text room.1.0 ∷ [], Text room.1.0 ∷ flag room.1.1 ∷ text_or_null t ∷ []) ∷ []) (sym is)
one_shown tenant room [] (Some x) is named = absurd (cc)
one_shown tenant room (e ∷ people) None is named = absurd (cc)
one_shown tenant room (e ∷ []) (Some x) is named =
    let same : Some e.1.id ≡ tenant room.1.0 =
    ap (λ (l : List Bytes). Rattle.std.proofs.Common.slice_get l 0) named ∙ sym is in
    ap (λ t. (Text room.1.0 ∷ [], Text room.1.0 ∷ flag room.1.1 ∷ text_or_null t ∷ []) ∷ []) same
one_shown tenant room (e ∷ f ∷ people) (Some x) is named = absurd (cc)

-- what is shown of all rooms
pub all_shown : (tenant : Bytes → Option Bytes) (people : List (ℤ × PersonRecord))
    → ((code : Bytes)
    → map (λ (e : ℤ × PersonRecord). e.1.id)
    (filter (λ (e : ℤ × PersonRecord). is_text e.1.person.home code) people) ≡ option_to_list (tenant code))
    → (rooms : List (ℤ × (Bytes × Bool)))
    → map (output rooms_query)
    (flat_map (λ room. joined room (filter (meets room) (map (stored person_columns) people)))
    (map (stored room_columns) rooms))
    ≡ map (out tenant) (map (λ (e : ℤ × (Bytes × Bool)). e.1) rooms)
all_shown tenant people named [] = refl
all_shown tenant people named (room ∷ rooms) =
    map-append (output rooms_query)
    (joined (stored room_columns room)
    (filter (meets (stored room_columns room)) (map (stored person_columns) people))) _
    ∙ ap₂ ◌++◌
    (ap (λ l. map (output rooms_query) (joined (stored room_columns room) l)) (matches_of_room room people)
    ∙ one_shown tenant room (filter (λ (e : ℤ × PersonRecord). is_text e.1.person.home room.1.0) people)
    (tenant room.1.0) refl (named room.1.0))
    (all_shown tenant people named rooms)
