-- The answer to the query for moves is their export.
use Rattle.std.proofs.Common.{◌≡◌, ◌<◌, ℕ, ℤ, pos, List, [], ◌∷◌, map, flat_map, Option, Some, None, Equal, Less, refl}
use Rattle.std.proofs.Common.{sym, ap, ◌∙◌, subst, IsPermutation}
use Rattle.std.specs.Ordering.{nat_cmp, ordering_then}
use Rattle.std.specs.Cmp.{tied_itself}
use Rattle.std.specs.List.{AllByRecursion}
use Rattle.std.specs.FinMap as maps
use Rattle.std.proofs.Math.Facts.{yes_ltb}
use Rattle.std.proofs.lemmas.Cmp.{int_cmp_total, ranked}
use Rattle.std.proofs.lemmas.List.Sorted.{IsPermutation-map}
use Rattle.sqlite_value.specs.Order.{Row, value_cmp}
use Rattle.sqlite_value.specs.declared.value.Value.TheVariants.{Int, Text}
use Rattle.sqlite_value.proofs.OrderLemmas.{value_cmp-Int}
use Rattle.sqlite_sql.specs.Term.{col}
use Rattle.sqlite_sql.specs.Query.{Output, inner, end, matches, output, output_cmp}
use Rattle.sqlite_trees.specs.Tree.{IsAscending}
use Rattle.sqlite_keyed.proofs.ListLemmas.{map-map, map_same, all-map, all-append, all_weaker, ascending-append}
use Rattle.sqlite_keyed.proofs.ListLemmas.{ascending-map, ascending_weaker}
use Rattle.sqlite_keyed.proofs.KeyedLemmas.{Less-from_lt}
use Rattle.sqlite.specs.Effect.{Answers, Database}
use Rattle.room_types.specs.Texts.{Text as Bytes, text_cmp}
use Rattle.room_types.specs.declared.moves.Move.{Move}
use Rattle.room_types.specs.declared.moves.Wave.{Wave}
use Rattle.room_types.specs.declared.moves.Wave.TheVariants.{Swap, Nth}
use Rattle.office_state.specs.Office.Invariants.{IsLawful}
use Rattle.office_state.specs.Office.Moves.{RoundMap}
use Rattle.office_state.specs.declared.office.Office.{Office}
use Rattle.office_state.specs.declared.office.moves.Moved.{Moved}
use Rattle.office_state.specs.declared.office.moves.RoundMoves.{RoundMoves}
use Rattle.office_lists.specs.Exports.{header_of, move_fields}
use Rattle.office_lists.specs.declared.exports.ExportKind.TheVariants.{Moves}
use Rattle.office_schema.specs.rows.Tables.{rows_at}
use Rattle.office_schema.specs.rows.Rows.{row_of_move, rows_of_moves, round_rows}
use Rattle.office_schema.specs.cells.Cells.{text_or_null, wave_value}
use Rattle.office_schema.specs.cells.Columns.{move_columns}
use Rattle.office_schema.specs.tables.Holds.{Holds, stored}
use Rattle.office_schema.specs.tables.Tables.{HoldsOffice}
use Rattle.office_schema.specs.tables.Queries.{alone}
use Rattle.office_store.specs.exports.Asking.{AsksForExport}
use Rattle.office_store.specs.exports.Exports.{exported}
use Rattle.office_store.specs.exports.Queries.{moves_query, moves_text, up}
use Rattle.office_store.specs.exports.Shown.{move_record, move_shown}
use Rattle.office_store.proofs.export_answers.Meanings.{moves_meant, move_names}
use Rattle.office_store.proofs.export_answers.Ordering.{Rises, answer_is, one_table, text_before}
use Rattle.office_store.proofs.export_answers.Rising.{entries_rise}

-- the key of a move's row, and what is shown of it
abbrev out : Move → Output
out x = (Int (pos x.round) ∷ Text x.person ∷ [], move_columns x)

abbrev Before : Move → Move → Type 0
Before a b = output_cmp moves_query (out a) (out b) ≡ Less

number_before : (a b : ℕ) → nat_cmp a b ≡ Less → value_cmp (Int (pos a)) (Int (pos b)) ≡ Less
number_before a b less =
    let low : a < b = ranked a b Less (sym less) in
    value_cmp-Int (pos a) (pos b) ∙ Less-from_lt (pos a) (pos b) (record { lt = yes_ltb low })

number_same : (a : ℕ) → value_cmp (Int (pos a)) (Int (pos a)) ≡ Equal
number_same a = value_cmp-Int (pos a) (pos a) ∙ tied_itself int_cmp_total (pos a)

earlier_round : (a b : Move) → nat_cmp a.round b.round ≡ Less → Before a b
earlier_round a b less = ap (λ o. ordering_then o (ordering_then (value_cmp (Text a.person) (Text b.person)) Equal))
    (number_before a.round b.round less)

earlier_person : (round : ℕ) (a b : Bytes × Moved) → text_cmp a.0 b.0 ≡ Less → Before (row_of_move round a)
    (row_of_move round b)
earlier_person round a b less =
    ap (λ o. ordering_then o (ordering_then (value_cmp (Text a.0) (Text b.0)) Equal)) (number_same round)
    ∙ text_before a.0 b.0 Equal less

round_rises : (e : ℕ × RoundMoves) → IsAscending Before (round_rows e)
round_rises e =
    ascending-map Before (row_of_move e.0) (maps.entries e.1.by_person)
    (ascending_weaker (λ a b. text_cmp a.0 b.0 ≡ Less) (λ a b. Before (row_of_move e.0 a) (row_of_move e.0 b))
    (earlier_person e.0) (maps.entries e.1.by_person) (entries_rise text_cmp e.1.by_person))

of_round : (e : ℕ × RoundMoves) → AllByRecursion (λ x. x.round ≡ e.0) (round_rows e)
of_round e = all-map (λ x. x.round ≡ e.0) (row_of_move e.0) (λ _. refl) (maps.entries e.1.by_person)

later_rounds : (round : ℕ) (es : List (ℕ × RoundMoves)) → AllByRecursion (λ e. nat_cmp round e.0 ≡ Less) es
    → AllByRecursion (λ x. nat_cmp round x.round ≡ Less) (flat_map round_rows es)
later_rounds round [] above = tt
later_rounds round (e ∷ es) above =
    all-append (λ (x : Move). nat_cmp round x.round ≡ Less) (round_rows e) (flat_map round_rows es)
    (all_weaker (λ (x : Move). x.round ≡ e.0) (λ (x : Move). nat_cmp round x.round ≡ Less)
    (λ x same. ap (nat_cmp round) same ∙ above.0) (round_rows e) (of_round e))
    (later_rounds round es above.1)

rounds_rise : (es : List (ℕ × RoundMoves)) → IsAscending (λ a b. nat_cmp a.0 b.0 ≡ Less) es
    → IsAscending Before (flat_map round_rows es)
rounds_rise [] up = tt
rounds_rise (e ∷ es) up =
    ascending-append Before (round_rows e) (flat_map round_rows es) (round_rises e) (rounds_rise es up.1)
    (all_weaker (λ (x : Move). x.round ≡ e.0) (λ x. AllByRecursion (Before x) (flat_map round_rows es))
    (λ x same. all_weaker (λ (y : Move). nat_cmp e.0 y.round ≡ Less) (Before x)
    (λ y less. earlier_round x y (ap (λ n. nat_cmp n y.round) same ∙ less)) (flat_map round_rows es)
    (later_rounds e.0 es up.0))
    (round_rows e) (of_round e))

outs_rise : (moves : RoundMap RoundMoves)
    → Rises (inner 7 end) (col 1 1 ∷ col 1 2 ∷ col 1 3 ∷ col 1 4 ∷ col 1 5 ∷ []) (up (col 1 1) ∷ up (col 1 2) ∷ [])
    (map out (rows_of_moves moves))
outs_rise moves = ascending-map (λ a b. output_cmp moves_query a b ≡ Less) out (rows_of_moves moves)
    (rounds_rise (maps.entries moves) (entries_rise nat_cmp moves))

-- what is shown of all rows of the table
outs_are : (rows : List Row) (records : List Move) (h : Holds move_columns rows records)
    → map (output moves_query) (map (λ r. [] ∷ r ∷ []) rows) ≡ map out (map (λ (e : ℤ × Move). e.1) h.entries)
outs_are rows records h =
    ap (λ (l : List Row). map (output moves_query) (map (λ r. [] ∷ r ∷ []) l)) h.rows_are
    ∙ ap (map (output moves_query)) (map-map (λ (r : Row). [] ∷ r ∷ []) (stored move_columns) h.entries)
    ∙ map-map (output moves_query) (λ e. [] ∷ stored move_columns e ∷ []) h.entries
    ∙ sym (map-map out (λ (e : ℤ × Move). e.1) h.entries)

-- The columns of a move show the same move.
move_again : (x : Move) → move_record (move_columns x) ≡ move_fields x
move_again x = ap move_fields (go x.from x.to x.wave)
  where
    go : (from to : Option Bytes) (wave : Wave)
        → move_shown (Int (pos x.round) ∷ Text x.person ∷ text_or_null from ∷ text_or_null to ∷ wave_value wave ∷ [])
        ≡ record { round = x.round; person = x.person; from = from; to = to; wave = wave }
    go None None Swap = refl
    go None None (Nth n) = refl
    go None (Some t) Swap = refl
    go None (Some t) (Nth n) = refl
    go (Some f) None Swap = refl
    go (Some f) None (Nth n) = refl
    go (Some f) (Some t) Swap = refl
    go (Some f) (Some t) (Nth n) = refl

moves_answer : (db : Database) (office : Office) (rows : List Row) → HoldsOffice db office → IsLawful office
    → Answers db (alone moves_query) [] rows
    → header_of Moves ∷ map move_record rows ≡ exported Moves office
unfolding rows_at
moves_answer db office rows holds lawful h =
    let held = holds.rows.moves in
    let records = rows_of_moves office.moves in
    let all : IsPermutation (map out records) (map (output moves_query) (matches db.trees [] (inner 7 end) ([] ∷ []))) =
    subst (IsPermutation (map out records))
    (sym (ap (map (output moves_query)) (one_table db.trees 7) ∙ outs_are (db.trees 7) records held))
    (IsPermutation-map out _ _ held.same) in
    let is = answer_is (inner 7 end) (col 1 1 ∷ col 1 2 ∷ col 1 3 ∷ col 1 4 ∷ col 1 5 ∷ [])
    (up (col 1 1) ∷ up (col 1 2) ∷ []) db rows (map out records) h all (outs_rise office.moves) in
    ap (λ l. header_of Moves ∷ l)
    (ap (map move_record) (is ∙ map-map (λ (o : Output). o.1) out records)
    ∙ map-map move_record move_columns records
    ∙ map_same (λ x. move_record (move_columns x)) move_fields move_again records)

pub moves_exported_by_query : AsksForExport Moves moves_text move_record
moves_exported_by_query = record {
  query = moves_query;
  names = move_names;
  is = moves_meant.is;
  plain = moves_meant.plain;
  unlisted = moves_meant.unlisted;
  asks = moves_meant.asks;
  answers = moves_answer;
}
