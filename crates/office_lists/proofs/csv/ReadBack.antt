-- Reading an export gives back its records.
use Rattle.std.proofs.Common.{◌≡◌, ◌∙◌, ◌==◌, false, ℕ, List, [], ◌∷◌, map, refl, sym}
use Rattle.csv.specs.Machine.{next_record}
use Rattle.csv.specs.Reading.{Reached, default_config, strip_bom}
use Rattle.csv.specs.Writing.{escaped, fields_text, is_blank, read_back}
use Rattle.csv.specs.declared.parser.State.TheVariants as st
use Rattle.csv.proofs.RoundTrip.{read-write}
use Rattle.office_lists.specs.Exports.{AreReadBack, IsReadBack, export, export_bytes, grade_fields, header_of}
use Rattle.office_lists.specs.Exports.{move_fields, person_fields, record_bytes, room_fields}
use Rattle.office_lists.specs.Records.{Record, records_of}
use Rattle.office_lists.specs.declared.exports.ExportKind.{ExportKind}
use Rattle.office_lists.specs.declared.exports.ExportKind.TheVariants.{Rooms, People, Moves, Grades}
use Rattle.office_lists.proofs.csv.Reaching.{all_records}

-- a reader reaches the exported records one after the other
reached : (records : List Record)
    → Reached default_config st.StartRecord (export_bytes records) (map read_back records) st.StartRecord []
unfolding Reached record_bytes
reached [] = (refl, refl)
reached (first ∷ rest) =
    ((read_back first, st.StartRecord, export_bytes rest), read-write first (export_bytes rest), refl, reached rest)

-- a text that does not begin with 0xEF has no byte order mark
no_mark : (first : ℕ) (rest : List ℕ) → (first == 0xEF) ≡ false → strip_bom (first ∷ rest) ≡ first ∷ rest
unfolding strip_bom
no_mark first [] other = refl
no_mark first (second ∷ []) other = refl
no_mark first (second ∷ third ∷ rest) other = rw other refl

no_mark_in_export : {Row : Type 0} (kind : ExportKind) (fields : Row → Record) (rows : List Row)
    → strip_bom (export_bytes (export kind fields rows)) ≡ export_bytes (export kind fields rows)
unfolding record_bytes fields_text is_blank escaped
no_mark_in_export Rooms fields rows = no_mark 114 _ refl
no_mark_in_export People fields rows = no_mark 112 _ refl
no_mark_in_export Moves fields rows = no_mark 114 _ refl
no_mark_in_export Grades fields rows = no_mark 112 _ refl

same_header : (kind : ExportKind) → read_back (header_of kind) ≡ header_of kind
same_header Rooms = refl
same_header People = refl
same_header Moves = refl
same_header Grades = refl

same_rows : {Row : Type 0} (fields : Row → Record) (rows : List Row)
    → ((row : Row) → read_back (fields row) ≡ fields row)
    → map read_back (map fields rows) ≡ map fields rows
same_rows fields [] same = refl
same_rows fields (row ∷ rows) same = rw (same row, same_rows fields rows same) refl

is_read_back : {Row : Type 0} (kind : ExportKind) (fields : Row → Record) (rows : List Row)
    → ((row : Row) → read_back (fields row) ≡ fields row) → IsReadBack (export kind fields rows)
unfolding records_of next_record
is_read_back kind fields rows same =
    let records = export kind fields rows in
    rw (no_mark_in_export kind fields rows) (sym (all_records (export_bytes records) (map read_back records)
    (st.StartRecord, [], reached records, refl)) ∙ rw (same_header kind, same_rows fields rows same) refl)

pub are_read_back : AreReadBack
are_read_back = record {
  rooms = λ rows. is_read_back Rooms room_fields rows (λ row. refl);
  people = λ rows. is_read_back People person_fields rows (λ row. refl);
  moves = λ rows. is_read_back Moves move_fields rows (λ row. refl);
  grades = λ rows. is_read_back Grades grade_fields rows (λ row. refl);
}
