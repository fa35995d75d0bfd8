-- Writing an export record by record.
use Rattle.std.proofs.Common.{◌≡◌, ◌∙◌, ◌<◌, ◌≤◌, ◌+◌, ◌*◌, ◌^◌, ◌++◌, ℕ, zero, suc, List, [], ◌∷◌, add-one, length}
use Rattle.std.proofs.Common.{drop, take, map, get_or, refl, sym, ap, subst, arith, drop-cons, append-nil}
use Rattle.std.proofs.Common.{length-append}
use Rattle.std.proofs.lemmas.Grind.{flat_map-append}
use Rattle.std.proofs.lemmas.List.{length-map, take-append-drop, take-append-le}
use Rattle.std.proofs.Math.Seq.{take-append-add, take-append_seam, take-suc}
use Rattle.csv.specs.Writing.{default_writer, row_body}
use Rattle.room_types.specs.Streams.{Output, Puts}
use Rattle.room_types.proofs.watched_bytes.Streams.{Puts-nil, Puts-trans}
use Rattle.office_lists.specs.Exports.{export_bytes, record_bytes}
use Rattle.office_lists.specs.Records.{Record}

-- the first `count` records are written, `sent` bytes in all
pub record IsWritten (records : List Record) (count sent : ℕ) (before after : Output) : Type 0 where
  pub size : sent ≡ length (export_bytes (take count records))
  pub room : sent ≤ count * 2 ^ 64
  pub written : Puts before after (export_bytes (take count records))

-- the record at this place
abbrev pub record_at : List Record → ℕ → Record
record_at records place = get_or records place []

-- the record of a row comes after the header and the records of the rows before it
at_row : {Row : Type 0} (header : Record) (fields : Row → Record) (rows : List Row) (i : ℕ) (d : Row) → i < length rows
    → record_at (header ∷ map fields rows) (suc i) ≡ fields (get_or rows i d)
at_row header fields [] i d low = absurd (omega arith)
at_row header fields (row ∷ rows) zero d low = refl
at_row header fields (row ∷ rows) (suc i) d low = at_row (fields row) fields rows i d (omega arith)

-- there is a record for each row
pub row_place : {Row : Type 0} (header : Record) (fields : Row → Record) (rows : List Row) (i : ℕ) → i < length rows
    → i + 1 < length (header ∷ map fields rows)
row_place header fields rows i low = let l : length (map fields rows) ≡ length rows =
    length-map rows fields in omega arith

-- bytes that are equal to those of a row's record are those of the record at its place
pub row_bytes_are : {Row : Type 0} (header : Record) (fields : Row → Record) (rows : List Row) (i : ℕ) (d row : Row)
    (own bytes : List ℕ)
    → i < length rows → row ≡ get_or rows i d → own ≡ record_bytes (fields row) → bytes ≡ own
    → bytes ≡ record_bytes (record_at (header ∷ map fields rows) (i + 1))
row_bytes_are header fields rows i d row own bytes low at is same =
    same ∙ is ∙ ap (λ (r : _). record_bytes (fields r)) at
    ∙ sym (rw add-one (ap record_bytes (at_row header fields rows i d low)))

-- the first records and one more
one_record_more : (records : List Record) (count : ℕ) → count < length records
    → export_bytes (take (suc count) records) ≡ export_bytes (take count records)
    ++ record_bytes (record_at records count)
one_record_more records count low =
    ap export_bytes (take-suc records count [] low)
    ∙ flat_map-append record_bytes (take count records) (record_at records count ∷ [])
    ∙ ap (λ (bytes : List ℕ). export_bytes (take count records) ++ bytes)
    (append-nil (record_bytes (record_at records count)))

-- the bytes before a record, its own bytes, and those after it
parts : (records : List Record) (count : ℕ) → count < length records
    → export_bytes records
    ≡ export_bytes (take count records)
    ++ (record_bytes (record_at records count) ++ export_bytes (drop (suc count) records))
parts records count low =
    ap export_bytes (sym (take-append-drop count records))
    ∙ flat_map-append record_bytes (take count records) (drop count records)
    ∙ ap (λ (rest : List Record). export_bytes (take count records) ++ export_bytes rest)
    (drop-cons records count [] low)

-- a record has at least one byte: the line feed at its end
has_byte : (fields : Record) → 0 < length (record_bytes fields)
unfolding record_bytes
has_byte fields = ends (row_body default_writer fields) _
  where
    ends : (xs ys : List ℕ) → 0 < length (xs ++ (ys ++ 10 ∷ []))
    ends [] [] = omega arith
    ends [] (y ∷ ys) = omega arith
    ends (x ∷ xs) ys = omega arith

pub writing_begun : (records : List Record) (output : Output) → IsWritten records 0 0 output output
writing_begun records output = record { size = refl; room = omega arith; written = Puts-nil output }

pub writing_goes_on : (records : List Record) (count sent : ℕ) (before middle after : Output) (bytes : List ℕ)
    → count < length records
    → bytes ≡ record_bytes (record_at records count) → length bytes < 2 ^ 64 → Puts middle after bytes
    → IsWritten records count sent before middle → IsWritten records (count + 1) (sent + length bytes) before after
writing_goes_on records count sent before middle after bytes low is small puts so_far =
    let all : export_bytes (take count records) ++ bytes ≡ export_bytes (take (count + 1) records) =
    ap (λ (b : List ℕ). export_bytes (take count records) ++ b) is
    ∙ sym (rw add-one (one_record_more records count low)) in
    record {
      size = let l = length-append (export_bytes (take count records)) bytes in
          omega (arith, so_far.size, l) ∙ ap length all;
      room = omega (arith, so_far.room);
      written = subst (λ (b : List ℕ). Puts before after b) all (Puts-trans _ _ _ _ _ so_far.written puts);
    }

-- a write fails within a record
pub writing_cut : (records : List Record) (count sent part : ℕ) (before middle after : Output) (bytes : List ℕ)
    → count < length records
    → bytes ≡ record_bytes (record_at records count) → part < length bytes → Puts middle after (take part bytes)
    → IsWritten records count sent before middle → Puts before after (take (sent + part) (export_bytes records))
writing_cut records count sent part before middle after bytes low is short puts so_far =
    let first = export_bytes (take count records) in
    let rest = export_bytes (drop (suc count) records) in
    let all : export_bytes records ≡ first ++ (bytes ++ rest) =
    parts records count low ∙ ap (λ (b : List ℕ). first ++ (b ++ rest)) (sym is) in
    let prefix : take (sent + part) (export_bytes records) ≡ first ++ take part bytes =
    ap (take (sent + part)) all ∙ ap (λ (k : ℕ). take (k + part) (first ++ (bytes ++ rest))) so_far.size
    ∙ take-append-add first (bytes ++ rest) part
    ∙ ap (λ (b : List ℕ). first ++ b) (take-append-le part bytes rest (omega arith)) in
    subst (λ (b : List ℕ). Puts before after b) (sym prefix) (Puts-trans _ _ _ _ _ so_far.written puts)

pub cut_short : (records : List Record) (count sent part : ℕ) (before middle : Output) (bytes : List ℕ)
    → count < length records
    → bytes ≡ record_bytes (record_at records count) → part < length bytes
    → IsWritten records count sent before middle → sent + part < length (export_bytes records)
cut_short records count sent part before middle bytes low is short so_far =
    let first = export_bytes (take count records) in
    let rest = export_bytes (drop (suc count) records) in
    let size : length (export_bytes records) ≡ length (first ++ (record_bytes (record_at records count) ++ rest)) =
    ap length (parts records count low) in
    let own : length bytes ≡ length (record_bytes (record_at records count)) = ap length is in
    let l = length-append first (record_bytes (record_at records count) ++ rest) in
    let m = length-append (record_bytes (record_at records count)) rest in
    omega (arith, so_far.size)

-- the export stops before a record
pub writing_stopped : (records : List Record) (count sent : ℕ) (before after : Output)
    → IsWritten records count sent before after → Puts before after (take sent (export_bytes records))
writing_stopped records count sent before after so_far =
    let first = export_bytes (take count records) in
    let rest = export_bytes (drop count records) in
    let all : export_bytes records ≡ first ++ rest =
    ap export_bytes (sym (take-append-drop count records)) ∙ flat_map-append record_bytes (take count records)
    (drop count records) in
    let prefix : take sent (export_bytes records) ≡ first =
    ap (take sent) all ∙ ap (λ (k : ℕ). take k (first ++ rest)) so_far.size ∙ take-append_seam first rest in
    subst (λ (b : List ℕ). Puts before after b) (sym prefix) so_far.written

pub stopped_short : (records : List Record) (count sent : ℕ) (before after : Output) → count < length records
    → IsWritten records count sent before after → sent < length (export_bytes records)
stopped_short records count sent before after low so_far =
    let some = has_byte (record_at records count) in
    let here =
    cut_short records count sent 0 before after (record_bytes (record_at records count)) low refl some so_far in
    omega arith
