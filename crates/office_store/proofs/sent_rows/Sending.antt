-- Writing the records of an export one after another.
use Rattle.std.proofs.Common.{◌≡◌, ◌<◌, ◌+◌, ℕ, List, [], ◌∷◌, ◌++◌, length, map, take, sym, ap, ◌∙◌, subst, arith}
use Rattle.std.proofs.Common.{append-nil, append_assoc, length-append}
use Rattle.std.proofs.lemmas.Grind.{flat_map-append}
use Rattle.std.proofs.lemmas.List.{take-append-le, length-take, map-append}
use Rattle.std.proofs.Math.Seq.{take-append-add, take-append_seam}
use Rattle.room_types.specs.Streams.{Output, Puts}
use Rattle.room_types.proofs.watched_bytes.Streams.{Puts-trans}
use Rattle.office_lists.specs.Exports.{export_bytes, record_bytes}
use Rattle.office_lists.specs.Records.{Record}
use Rattle.office_store.specs.exports.Ending.{PutsCount, PutsPrefix}

-- These records were written, in `sent` bytes.
pub record AreSent (records : List Record) (sent : ℕ) (before after : Output) : Type 0 where
  pub size : sent ≡ length (export_bytes records)
  pub written : Puts before after (export_bytes records)

-- one record more
pub more_sent : (records : List Record) (one : Record) (sent : ℕ) (before middle after : Output) (bytes : List ℕ)
    → bytes ≡ record_bytes one → Puts middle after bytes
    → AreSent records sent before middle → AreSent (records ++ one ∷ []) (sent + length bytes) before after
more_sent records one sent before middle after bytes is puts so_far =
    let all : export_bytes records ++ bytes ≡ export_bytes (records ++ one ∷ []) =
    ap (λ (b : List ℕ). export_bytes records ++ b) (is ∙ sym (append-nil (record_bytes one)))
    ∙ sym (flat_map-append record_bytes records (one ∷ [])) in
    record {
      size = omega (arith, so_far.size, length-append (export_bytes records) bytes) ∙ ap length all;
      written = subst (λ (b : List ℕ). Puts before after b) all (Puts-trans _ _ _ _ _ so_far.written puts);
    }

-- the first record
pub one_record : (one : Record) (before after : Output) (bytes : List ℕ) → bytes ≡ record_bytes one
    → Puts before after bytes → AreSent (one ∷ []) (length bytes) before after
one_record one before after bytes is puts =
    let all : bytes ≡ export_bytes (one ∷ []) = is ∙ sym (append-nil (record_bytes one)) in
    record { size = ap length all; written = subst (λ (b : List ℕ). Puts before after b) all puts }

pub sent_counted : (records : List Record) (sent : ℕ) (before after : Output) → AreSent records sent before after
    → PutsCount before after sent
sent_counted records sent before after so_far = (export_bytes records, so_far.written, sym so_far.size)

-- an end before a record
pub prefix_sent : (records rest all : List Record) (sent : ℕ) (before after : Output) → records ++ rest ≡ all
    → AreSent records sent before after
    → PutsPrefix before after sent (export_bytes all)
prefix_sent records rest all sent before after is so_far =
    let first = export_bytes records in
    let parts : export_bytes all ≡ first ++ export_bytes rest =
    ap export_bytes (sym is) ∙ flat_map-append record_bytes records rest in
    let prefix : take sent (export_bytes all) ≡ first =
    ap (take sent) parts ∙ ap (λ (k : ℕ). take k (first ++ export_bytes rest)) so_far.size
    ∙ take-append_seam first (export_bytes rest) in
    let size : length (export_bytes all) ≡ length (first ++ export_bytes rest) = ap length parts in
    record {
      written = subst (λ (b : List ℕ). Puts before after b) (sym prefix) so_far.written;
      within = omega (arith, so_far.size, size, length-append first (export_bytes rest));
    }

-- a write that failed within a record
module _ (records : List Record) (sent part : ℕ) (before middle after : Output) (bytes : List ℕ)
    (short : part < length bytes) (puts : Puts middle after (take part bytes))
    (so_far : AreSent records sent before middle) where
  abbrev first : List ℕ
  first = export_bytes records

  went : Puts before after (first ++ take part bytes)
  went = Puts-trans _ _ _ _ _ so_far.written puts

  pub cut_counted : PutsCount before after (sent + part)
  cut_counted = (
    first ++ take part bytes,
    went,
    omega (arith, so_far.size, short, length-append first (take part bytes), length-take part bytes),
  )

  module _ (one : Record) (rest all : List Record) (own : bytes ≡ record_bytes one)
      (is : records ++ one ∷ rest ≡ all) where
    abbrev tail : List ℕ
    tail = export_bytes rest

    parts : export_bytes all ≡ first ++ (bytes ++ tail)
    parts = ap export_bytes (sym is) ∙ flat_map-append record_bytes records (one ∷ rest)
        ∙ ap (λ (b : List ℕ). first ++ (b ++ tail)) (sym own)

    pub cut_short : sent + part < length (export_bytes all)
    cut_short =
        omega (
          arith,
          short,
          so_far.size,
          ap length parts,
          length-append first (bytes ++ tail),
          length-append bytes tail,
        )

    pub cut_prefix : PutsPrefix before after (sent + part) (export_bytes all)
    cut_prefix =
        let prefix : take (sent + part) (export_bytes all) ≡ first ++ take part bytes =
        ap (take (sent + part)) parts ∙ ap (λ (k : ℕ). take (k + part) (first ++ (bytes ++ tail))) so_far.size
        ∙ take-append-add first (bytes ++ tail) part
        ∙ ap (λ (b : List ℕ). first ++ b) (take-append-le part bytes tail (omega (arith, short))) in
        record {
          written = subst (λ (b : List ℕ). Puts before after b) (sym prefix) went;
          within =
              omega (arith, cut_short);
        }

-- the records of some rows, and of more
pub with_more : {Row : Type 0} (header : Record) (fields : Row → Record) (given tail : List Row)
    → (header ∷ map fields given) ++ map fields tail ≡ header ∷ map fields (given ++ tail)
with_more header fields given tail = ap (λ (l : List Record). header ∷ l) (sym (map-append fields given tail))

pub with_one : {Row : Type 0} (header : Record) (fields : Row → Record) (given : List Row) (row : Row)
    → (header ∷ map fields given) ++ fields row ∷ [] ≡ header ∷ map fields (given ++ row ∷ [])
with_one header fields given row = with_more header fields given (row ∷ [])

pub one_then : {Row : Type 0} (header : Record) (fields : Row → Record) (given tail : List Row) (row : Row)
    → (header ∷ map fields given) ++ fields row ∷ map fields tail ≡ header ∷ map fields ((given ++ row ∷ []) ++ tail)
one_then {Row} header fields given tail row =
    with_more header fields given (row ∷ tail) ∙ ap (λ (l : List Row). header ∷ map fields l)
    (sym (append_assoc given (row ∷ []) tail))
