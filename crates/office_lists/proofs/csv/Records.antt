-- The records that a reader has returned so far, and what they say about the list.
use Rattle.std.proofs.Common.{◌≡◌, ◌∙◌, ◌<◌, ◌≤◌, ◌+◌, ◌++◌, ◌==◌, Bor, Bool, true, false, cond, ℕ, zero, suc, List, []}
use Rattle.std.proofs.Common.{◌∷◌, length, map, nat_lt, Option, Some, None, refl, sym, ap, arith, inl, inr}
use Rattle.std.proofs.Common.{append_assoc, length-append, le-ltb}
use Rattle.std.proofs.lemmas.Bool.{and_parts, ne_eqb}
use Rattle.std.proofs.lemmas.List.{map-append, length-map}
use Rattle.std.specs.Option.{option_map, option_map_or}
use Rattle.csv.specs.Reading.{ExplainsRead, Reached, ReadRecord, Ready, default_config, error_kind, is_flexible}
use Rattle.csv.specs.Reading.{records_from, source_of, stops_reader, strip_bom}
use Rattle.csv.specs.declared.error.Error.{Error}
use Rattle.csv.specs.declared.error.ErrorKind.{ErrorKind}
use Rattle.csv.specs.declared.error.ErrorKind.TheVariants as kinds
use Rattle.csv.specs.Machine.{next_record}
use Rattle.csv.specs.Records.{Row, fields_of}
use Rattle.csv.specs.declared.parser.State.TheVariants as st
use Rattle.csv.specs.declared.reader.Reader.{Reader}
use Rattle.csv.specs.declared.reader.Trim.TheVariants as trim
use Rattle.csv.proofs.ReadFacts.{rows-end, rows-more}
use Rattle.office_lists.proofs.csv.Reaching.{all_records, reached_rest}
use Rattle.office_lists.specs.Records.{Fails, ListForm, Record, ParsesTo, cause_of, data_records, first_bad, list_fault}
use Rattle.office_lists.specs.Records.{record_limit, records_of, same_fields}
use Rattle.office_lists.specs.Inner.RecordFaults.{FailsFor, at_record}
use Rattle.office_lists.specs.declared.fault.Cause.{Cause}
use Rattle.office_lists.specs.declared.fault.Cause.TheVariants.{Header, TooMany}
use Rattle.office_lists.specs.declared.fault.ListFault.{ListFault}
use Rattle.office_lists.specs.declared.fault.ListFault.TheVariants as list
use Rattle.office_lists.specs.declared.fault.RecordFault.{RecordFault}
use Rattle.office_lists.specs.declared.fault.RecordFault.TheVariants as one

-- the bytes of a reader over memory
abbrev pub bytes_of : Bor (List ℕ) → Option (List ℕ)
bytes_of source = Some source.now

-- the reader has returned these records of the bytes, and returns those after them next
pub record HasGiven (bytes : List ℕ) (given : List Record) (rdr : Reader (Bor (List ℕ))) : Type 0 where
  pub trims : rdr.trim ≡ trim.None
  pub ready : Ready rdr
  pub flexible : is_flexible rdr ≡ true
  pub config : rdr.config ≡ default_config
  pub rest : List ℕ
  pub source : source_of bytes_of rdr ≡ Some rest
  pub reached : Reached default_config st.StartRecord (strip_bom bytes) given rdr.state rest

pub reader_started : (bytes : List ℕ) (rdr : Reader (Bor (List ℕ))) → rdr.trim ≡ trim.None → rdr.has_headers ≡ false
    → rdr.headers ≡ None
    → is_flexible rdr ≡ true → rdr.config ≡ default_config → source_of bytes_of rdr ≡ Some (strip_bom bytes)
    → rdr.state ≡ st.StartRecord → HasGiven bytes [] rdr
unfolding Reached
reader_started bytes rdr trims plain none flexible config source state = record {
  trims = trims;
  ready = inr (inr (plain, none));
  flexible = flexible;
  config = config;
  rest = strip_bom bytes;
  source = source;
  reached = (sym state, refl);
}

-- the reader returns one more record
pub reader_gives : (bytes : List ℕ) (given : List Record) (old new : Reader (Bor (List ℕ))) (row : Row)
    → HasGiven bytes given old
    → ReadRecord bytes_of old new true (fields_of row) → new.first ≡ true → is_flexible new ≡ is_flexible old
    → HasGiven bytes (given ++ fields_of row ∷ []) new
reader_gives bytes given old new row has step first same =
    let more =
    rows-more bytes_of old new (fields_of row) default_config st.StartRecord (strip_bom bytes) has.rest given
    has.config has.source has.reached step in
    record {
      trims = step.3 ∙ has.trims;
      ready = inl first;
      flexible = same ∙ has.flexible;
      config = step.2 ∙ has.config;
      rest = more.0;
      source = more.1;
      reached = more.2;
    }

-- a reader over memory that accepts records of any length stops only if an allocation fails
pub fails_for_memory : (bytes : List ℕ) (given : List Record) (old new : Reader (Bor (List ℕ))) (error : Error)
    → HasGiven bytes given old
    → ExplainsRead bytes_of old new false (error_kind error) → stops_reader (error_kind error) ≡ true
fails_for_memory bytes given old new error has why = by_kind (error_kind error) why
  where
    by_kind : (kind : ErrorKind) → ExplainsRead bytes_of old new false kind → stops_reader kind ≡ true
    by_kind (kinds.Io e) why = refl
    by_kind kinds.OutOfMemory why = refl
    by_kind (kinds.UnequalLengths pos expected len) why = cc (why.0, has.flexible)
    by_kind (kinds.Utf8 pos err) why = cc why.0
    by_kind (kinds.Serialize text) why = absurd why
    by_kind (kinds.Deserialize pos err) why = absurd why

-- the reader returns no further record, so it has returned all
pub gave_all : (bytes : List ℕ) (given : List Record) (old new : Reader (Bor (List ℕ))) → HasGiven bytes given old
    → ReadRecord bytes_of old new false [] → records_of bytes ≡ given
unfolding records_of
gave_all bytes given old new has step =
    sym (all_records (strip_bom bytes) given (
      old.state,
      has.rest,
      has.reached,
      rows-end bytes_of old new [] default_config has.rest has.config
          has.source step,
    ))

-- the records returned so far are a prefix of the records of the bytes
pub gave_first : (bytes : List ℕ) (given : List Record) (rdr : Reader (Bor (List ℕ))) → HasGiven bytes given rdr
    → (rest : List Record) × (records_of bytes ≡ given ++ rest)
unfolding records_of
gave_first bytes given rdr has =
    reached_rest default_config (length (strip_bom bytes) + 1) st.StartRecord (strip_bom bytes) given rdr.state has.rest
    (omega arith) has.reached

-- if the first records are good, the first bad one is among the rest
fault_after : (cause : Record → Option Cause) (at : ℕ) (done rest : List Record) → first_bad cause at done ≡ None
    → first_bad cause at (done ++ rest) ≡ first_bad cause (at + length done) rest
unfolding first_bad
fault_after cause at [] rest good = let same : at ≡ at + 0 = omega arith in ap (λ (k : ℕ). first_bad cause k rest) same
fault_after cause at (fields ∷ done) rest good =
    let split = by_cases (nat_lt record_limit at) (cause fields) (first_bad cause (at + 1) done)
    (first_bad cause (at + 1) (done ++ rest)) good in
    let same : at + 1 + length done ≡ at + suc (length done) = omega arith in
    split.0 ∙ fault_after cause (at + 1) done rest split.1 ∙ ap (λ (k : ℕ). first_bad cause k rest) same
  where
    by_cases : (b : Bool) (o : Option Cause) (x y : Option ListFault)
        → cond b (Some (list.Bad at TooMany)) (option_map_or (λ why. Some (list.Bad at why)) o x) ≡ None
        → (cond b (Some (list.Bad at TooMany)) (option_map_or (λ why. Some (list.Bad at why)) o y) ≡ y) × (x ≡ None)
    by_cases true o x y e = cc e
    by_cases false (Some why) x y e = cc e
    by_cases false None x y e = (refl, e)

-- after good records, the next record is the first bad one if it has a cause
fault_at_next : (cause : Record → Option Cause) (done : List Record) (fields : Record) (rest : List Record)
    → length done < record_limit
    → first_bad cause 1 done ≡ None
    → first_bad cause 1 (done ++ fields ∷ rest) ≡ option_map_or (λ why. Some (list.Bad (length done + 1) why))
    (cause fields) (first_bad cause (length done + 1 + 1) rest)
unfolding first_bad
fault_at_next cause done fields rest few good =
    let same : 1 + length done ≡ length done + 1 = omega arith in
    let within : nat_lt record_limit (length done + 1) ≡ false = le-ltb record_limit (length done + 1) (omega arith) in
    fault_after cause 1 done (fields ∷ rest) good ∙ ap (λ (k : ℕ). first_bad cause k (fields ∷ rest)) same
    ∙ ap (λ (b : Bool). cond b (Some (list.Bad (length done + 1) TooMany))
    (option_map_or (λ why. Some (list.Bad (length done + 1) why)) (cause fields)
    (first_bad cause (length done + 1 + 1) rest))) within

-- the data records so far are read and good, and these entries are made from them
pub record IsReadTo {X : Type 0} (form : ListForm X) (bytes : List ℕ) (entries : List X)
    (rdr : Reader (Bor (List ℕ))) : Type 0 where
  pub header : Record
  pub done : List Record
  pub given : HasGiven bytes (header ∷ done) rdr
  pub few : length done ≤ record_limit
  pub good : first_bad (cause_of form) 1 done ≡ None
  pub returned : entries ≡ map form.entry done
  pub headed : same_fields form.header header ≡ true

pub none_read : {X : Type 0} (form : ListForm X) (bytes : List ℕ) (header : Record) (rdr : Reader (Bor (List ℕ)))
    → HasGiven bytes (header ∷ []) rdr → same_fields form.header header ≡ true → IsReadTo form bytes [] rdr
unfolding first_bad
none_read form bytes header rdr has headed =
    record { header = header; done = []; given = has; few = omega arith; good = refl; returned = refl; headed = headed }

headed_fault : {X : Type 0} (form : ListForm X) (bytes : List ℕ) (header : Record) (rest : List Record)
    → same_fields form.header header ≡ true
    → records_of bytes ≡ header ∷ rest → list_fault form (records_of bytes) ≡ first_bad (cause_of form) 1 rest
headed_fault form bytes header rest headed are =
    ap (list_fault form) are
    ∙ ap (λ (b : Bool). cond b (first_bad (cause_of form) 1 rest) (Some (list.Bad 0 Header))) headed

entries_length : {X : Type 0} (form : ListForm X) (entries : List X) (done : List Record)
    → entries ≡ map form.entry done → length entries ≡ length done
entries_length form entries done returned = ap length returned ∙ length-map done form.entry

-- all records are read
pub all_read : {X : Type 0} (form : ListForm X) (bytes : List ℕ) (entries : List X) (old new : Reader (Bor (List ℕ)))
    → IsReadTo form bytes entries old → ReadRecord bytes_of old new false [] → ParsesTo form bytes entries
all_read form bytes entries old new to step =
    let are = gave_all bytes (to.header ∷ to.done) old new to.given step in
    record {
      good = headed_fault form bytes to.header to.done to.headed are ∙ to.good;
      returned = to.returned ∙ ap (λ (rs : List Record). map form.entry (data_records rs)) (sym are);
    }

-- one more record is read, and is good
pub one_read : {X : Type 0} (form : ListForm X) (bytes : List ℕ) (entries : List X) (old new : Reader (Bor (List ℕ)))
    (row : Row) (entry : X)
    → IsReadTo form bytes entries old → ReadRecord bytes_of old new true (fields_of row) → new.first ≡ true
    → is_flexible new ≡ is_flexible old → length entries < record_limit
    → cause_of form (fields_of row) ≡ None → entry ≡ form.entry (fields_of row)
    → IsReadTo form bytes (entries ++ entry ∷ []) new
unfolding first_bad
one_read form bytes entries old new row entry to step first same few good is =
    let count = entries_length form entries to.done to.returned in
    record {
      header = to.header;
      done = to.done ++ fields_of row ∷ [];
      given = reader_gives bytes (to.header ∷ to.done) old new row to.given step first same;
      few = omega (arith, count, length-append to.done (fields_of row ∷ []));
      good = fault_at_next (cause_of form) to.done (fields_of row) [] (omega (arith, count)) to.good
          ∙ ap (λ (o : Option Cause). option_map_or (λ why. Some (list.Bad (length to.done + 1) why)) o
          (first_bad (cause_of form) (length to.done + 1 + 1) [])) good;
      returned = ap (λ (xs : List _). xs ++ entry ∷ []) to.returned
          ∙ ap (λ (e : _). map form.entry to.done ++ e ∷ []) is
          ∙ sym (map-append form.entry to.done (fields_of row ∷ []));
      headed = to.headed;
    }

-- the records after those read so far begin with this one
next_is : {X : Type 0} (form : ListForm X) (bytes : List ℕ) (entries : List X)
    (old new : Reader (Bor (List ℕ))) (row : Row)
    → (to : IsReadTo form bytes entries old) → ReadRecord bytes_of old new true (fields_of row) → new.first ≡ true
    → is_flexible new ≡ is_flexible old
    → (rest : List Record)
    × (list_fault form (records_of bytes) ≡ first_bad (cause_of form) 1 (to.done ++ fields_of row ∷ rest))
next_is form bytes entries old new row to step first same =
    let found =
    gave_first bytes (to.header ∷ (to.done ++ fields_of row ∷ [])) new
    (reader_gives bytes (to.header ∷ to.done) old new row to.given step first same) in
    let are : records_of bytes ≡ to.header ∷ (to.done ++ fields_of row ∷ found.0) =
    found.1 ∙ ap (λ (rs : List Record). to.header ∷ rs) (append_assoc to.done (fields_of row ∷ []) found.0) in
    (found.0, headed_fault form bytes to.header (to.done ++ fields_of row ∷ found.0) to.headed are)

-- there is one record more than a list may have
pub one_too_many : {X : Type 0} (form : ListForm X) (bytes : List ℕ) (entries : List X)
    (old new : Reader (Bor (List ℕ))) (row : Row)
    → IsReadTo form bytes entries old → ReadRecord bytes_of old new true (fields_of row) → new.first ≡ true
    → is_flexible new ≡ is_flexible old → record_limit ≤ length entries
    → Fails form bytes (list.Bad 10001 TooMany)
unfolding first_bad
one_too_many form bytes entries old new row to step first same full =
    let count = entries_length form entries to.done to.returned in
    let found = next_is form bytes entries old new row to step first same in
    let at : 1 + length to.done ≡ 10001 = omega (arith, count, to.few) in
    inr (found.1 ∙ fault_after (cause_of form) 1 to.done (fields_of row ∷ found.0) to.good
    ∙ ap (λ (k : ℕ). first_bad (cause_of form) k (fields_of row ∷ found.0)) at)

-- one more record is read and is bad, or an allocation fails
pub one_fails : {X : Type 0} (form : ListForm X) (bytes : List ℕ) (entries : List X) (old new : Reader (Bor (List ℕ)))
    (row : Row) (fault : RecordFault)
    → IsReadTo form bytes entries old → ReadRecord bytes_of old new true (fields_of row) → new.first ≡ true
    → is_flexible new ≡ is_flexible old → length entries < record_limit
    → 0 < length bytes → FailsFor (cause_of form (fields_of row)) fault
    → Fails form bytes (at_record (length entries + 1) fault)
one_fails form bytes entries old new row one.OutOfMemory to step first same few some why = inl (refl, some)
one_fails form bytes entries old new row (one.Bad cause) to step first same few some (inl other) = cc other
one_fails form bytes entries old new row (one.Bad cause) to step first same few some (inr is) =
    let count = entries_length form entries to.done to.returned in
    let found = next_is form bytes entries old new row to step first same in
    let bad : cause_of form (fields_of row) ≡ Some cause = inside (cause_of form (fields_of row)) is in
    inr (found.1 ∙ fault_at_next (cause_of form) to.done (fields_of row) found.0 (omega (arith, count)) to.good
    ∙ ap (λ (o : Option Cause). option_map_or (λ why. Some (list.Bad (length to.done + 1) why)) o
    (first_bad (cause_of form) (length to.done + 1 + 1) found.0)) bad
    ∙ ap (λ (k : ℕ). Some (list.Bad (k + 1) cause)) (sym count))
  where
    inside : (o : Option Cause) → option_map (λ why. one.Bad why) o ≡ Some (one.Bad cause) → o ≡ Some cause
    inside None e = cc e
    inside (Some why) e = let same : why ≡ cause = cc in ap (λ (w : Cause). Some w) same

-- there is no header
pub no_records : {X : Type 0} (form : ListForm X) (bytes : List ℕ) (old new : Reader (Bor (List ℕ)))
    → HasGiven bytes [] old
    → ReadRecord bytes_of old new false [] → Fails form bytes (list.Bad 0 Header)
no_records form bytes old new has step = inr (ap (list_fault form) (gave_all bytes [] old new has step))

pub no_header : {X : Type 0} (form : ListForm X) (bytes : List ℕ) (header : Record) (rdr : Reader (Bor (List ℕ)))
    → HasGiven bytes (header ∷ []) rdr → same_fields form.header header ≡ false → Fails form bytes (list.Bad 0 Header)
no_header form bytes header rdr has other =
    let found = gave_first bytes (header ∷ []) rdr has in
    inr (ap (list_fault form) found.1
    ∙ ap (λ (b : Bool). cond b (first_bad (cause_of form) 1 found.0) (Some (list.Bad 0 Header))) other)

pub no_bytes : {X : Type 0} (form : ListForm X) (bytes : List ℕ) → (length bytes == 0) ≡ true
    → Fails form bytes (list.Bad 0 Header)
unfolding records_of strip_bom records_from next_record
no_bytes form [] none = inr refl
no_bytes form (byte ∷ rest) none = absurd (some (length rest) none)
  where
    some : (n : ℕ) → (suc n == 0) ≡ true → ⊥
    some n e = cc (sym e ∙ ne_eqb (suc n) 0 (λ z. cc z))

pub some_bytes : (n : ℕ) → (n == 0) ≡ false → 0 < n
some_bytes zero e = cc e
some_bytes (suc n) e = omega arith

-- equal records have the same number of fields
pub same_width : (xs ys : Record) → same_fields xs ys ≡ true → length ys ≡ length xs
unfolding same_fields
same_width [] [] same = refl
same_width [] (y ∷ ys) same = cc same
same_width (x ∷ xs) [] same = cc same
same_width (x ∷ xs) (y ∷ ys) same = ap suc (same_width xs ys (and_parts _ _ same).1)
