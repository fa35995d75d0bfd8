-- The records of a list without a bad one.
use Rattle.std.proofs.Common.{◌≡◌, ◌+◌, ◌≤◌, ◌==◌, ℕ, Bool, true, false, not, List, [], ◌∷◌}
use Rattle.std.proofs.Common.{length, map, nat_lt, Option, Some, None, cond, refl}
use Rattle.std.proofs.Common.{arith}
use Rattle.std.proofs.lemmas.Bool.{and_parts, ltb-false}
use Rattle.std.proofs.lemmas.List.{length-map}
use Rattle.std.specs.Prelude.{is_none}
use Rattle.std.specs.List.{list_all}
use Rattle.std.specs.Option.{option_map, option_map_or}
use Rattle.std.specs.Str.{is_utf8}
use Rattle.room_types.specs.Grammars.{is_person_id, is_room_code}
use Rattle.room_types.specs.Choices.{IsChoices, choice_limit, choices_fault}
use Rattle.room_types.specs.Repeats.{first_repeated}
use Rattle.room_types.specs.Texts.{Text}
use Rattle.room_types.specs.declared.fault.TypeFault.TheVariants.{RoomRepeated, TooManyChoices}
use Rattle.office_lists.specs.Entries.{choices_list, codes_in, is_choices}
use Rattle.office_lists.specs.Records.{ListForm, Record, cause_of, data_records, field, field_cause}
use Rattle.office_lists.specs.Records.{first_bad, first_outside, list_fault, record_limit, records_of, same_fields}
use Rattle.office_lists.specs.declared.fault.Cause.{Cause}
use Rattle.office_lists.specs.declared.fault.Cause.TheVariants.{BadField, FieldCount, Header, NotText, TooMany}
use Rattle.office_lists.specs.declared.fault.ListFault.TheVariants as list
use Rattle.office_core.specs.Command.Import.{choices_command, entries_in, record_count}

-- the property holds for each element of the list
abbrev pub Each : {A : Type 0} → (A → Type 0) → List A → Type 0
Each P [] = Unit {0}
Each P (x ∷ xs) = P x × Each P xs

pub none_of : {A B : Type 0} (f : A → Option B) (o : Option A) (rest : Option B)
    → ((x : A) → f x ≡ None → ⊥) → option_map_or f o rest ≡ None → (o ≡ None) × (rest ≡ None)
none_of f None rest some h = (refl, h)
none_of f (Some x) rest some h = absurd (some x h)

unless : {A : Type 0} (b : Bool) (x : A) (rest : Option A) → cond b (Some x) rest ≡ None
    → (b ≡ false) × (rest ≡ None)
unless true x rest h = cc
unless false x rest h = (refl, h)

where_so : {A : Type 0} (b : Bool) (rest : Option A) (x : A) → cond b rest (Some x) ≡ None
    → (b ≡ true) × (rest ≡ None)
where_so true rest x h = (refl, h)
where_so false rest x h = cc

mapped_none : {A B : Type 0} (f : A → B) (o : Option A) → option_map f o ≡ None → o ≡ None
mapped_none f None h = refl
mapped_none f (Some x) h = cc

-- if no record is bad, each is good, and there are not too many
goods : (cause : Record → Option Cause) (at : ℕ) (rows : List Record)
    → at ≤ record_limit + 1 → first_bad cause at rows ≡ None
    → Each (λ fields. cause fields ≡ None) rows × (length rows + at ≤ record_limit + 1)
unfolding first_bad
goods cause at [] low h = (tt, omega (arith, low))
goods cause at (fields ∷ rest) low h =
    let here =
    unless (nat_lt record_limit at) (list.Bad at TooMany)
    (option_map_or (λ why. Some (list.Bad at why)) (cause fields)
    (first_bad cause (at + 1) rest)) h in
    let good = none_of (λ why. Some (list.Bad at why)) (cause fields)
    (first_bad cause (at + 1) rest) (λ x e. cc) here.1 in
    let within : at ≤ record_limit = ltb-false record_limit at here.0 in
    let later = goods cause (at + 1) rest (omega (arith, within)) good.1 in
    ((good.0, later.0), omega (arith, later.1))

-- if a list has no fault, no record after the header is bad
good_rows : {X : Type 0} (form : ListForm X) (rows : List Record) → list_fault form rows ≡ None
    → first_bad (cause_of form) 1 (data_records rows) ≡ None
good_rows form [] h = cc
good_rows form (first ∷ rest) h =
    elim (same_fields form.header first) as
    (λ b. cond b (first_bad (cause_of form) 1 rest) (Some (list.Bad 0 Header)) ≡ None
    → first_bad (cause_of form) 1 rest ≡ None) [
      | true ↦ λ e. e
      | false ↦ λ e. cc
    ] h

pub each_good : {X : Type 0} (form : ListForm X) (rows : List Record) → list_fault form rows ≡ None
    → Each (λ fields. cause_of form fields ≡ None) (data_records rows)
each_good form rows h =
    (goods (cause_of form) 1 (data_records rows) (omega arith) (good_rows form rows h)).0

-- a list without a bad record has at most `record_limit` data records
pub few_records : {X : Type 0} (form : ListForm X) (bytes : List ℕ)
    → list_fault form (records_of bytes) ≡ None → record_count bytes ≤ record_limit
few_records form bytes h =
    let few = (goods (cause_of form) 1 (data_records (records_of bytes)) (omega arith)
    (good_rows form (records_of bytes) h)).1 in
    omega (arith, few)

pub few_rows : {X : Type 0} (form : ListForm X) (bytes : List ℕ)
    → list_fault form (records_of bytes) ≡ None
    → length (map form.entry (data_records (records_of bytes))) ≤ record_limit
few_rows form bytes h =
    let same : length (map form.entry (data_records (records_of bytes))) ≡ record_count bytes =
    length-map (data_records (records_of bytes)) form.entry in
    omega (arith, few_records form bytes h, same)

no_fault : {A : Type 0} (o : Option A) → is_none o ≡ true → o ≡ None
no_fault None h = refl
no_fault (Some x) h = cc

-- room codes without a fault are a valid list
faultless : (codes : List Text) → choices_fault codes ≡ None → IsChoices codes
faultless codes h =
    let some = unless (nat_lt choice_limit (length codes)) TooManyChoices
    (option_map (λ code. RoomRepeated code) (first_repeated [] codes)) h in (
      ltb-false choice_limit (length codes) some.0,
      mapped_none (λ code. RoomRepeated code) (first_repeated [] codes) some.1,
    )

-- a good record of a list of choices has a valid list
recordable : (fields : Record) → cause_of choices_list fields ≡ None
    → IsChoices (codes_in (field 1 fields))
recordable fields h =
    let counted = unless (not (length fields == 2)) FieldCount
    (cond (not (list_all is_utf8 fields)) (Some NotText) (field_cause choices_list fields)) h in
    let text = unless (not (list_all is_utf8 fields)) NotText (field_cause choices_list fields)
    counted.1 in
    let inside = mapped_none (λ number. BadField number)
    (first_outside 0 choices_list.grammars fields) text.1 in
    let person = where_so (is_person_id (field 0 fields))
    (cond (is_choices (field 1 fields)) None (Some 2)) 1 inside in
    let choices = where_so (is_choices (field 1 fields)) None 2 person.1 in
    faultless (codes_in (field 1 fields))
    (no_fault (choices_fault (codes_in (field 1 fields)))
    (and_parts (list_all is_room_code (codes_in (field 1 fields)))
    (is_none (choices_fault (codes_in (field 1 fields)))) choices.0).1)

rows-recordable : (rows : List Record) → Each (λ fields. cause_of choices_list fields ≡ None) rows
    → Each (λ entry. IsChoices entry.choices) (map choices_list.entry rows)
rows-recordable [] good = tt
rows-recordable (fields ∷ rest) good = (recordable fields good.0, rows-recordable rest good.1)

-- each entry of a list of choices without a bad record has a valid list
pub each_recordable : (bytes : List ℕ) → list_fault choices_list (records_of bytes) ≡ None
    → Each (λ entry. IsChoices entry.choices) (entries_in choices_command bytes)
each_recordable bytes h =
    rows-recordable (data_records (records_of bytes)) (each_good choices_list (records_of bytes) h)
