-- The records of a list, and the first bad one.
use Rattle.std.specs.Prelude.{◌≡◌, ◌<◌, ◌+◌, ◌==◌, ◌&&◌, ◌⊎◌, ℕ, suc, Bool, true, false, not, List, [], ◌∷◌, length, nat_lt, map, Option, Some, None, unwrap_or, if◌then◌else◌}
use Rattle.std.specs.List.{list_all}
use Rattle.std.specs.Option.{option_map, option_map_or}
use Rattle.std.specs.Str.{is_utf8}
use Rattle.csv.specs.Reading.{default_config, records, strip_bom}
use Rattle.csv.specs.Records.{field_at}
use Rattle.room_types.specs.Texts.{Text, text_eq}
use Rattle.office_lists.specs.declared.fault.Cause.{Cause}
use Rattle.office_lists.specs.declared.fault.Cause.TheVariants.{Header, NotText, FieldCount, BadField, TooMany}
use Rattle.office_lists.specs.declared.fault.ListFault.{ListFault}
use Rattle.office_lists.specs.declared.fault.ListFault.TheVariants as list

-- a record: the bytes of each field
abbrev pub Record : Type 0
Record = List Text

-- the records of a list, as `csv` reads them by default; a byte order mark at the start is dropped first
unfoldable pub records_of : List ℕ → List Record
records_of bytes = records default_config (strip_bom bytes)

-- the field at index `at`, or no bytes if the record has no such field
abbrev pub field : ℕ → Record → Text
field at fields = unwrap_or (field_at fields at) []

-- whether two records have the same fields
unfoldable pub same_fields : Record → Record → Bool
same_fields [] [] = true
same_fields [] (y ∷ ys) = false
same_fields (x ∷ xs) [] = false
same_fields (x ∷ xs) (y ∷ ys) = text_eq y x && same_fields xs ys

-- the form of a list of one kind: its header, the grammar of each field, and the entry that a good record makes
pub record ListForm (X : Type 0) : Type 0 where
  pub header : Record
  pub grammars : List (Text → Bool)
  pub entry : Record → X

-- The number, counted from 1, of the first field outside its grammar. The check starts at index `before`: the first
-- grammar is for that field.
abbrev pub first_outside : ℕ → List (Text → Bool) → Record → Option ℕ
first_outside before [] fields = None
first_outside before (grammar ∷ grammars) fields =
    if grammar (field before fields) then first_outside (suc before) grammars fields
    else Some (suc before)

-- what is wrong with the fields of a record, if the record has as many fields as the header
abbrev pub field_cause : {X : Type 0} → ListForm X → Record → Option Cause
field_cause form fields = option_map (λ number. BadField number) (first_outside 0 form.grammars fields)

-- what is wrong with a data record
abbrev pub cause_of : {X : Type 0} → ListForm X → Record → Option Cause
cause_of form fields =
    if not (length fields == length form.header) then Some FieldCount
    else if not (list_all is_utf8 fields) then Some NotText
    else field_cause form fields

-- the largest number of data records that a list may have
abbrev pub record_limit : ℕ
record_limit = 10000

-- the fault of the first bad record among these data records; the first of them is record `at`
unfoldable pub first_bad : (Record → Option Cause) → ℕ → List Record → Option ListFault
first_bad cause at [] = None
first_bad cause at (fields ∷ rest) =
    if nat_lt record_limit at then Some (list.Bad at TooMany)
    else option_map_or (λ why. Some (list.Bad at why)) (cause fields) (first_bad cause (at + 1) rest)

-- the fault of the first bad record of a list, if any; the header is record 0
abbrev pub list_fault : {X : Type 0} → ListForm X → List Record → Option ListFault
list_fault form [] = Some (list.Bad 0 Header)
list_fault form (first ∷ rest) =
    if same_fields form.header first then first_bad (cause_of form) 1 rest
    else Some (list.Bad 0 Header)

-- the records after the header
abbrev pub data_records : List Record → List Record
data_records [] = []
data_records (header ∷ rest) = rest

-- no record of the list is bad, and its data records make these entries, in order
pub record ParsesTo {X : Type 0} (form : ListForm X) (bytes : List ℕ) (entries : List X) : Type 0 where
  pub good : list_fault form (records_of bytes) ≡ None
  pub returned : entries ≡ map form.entry (data_records (records_of bytes))

-- a fault with which reading the list may fail: the fault of its first bad record or, if `bytes` is not empty,
-- `OutOfMemory`
abbrev pub Fails : {X : Type 0} → ListForm X → List ℕ → ListFault → Type 0
Fails form bytes fault =
    ((fault ≡ list.OutOfMemory) × (0 < length bytes)) ⊎ (list_fault form (records_of bytes) ≡ Some fault)
