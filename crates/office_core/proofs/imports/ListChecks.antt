-- The refusals of a list.
use Rattle.std.proofs.Common.{◌≡◌, ◌+◌, ◌≤◌, ◌⊎◌, ℕ, true, false, List, [], ◌∷◌, length}
use Rattle.std.proofs.Common.{Option, Some, None, refl, ap, ◌∙◌, sym, subst, inl, inr}
use Rattle.std.proofs.lemmas.Bool.{or_right}
use Rattle.std.proofs.lemmas.List.{length-map}
use Rattle.std.specs.FinMap.{len as map_len}
use Rattle.std.specs.Prelude.{nat_le, nat_lt, not}
use Rattle.std.specs.Option.{option_map_or}
use Rattle.office_lists.specs.Records.{ListForm, ParsesTo, data_records, list_fault, record_limit, records_of}
use Rattle.room_types.specs.Texts.{Text, TextMap}
use Rattle.room_types.specs.declared.kinds.ListKind.{ListKind}
use Rattle.room_types.specs.declared.rows.GradeRow.{GradeRow}
use Rattle.room_types.specs.declared.kinds.ListKind.TheVariants.{Rooms, People, Choices, Grades}
use Rattle.office_lists.specs.declared.entries.ChoicesEntry.{ChoicesEntry}
use Rattle.office_lists.specs.declared.fault.Cause.TheVariants.{Denied}
use Rattle.office_lists.specs.declared.fault.ListFault.{ListFault}
use Rattle.office_lists.specs.declared.fault.ListFault.TheVariants as list
use Rattle.office_state.specs.Empty.{is_empty}
use Rattle.office_state.specs.Office.Limits.{byte_limit, label_limit}
use Rattle.office_state.specs.Change.{with_grade, with_choice_list}
use Rattle.office_state.specs.declared.change.Change.{Change}
use Rattle.office_state.specs.declared.change.Change.TheVariants.{KeepList}
use Rattle.office_state.specs.declared.office.Office.{Office}
use Rattle.office_core.specs.Command.Decision.{IsRefusal, refusal_allocates}
use Rattle.office_core.specs.Command.Import.{EntryCommand, bad_list, check_of, entries_in, first_denied}
use Rattle.office_core.specs.Command.Import.{choices_command, grade_command, list_refusal, record_count, refusal_of}
use Rattle.office_core.specs.Command.Import.{new_label_changes, new_label_checks, may_import, person_command}
use Rattle.office_core.specs.Command.Import.{record_changes, room_command}
use Rattle.office_core.specs.Inner.Tries.{AreAdded, AreAllowed, IsOrOutOfMemory}
use Rattle.office_core.specs.Refusal.{number_of}
use Rattle.office_core.specs.Refusal.Checks.{Check, first_refusal, names_room, names_record}
use Rattle.office_core.specs.declared.refusal.Refusal.{Refusal}
use Rattle.office_core.specs.declared.refusal.Refusal.TheVariants as refused
use Rattle.office_core.proofs.commands.Changes.{has_last}
use Rattle.office_core.proofs.imports.Records.{few_rows}

pub first_of : (o : Option Refusal) → first_refusal (check_of o) ≡ o
first_of None = refl
first_of (Some refusal) = refl

pub few_entries : {X : Type 0} (form : ListForm X) (bytes : List ℕ) (entries : List X)
    → ParsesTo form bytes entries → length entries ≤ record_limit
few_entries form bytes entries returned =
    subst (λ es. length es ≤ record_limit) (sym returned.returned) (few_rows form bytes returned.good)

pub few_changes : (command : EntryCommand) (office : Office) (entries : List command.Entry)
    (changes : List Change)
    → AreAllowed command office entries changes → length entries ≤ record_limit
    → length changes ≤ record_limit
few_changes command office entries changes are few =
    let same : length changes ≡ length entries =
    ap (λ cs. length cs) are.changed ∙ length-map entries (λ entry. command.change entry) in
    subst (λ n. n ≤ record_limit) (sym same) few

-- there are as many changes as records
pub as_many_changes : (command : EntryCommand) (office : Office) (bytes : List ℕ) (changes : List Change)
    → AreAdded command office bytes changes → length changes ≡ record_count bytes
as_many_changes command office bytes changes are =
    ap (λ cs. length cs) are.changed
    ∙ length-map (entries_in command bytes) (λ entry. command.change entry)
    ∙ length-map (data_records (records_of bytes)) command.form.entry

-- after a record that is not refused, the first refusal is that of the records after it
pub record_passed : (command : EntryCommand) (office : Office) (at : ℕ) (entry : command.Entry)
    (entries : List command.Entry)
    → first_refusal (command.checks office entry) ≡ None
    → first_denied command office at (entry ∷ entries)
    ≡ first_denied command (command.next office entry) (at + 1) entries
record_passed command office at entry entries none =
    ap (λ o. option_map_or (λ refusal. Some (refused.BadRecord at (Denied (number_of refusal)))) o
    (first_denied command (command.next office entry) (at + 1) entries)) none

-- a refusal for a record whose command is refused names the record
first_denied-names_record : (command : EntryCommand) (office : Office) (at : ℕ) (entries : List command.Entry)
    (refusal : Refusal)
    → first_denied command office at entries ≡ Some refusal → names_record refusal ≡ true
first_denied-names_record command office at [] refusal h = cc
first_denied-names_record command office at (entry ∷ entries) refusal h =
    elim (first_refusal (command.checks office entry)) as
    (λ o. option_map_or (λ refusal. Some (refused.BadRecord at (Denied (number_of refusal)))) o
    (first_denied command (command.next office entry) (at + 1) entries) ≡ Some refusal
    → names_record refusal ≡ true) [
      | None ↦ λ e. first_denied-names_record command (command.next office entry) (at + 1) entries refusal e
      | Some why ↦ λ e. returned refusal (refused.BadRecord at (Denied (number_of why))) e refl
    ] h
  where
    returned : (refusal other : Refusal) → Some other ≡ Some refusal → names_record other ≡ true
        → names_record refusal ≡ true
    returned refusal other e t = let same : other ≡ refusal = cc in ap names_record (sym same) ∙ t

-- the refusal of a list of choices does not depend on the recorded lists
choices_free : (office : Office) (lists : TextMap (List Text)) (at : ℕ) (entries : List ChoicesEntry)
    → first_denied choices_command (record office { choices = lists }) at entries
    ≡ first_denied choices_command office at entries
choices_free office lists at [] = refl
choices_free office lists at (entry ∷ entries) =
    ap (λ rest. option_map_or
    (λ refusal. Some (refused.BadRecord at (Denied (number_of refusal))))
    (first_refusal (choices_command.checks office entry)) rest)
    (choices_free office (with_choice_list lists entry.person entry.choices) (at + 1) entries
    ∙ sym (choices_free office (with_choice_list office.choices entry.person entry.choices) (at + 1)
    entries))

pub choices_later : (office : Office) (at : ℕ) (entry : ChoicesEntry) (entries : List ChoicesEntry)
    → first_denied choices_command
    (record office { choices = with_choice_list office.choices entry.person entry.choices }) at entries
    ≡ first_denied choices_command office at entries
choices_later office at entry entries =
    choices_free office (with_choice_list office.choices entry.person entry.choices) at entries

-- the refusal of a list of grades does not depend on the recorded grades
grades_free : (office : Office) (grades : TextMap ℕ) (at : ℕ) (entries : List GradeRow)
    → first_denied grade_command (record office { grades = grades }) at entries
    ≡ first_denied grade_command office at entries
grades_free office grades at [] = refl
grades_free office grades at (entry ∷ entries) =
    ap (λ rest. option_map_or
    (λ refusal. Some (refused.BadRecord at (Denied (number_of refusal))))
    (first_refusal (grade_command.checks office entry)) rest)
    (grades_free office (with_grade grades entry.person entry.grade) (at + 1) entries
    ∙ sym (grades_free office (with_grade office.grades entry.person entry.grade) (at + 1)
    entries))

pub grades_later : (office : Office) (at : ℕ) (entry : GradeRow) (entries : List GradeRow)
    → first_denied grade_command
    (record office { grades = with_grade office.grades entry.person entry.grade }) at entries
    ≡ first_denied grade_command office at entries
grades_later office at entry entries =
    grades_free office (with_grade office.grades entry.person entry.grade) at entries

-- the refusal of a list names a record, or is `OutOfMemory`
pub list_refusal-names_record : (command : EntryCommand) (office : Office) (bytes : List ℕ) (refusal : Refusal)
    → list_refusal command office bytes ≡ Some refusal
    → (refusal ≡ refused.OutOfMemory) ⊎ (names_record refusal ≡ true)
list_refusal-names_record command office bytes refusal h =
    elim (list_fault command.form (records_of bytes)) as
    (λ o. option_map_or (λ fault. Some (bad_list fault)) o
    (first_denied command office 1 (entries_in command bytes)) ≡ Some refusal
    → (refusal ≡ refused.OutOfMemory) ⊎ (names_record refusal ≡ true)) [
      | None ↦ λ e. inr (first_denied-names_record command office 1 (entries_in command bytes) refusal e)
      | Some fault ↦ λ e. by_fault fault e
    ] h
  where
    by_fault : (fault : ListFault) → Some (bad_list fault) ≡ Some refusal
        → (refusal ≡ refused.OutOfMemory) ⊎ (names_record refusal ≡ true)
    by_fault (list.Bad at cause) e =
        let same : refused.BadRecord at cause ≡ refusal = cc in inr (ap names_record (sym same))
    by_fault list.OutOfMemory e =
        let same : refused.OutOfMemory ≡ refusal = cc in inl (sym same)

refusal_of-names_record : (kind : ListKind) (office : Office) (bytes : List ℕ) (refusal : Refusal)
    → refusal_of kind office bytes ≡ Some refusal
    → (refusal ≡ refused.OutOfMemory) ⊎ (names_record refusal ≡ true)
refusal_of-names_record Rooms = list_refusal-names_record room_command
refusal_of-names_record People = list_refusal-names_record person_command
refusal_of-names_record Choices = list_refusal-names_record choices_command
refusal_of-names_record Grades = list_refusal-names_record grade_command

-- if the first refusal is the wanted one, which names a record or is `OutOfMemory`, then it or `OutOfMemory` is a
-- refusal by these checks
list_refused : (changes : List Change) (checks : List Check) (wanted : Option Refusal)
    (refusal : Refusal) → is_empty changes ≡ false → first_refusal checks ≡ wanted
    → ((r : Refusal) → wanted ≡ Some r → (r ≡ refused.OutOfMemory) ⊎ (names_record r ≡ true))
    → IsOrOutOfMemory wanted refusal → IsRefusal changes checks refusal
list_refused changes checks wanted refusal some first tells (inl is) = inl (first ∙ is)
list_refused changes checks None refusal some first tells (inr memory) =
    inr (memory, ap (refusal_allocates changes) first ∙ ap not some)
list_refused changes checks (Some r) refusal some first tells (inr memory) =
    elim (tells r refl) as (λ _. IsRefusal changes checks refusal) [
      | inl same ↦ inl (first ∙ ap (λ x. Some x) (same ∙ sym memory))
      | inr returned ↦ inr (
        memory,
        ap (refusal_allocates changes) first
            ∙ or_right (names_room r) (names_record r) returned,
      )
    ]

-- if the phase and the limits allow the import, the first refusal is that of the list
pub first_of_list : (office : Office) (kind : ListKind) (bytes : List ℕ)
    → may_import kind office.phase ≡ true → nat_le label_limit (map_len office.lists) ≡ false
    → nat_lt byte_limit (length bytes) ≡ false
    → first_refusal (new_label_checks office kind bytes) ≡ refusal_of kind office bytes
first_of_list office kind bytes may few short =
    rw (may, few, short) (first_of (refusal_of kind office bytes))

pub list_is_refused : (office : Office) (label : Text) (kind : ListKind) (bytes : List ℕ)
    (refusal : Refusal)
    → may_import kind office.phase ≡ true → nat_le label_limit (map_len office.lists) ≡ false
    → nat_lt byte_limit (length bytes) ≡ false
    → IsOrOutOfMemory (refusal_of kind office bytes) refusal
    → IsRefusal (new_label_changes label kind bytes) (new_label_checks office kind bytes) refusal
list_is_refused office label kind bytes refusal may few short h =
    list_refused (new_label_changes label kind bytes) (new_label_checks office kind bytes)
    (refusal_of kind office bytes) refusal
    (has_last (record_changes kind bytes) [] (KeepList label kind bytes (record_count bytes)))
    (first_of_list office kind bytes may few short) (refusal_of-names_record kind office bytes) h
