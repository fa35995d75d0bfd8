-- Imports a list under a label. Each record is one command, and either all of them take effect or none does. If the
-- label is known, the list that is stored under it gets the reply of the first import and has no effect, and any other
-- list is refused. Once the list has been blanked, the bytes that replaced it are what is stored.
use Rattle.std.specs.Prelude.{ℕ, ◌+◌, Bool, true, false, not, ◌&&◌, nat_le, nat_lt, List, [], ◌∷◌}
use Rattle.std.specs.Prelude.{◌++◌, length, map as map_list, Option, None, Some}
use Rattle.std.specs.Option.{option_map_or}
use Rattle.std.specs.FinMap as map
use Rattle.room_types.specs.Texts.{Text, text_eq}
use Rattle.room_types.specs.declared.kinds.ListKind.{ListKind}
use Rattle.room_types.specs.declared.kinds.ListKind.TheVariants.{Rooms, People, Choices, Grades}
use Rattle.room_types.specs.declared.phase.Phase.{Phase}
use Rattle.room_types.specs.declared.rows.GradeRow.{GradeRow}
use Rattle.office_lists.specs.Entries.{choices_list, grades_list, people_list, room_list}
use Rattle.office_lists.specs.Records.{ListForm, data_records, list_fault, records_of}
use Rattle.office_lists.specs.declared.entries.ChoicesEntry.{ChoicesEntry}
use Rattle.office_lists.specs.declared.entries.PersonEntry.{PersonEntry}
use Rattle.office_lists.specs.declared.fault.Cause.TheVariants.{Denied}
use Rattle.office_lists.specs.declared.fault.ListFault.{ListFault}
use Rattle.office_lists.specs.declared.fault.ListFault.TheVariants as list
use Rattle.office_state.specs.Office.Limits.{byte_limit, label_limit}
use Rattle.office_state.specs.Office.Phases.{is_open, is_preparing}
use Rattle.office_state.specs.declared.change.Change.{Change}
use Rattle.office_state.specs.declared.change.Change.TheVariants.{KeepList, PutRoom, PutPerson}
use Rattle.office_state.specs.declared.change.Change.TheVariants.{PutChoices, PutGrade}
use Rattle.office_state.specs.declared.office.Office.{Office}
use Rattle.office_state.specs.declared.office.stored_import.StoredImport.{StoredImport}
use Rattle.office_core.specs.Command.Lists.{set_choices}
use Rattle.office_core.specs.Command.Register.{add_person, add_room, set_grade}
use Rattle.office_core.specs.Command.Rule.{CommandRule}
use Rattle.office_core.specs.Refusal.{number_of}
use Rattle.office_core.specs.Refusal.Checks.{Check, first_refusal}
use Rattle.office_core.specs.declared.refusal.Refusal.{Refusal}
use Rattle.office_core.specs.declared.refusal.Refusal.TheVariants.{BadPhase, BadRecord, LimitReached}
use Rattle.office_core.specs.declared.refusal.Refusal.TheVariants.{ListDiffers, OutOfMemory}
use Rattle.office_core.specs.declared.reply.Reply.{Reply}
use Rattle.office_core.specs.declared.reply.Reply.TheVariants as reply

-- a kind of list: the form of its records, and the command that each record stands for
pub record EntryCommand : Type 1 where
  pub Entry : Type 0
  pub form : ListForm Entry
  pub checks : Office → Entry → List Check
  pub next : Office → Entry → Office
  pub change : Entry → Change

-- a list of rooms: each record adds a room
abbrev pub room_command : EntryCommand
room_command = record {
  Entry = Text;
  form = room_list;
  checks = λ office room. (add_room room).checks office;
  next = λ office room. (add_room room).next office;
  change = λ room. PutRoom room false;
}

-- a list of people: each record adds a person
abbrev pub person_command : EntryCommand
person_command = record {
  Entry = PersonEntry;
  form = people_list;
  checks = λ office e. (add_person e.person e.name e.key e.home).checks office;
  next = λ office e. (add_person e.person e.name e.key e.home).next office;
  change = λ e. PutPerson e.person e.name e.key e.home;
}

-- a list of choices: each record replaces a person's list
abbrev pub choices_command : EntryCommand
choices_command = record {
  Entry = ChoicesEntry;
  form = choices_list;
  checks = λ office e. (set_choices e.person e.choices).checks office;
  next = λ office e. (set_choices e.person e.choices).next office;
  change = λ e. PutChoices e.person e.choices;
}

-- a list of grades: each record gives a person a grade
abbrev pub grade_command : EntryCommand
grade_command = record {
  Entry = GradeRow;
  form = grades_list;
  checks = λ office e. (set_grade e.person e.grade).checks office;
  next = λ office e. (set_grade e.person e.grade).next office;
  change = λ e. PutGrade e.person e.grade;
}

-- the entries of a list, one for each data record, in order
abbrev pub entries_in : (command : EntryCommand) → List ℕ → List command.Entry
entries_in command bytes = map_list command.form.entry (data_records (records_of bytes))

-- the office after the commands of these entries
abbrev pub office_after_entries : (command : EntryCommand) → Office → List command.Entry → Office
office_after_entries command office [] = office
office_after_entries command office (entry ∷ entries) =
    office_after_entries command (command.next office entry) entries

-- The office carries out the commands of the entries in order until it refuses one. The value is the refusal for the
-- record of that entry, or `None` if the office refuses no command. `at` is the record number of the first entry.
abbrev pub first_denied : (command : EntryCommand) → Office → ℕ → List command.Entry → Option Refusal
first_denied command office at [] = None
first_denied command office at (entry ∷ entries) =
    option_map_or (λ refusal. Some (BadRecord at (Denied (number_of refusal))))
    (first_refusal (command.checks office entry))
    (first_denied command (command.next office entry) (at + 1) entries)

-- the refusal of a list that cannot be read
abbrev pub bad_list : ListFault → Refusal
bad_list (list.Bad at cause) = BadRecord at cause
bad_list list.OutOfMemory = OutOfMemory

-- the refusal of a list: for its first bad record (`list_fault`) or, if no record is bad, for the first record whose
-- command the office refuses
abbrev pub list_refusal : EntryCommand → Office → List ℕ → Option Refusal
list_refusal command office bytes =
    option_map_or (λ fault. Some (bad_list fault)) (list_fault command.form (records_of bytes))
    (first_denied command office 1 (entries_in command bytes))

-- the refusal of a list of this kind
abbrev pub refusal_of : ListKind → Office → List ℕ → Option Refusal
refusal_of Rooms = list_refusal room_command
refusal_of People = list_refusal person_command
refusal_of Choices = list_refusal choices_command
refusal_of Grades = list_refusal grade_command

-- the office after the commands of all records of a list of this kind
abbrev pub office_with : ListKind → Office → List ℕ → Office
office_with Rooms office bytes = office_after_entries room_command office (entries_in room_command bytes)
office_with People office bytes = office_after_entries person_command office (entries_in person_command bytes)
office_with Choices office bytes = office_after_entries choices_command office (entries_in choices_command bytes)
office_with Grades office bytes = office_after_entries grade_command office (entries_in grade_command bytes)

-- a change for each entry
abbrev pub changes_by : (command : EntryCommand) → List command.Entry → List Change
changes_by command entries = map_list (λ entry. command.change entry) entries

-- a change for each record of a list of this kind
abbrev pub record_changes : ListKind → List ℕ → List Change
record_changes Rooms bytes = changes_by room_command (entries_in room_command bytes)
record_changes People bytes = changes_by person_command (entries_in person_command bytes)
record_changes Choices bytes = changes_by choices_command (entries_in choices_command bytes)
record_changes Grades bytes = changes_by grade_command (entries_in grade_command bytes)

-- the number of data records
abbrev pub record_count : List ℕ → ℕ
record_count bytes = length (data_records (records_of bytes))

-- a list of this kind may be imported in this phase
abbrev pub may_import : ListKind → Phase → Bool
may_import Rooms phase = is_preparing phase
may_import People phase = is_preparing phase
may_import Choices phase = is_open phase
may_import Grades phase = is_preparing phase

abbrev pub is_same_kind : ListKind → ListKind → Bool
is_same_kind Rooms Rooms = true
is_same_kind People People = true
is_same_kind Choices Choices = true
is_same_kind Grades Grades = true
is_same_kind _ _ = false

-- the stored list has this kind and these bytes
abbrev pub is_same_import : StoredImport → ListKind → List ℕ → Bool
is_same_import kept kind bytes = is_same_kind kept.kind kind && text_eq kept.bytes bytes

-- one check, which refuses with this refusal, or no check if there is no refusal
abbrev pub check_of : Option Refusal → List Check
check_of None = []
check_of (Some refusal) = (true, refusal) ∷ []

-- the checks of a list if a list is already stored under its label
abbrev pub known_label_checks : StoredImport → ListKind → List ℕ → List Check
known_label_checks kept kind bytes = (not (is_same_import kept kind bytes), ListDiffers) ∷ []

-- the checks of a list if no list is stored under its label
abbrev pub new_label_checks : Office → ListKind → List ℕ → List Check
new_label_checks office kind bytes =
    (not (may_import kind office.phase), BadPhase office.phase)
    ∷ (nat_le label_limit (map.len office.lists), LimitReached)
    ∷ (nat_lt byte_limit (length bytes), LimitReached)
    ∷ check_of (refusal_of kind office bytes)

-- a change for each record, and one that stores the list under its label
abbrev pub new_label_changes : Text → ListKind → List ℕ → List Change
new_label_changes label kind bytes =
    record_changes kind bytes ++ KeepList label kind bytes (record_count bytes) ∷ []

-- the office with the list stored under its label
abbrev pub keeping : Office → Text → ListKind → List ℕ → Office
keeping office label kind bytes =
    record office {
      lists = map.insert office.lists label
          (record { kind = kind; bytes = bytes; count = record_count bytes });
    }

-- the checks of a list; the first argument is the list that is stored under the label, if there is one
abbrev pub checks_where : Option StoredImport → Office → ListKind → List ℕ → List Check
checks_where (Some kept) office kind bytes = known_label_checks kept kind bytes
checks_where None office kind bytes = new_label_checks office kind bytes

abbrev pub next_where : Option StoredImport → Office → Text → ListKind → List ℕ → Office
next_where (Some kept) office label kind bytes = office
next_where None office label kind bytes =
    keeping (office_with kind office bytes) label kind bytes

abbrev pub reply_where : Option StoredImport → List ℕ → Reply
reply_where (Some kept) bytes = reply.Added kept.count
reply_where None bytes = reply.Added (record_count bytes)

abbrev pub changes_where : Option StoredImport → Text → ListKind → List ℕ → List Change
changes_where (Some kept) label kind bytes = []
changes_where None label kind bytes = new_label_changes label kind bytes

-- imports a list under a label
abbrev pub import_list : Text → ListKind → List ℕ → CommandRule
import_list label kind bytes = record {
  checks = λ office. checks_where (map.get office.lists label) office kind bytes;
  next = λ office. next_where (map.get office.lists label) office label kind bytes;
  reply = λ office. reply_where (map.get office.lists label) bytes;
}
