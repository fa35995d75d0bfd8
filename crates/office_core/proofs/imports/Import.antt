-- An import leads from a lawful office to a lawful one.
use Rattle.std.proofs.Common.{◌≡◌, ◌+◌, ◌≤◌, ◌++◌, ℕ, true, false, List, [], ◌∷◌, length}
use Rattle.std.proofs.Common.{Some, None, refl, ap, ◌∙◌, sym, subst, inl, inr}
use Rattle.std.specs.Prelude.{nat_le, nat_lt}
use Rattle.std.proofs.lemmas.Bool.{ltb-false, not-false}
use Rattle.std.specs.FinMap as map
use Rattle.std.specs.Option.{is_some}
use Rattle.room_types.specs.Choices.{IsChoices}
use Rattle.room_types.proofs.maps.TextMaps.{contains_key-put, get-put_other, get-put_same, text_cases}
use Rattle.room_types.specs.Texts.{Text, TextMap}
use Rattle.room_types.specs.declared.kinds.ListKind.{ListKind}
use Rattle.room_types.specs.declared.kinds.ListKind.TheVariants.{Rooms, People, Choices, Grades}
use Rattle.office_lists.specs.Records.{list_fault, record_limit, records_of}
use Rattle.office_lists.specs.declared.fault.Cause.TheVariants.{Denied}
use Rattle.office_state.specs.Change.{AllFit, Fits, LeadsTo, HomesStayDistinct, applied, applied_all}
use Rattle.office_state.specs.Office.{knows_room}
use Rattle.office_state.specs.Office.Invariants.{AreValidImports, IsLawful}
use Rattle.office_state.specs.Office.Limits.{byte_limit, label_limit}
use Rattle.office_state.specs.declared.change.Change.{Change}
use Rattle.office_state.specs.declared.change.Change.TheVariants.{KeepList}
use Rattle.office_state.specs.declared.office.Office.{Office}
use Rattle.office_state.specs.declared.office.stored_import.StoredImport.{StoredImport}
use Rattle.office_state.proofs.offices.Register.{len-put_within}
use Rattle.office_state.proofs.offices.Details.{relisted-lawful}
use Rattle.office_core.specs.Command.Import.{EntryCommand, bad_list, changes_by, changes_where}
use Rattle.office_core.specs.Command.Import.{checks_where, choices_command, entries_in, grade_command}
use Rattle.office_core.specs.Command.Import.{new_label_changes, new_label_checks, first_denied, keeping}
use Rattle.office_core.specs.Command.Import.{list_refusal, may_import, next_where, office_after_entries}
use Rattle.office_core.specs.Command.Import.{office_with, person_command, record_count, refusal_of}
use Rattle.office_core.specs.Command.Import.{room_command}
use Rattle.office_core.specs.declared.command.Command.TheVariants as commands
use Rattle.office_core.specs.Refusal.{number_of}
use Rattle.office_core.specs.Refusal.Checks.{first_refusal}
use Rattle.office_core.specs.declared.refusal.Refusal.TheVariants as refused
use Rattle.office_core.proofs.commands.CarriedOut.{IsCarriedOut, no_change}
use Rattle.office_core.proofs.commands.Lists.{set_choices-leads}
use Rattle.office_core.proofs.commands.Register.{add_person-leads, add_room-leads, set_grade-leads}
use Rattle.office_core.proofs.imports.ListChecks.{first_of_list}
use Rattle.office_core.proofs.imports.Records.{Each, each_recordable, few_records, none_of}
use Rattle.office_core.proofs.refusals.Checks.{none_applies}

-- every room that the first office knows is known
abbrev pub Grows : Office → Office → Type 0
Grows first office = (room : Text) → knows_room first room ≡ true → knows_room office room ≡ true

-- what the command of a good record does to a lawful office that does not refuse it
record Steps (command : EntryCommand) (Good : command.Entry → Type 0) : Type 0 where
  pub applies : (office : Office) (entry : command.Entry)
      → applied office (command.change entry) ≡ command.next office entry
  pub lawful : (office : Office) (entry : command.Entry) → Good entry → IsLawful office
      → first_refusal (command.checks office entry) ≡ None → IsLawful (command.next office entry)
  pub fits : (first office : Office) (entry : command.Entry) → Good entry → Grows first office
      → IsLawful office → first_refusal (command.checks office entry) ≡ None
      → Fits first office (command.change entry)
  pub grows : (first office : Office) (entry : command.Entry) → Grows first office
      → Grows first (command.next office entry)
  pub lists : (office : Office) (entry : command.Entry)
      → (command.next office entry).lists ≡ office.lists

unknown_first : (first office : Office) (room : Text) → Grows first office
    → knows_room office room ≡ false → knows_room office room ≡ knows_room first room
unknown_first first office room grows new =
    elim (knows_room first room) as
    (λ b. knows_room first room ≡ b → knows_room office room ≡ b) [
      | true ↦ λ e. grows room e
      | false ↦ λ e. new
    ] refl

room_steps : Steps room_command (λ room. Unit {0})
room_steps = record {
  applies = λ office room. refl;
  lawful = λ office room good l h. (add_room-leads office room l h).lawful;
  fits = λ first office room good grows l h.
      let (_, (new, _)) = none_applies (room_command.checks office room) h in
      unknown_first first office room grows new;
  grows = λ first office room grows q known.
      contains_key-put office.rooms room false q (grows q known);
  lists = λ office room. refl;
}

person_steps : Steps person_command (λ entry. Unit {0})
person_steps = record {
  applies = λ office e. refl;
  lawful = λ office e good l h.
      (add_person-leads office e.person e.name e.key e.home l h).lawful;
  fits = λ first office e good grows l h.
      (add_person-leads office e.person e.name e.key e.home l h).fits.0;
  grows = λ first office e grows q known. grows q known;
  lists = λ office e. refl;
}

choices_steps : Steps choices_command (λ entry. IsChoices entry.choices)
choices_steps = record {
  applies = λ office e. refl;
  lawful = λ office e good l h.
      (set_choices-leads office e.person e.choices good l h).lawful;
  fits = λ first office e good grows l h.
      (set_choices-leads office e.person e.choices good l h).fits.0;
  grows = λ first office e grows q known. grows q known;
  lists = λ office e. refl;
}

grade_steps : Steps grade_command (λ entry. Unit {0})
grade_steps = record {
  applies = λ office e. refl;
  lawful = λ office e good l h. (set_grade-leads office e.person e.grade l h).lawful;
  fits = λ first office e good grows l h.
      (set_grade-leads office e.person e.grade l h).fits.0;
  grows = λ first office e grows q known. grows q known;
  lists = λ office e. refl;
}

-- the changes of records, followed by any others, lead to the office after the records
record Leads (command : EntryCommand) (first office : Office) (entries : List command.Entry)
    (rest : List Change) : Type 0 where
  pub leads : applied_all office (changes_by command entries ++ rest)
      ≡ applied_all (office_after_entries command office entries) rest
  pub apart : HomesStayDistinct (office_after_entries command office entries) rest
      → HomesStayDistinct office (changes_by command entries ++ rest)
  pub fits : AllFit first (office_after_entries command office entries) rest
      → AllFit first office (changes_by command entries ++ rest)
  pub lawful : IsLawful (office_after_entries command office entries)
  pub lists : (office_after_entries command office entries).lists ≡ office.lists

module _ (command : EntryCommand) (Good : command.Entry → Type 0) (steps : Steps command Good) where
  all_lead : (first office : Office) (at : ℕ) (entries : List command.Entry) (rest : List Change)
      → Each Good entries → Grows first office → IsLawful office
      → first_denied command office at entries ≡ None
      → Leads command first office entries rest
  all_lead first office at [] rest good grows l h = record {
    leads = refl;
    apart = λ s. s;
    fits = λ f. f;
    lawful = l;
    lists = refl;
  }
  all_lead first office at (entry ∷ entries) rest good grows l h =
      let after = command.next office entry in
      let others = changes_by command entries ++ rest in
      let n = none_of (λ refusal. Some (refused.BadRecord at (Denied (number_of refusal))))
      (first_refusal (command.checks office entry)) (first_denied command after (at + 1) entries)
      (λ x e. cc) h in
      let same = steps.applies office entry in
      let later = all_lead first after (at + 1) entries rest good.1
      (steps.grows first office entry grows) (steps.lawful office entry good.0 l n.0) n.1 in
      record {
        leads = ap (λ o. applied_all o others) same ∙ later.leads;
        apart = λ s. (
          l.register.homes,
          subst (λ o. HomesStayDistinct o others) (sym same) (later.apart s),
        );
        fits = λ f. (
          steps.fits first office entry good.0 grows l n.0,
          subst (λ o. AllFit first o others) (sym same) (later.fits f),
        );
        lawful = later.lawful;
        lists = later.lists ∙ steps.lists office entry;
      }

-- what holds for all stored lists and for one more holds for all after that one is stored
all_put : (P : StoredImport → Type 0) (lists : TextMap StoredImport) (label : Text) (list : StoredImport)
    → ((q : Text) (kept : StoredImport) → map.get lists q ≡ Some kept → P kept) → P list
    → (q : Text) (kept : StoredImport) → map.get (map.insert lists label list) q ≡ Some kept → P kept
all_put P lists label list all one q kept h =
    elim (text_cases q label) as (λ _. P kept) [
      | inl same ↦
          let here : Some list ≡ Some kept =
          sym (ap (λ k. map.get (map.insert lists label list) k) same
          ∙ get-put_same lists label list) ∙ h in
          let it : list ≡ kept = cc in
          subst P it one
      | inr other ↦ all q kept (sym (get-put_other lists label list q other) ∙ h)
    ]

kept_put : (lists : TextMap StoredImport) (label : Text) (list : StoredImport) → AreValidImports lists
    → map.get lists label ≡ None → nat_le label_limit (map.len lists) ≡ false
    → length list.bytes ≤ byte_limit → list.count ≤ record_limit
    → AreValidImports (map.insert lists label list)
kept_put lists label list kept new few short counted = record {
  few = len-put_within lists label list label_limit (ap is_some new) few;
  short = all_put (λ k. length k.bytes ≤ byte_limit) lists label list kept.short short;
  counted = all_put (λ k. k.count ≤ record_limit) lists label list kept.counted counted;
}

module _ (office : Office) (label : Text) (kind : ListKind) (bytes : List ℕ) (l : IsLawful office)
    (new : map.get office.lists label ≡ None)
    (few : nat_le label_limit (map.len office.lists) ≡ false)
    (short : nat_lt byte_limit (length bytes) ≡ false) where
  tried-leads : (command : EntryCommand) (Good : command.Entry → Type 0) → Steps command Good
      → (list_fault command.form (records_of bytes) ≡ None → Each Good (entries_in command bytes))
      → list_refusal command office bytes ≡ None
      → LeadsTo office (keeping (office_after_entries command office (entries_in command bytes)) label kind bytes)
      (changes_by command (entries_in command bytes) ++ KeepList label kind bytes (record_count bytes) ∷ [])
  tried-leads command Good steps good h =
      let entries = entries_in command bytes in
      let n = none_of (λ fault. Some (bad_list fault)) (list_fault command.form (records_of bytes))
      (first_denied command office 1 entries) (λ x e. cc) h in
      let keep : Change = KeepList label kind bytes (record_count bytes) in
      let led = all_lead command Good steps office office 1 entries (keep ∷ []) (good n.0)
      (λ room known. known) l n.1 in
      let after = office_after_entries command office entries in
      let kept : AreValidImports (keeping after label kind bytes).lists =
      subst (λ lists. AreValidImports (map.insert lists label
      (record { kind = kind; bytes = bytes; count = record_count bytes }))) (sym led.lists)
      (kept_put office.lists label
      (record { kind = kind; bytes = bytes; count = record_count bytes }) l.kept new few
      (ltb-false byte_limit (length bytes) short) (few_records command.form bytes n.0)) in
      let lawful : IsLawful (keeping after label kind bytes) =
      relisted-lawful after (keeping after label kind bytes).lists led.lawful kept in
      record {
        leads = led.leads;
        apart = led.apart (led.lawful.register.homes, lawful.register.homes);
        fits = led.fits (ap (λ lists. map.contains_key lists label) led.lists ∙ ap is_some new, tt);
        lawful = lawful;
      }

each_any : {A : Type 0} (list : List A) → Each (λ x. Unit {0}) list
each_any [] = tt
each_any (x ∷ rest) = (tt, each_any rest)

-- importing a list under a new label leads to a lawful office
new-leads : (office : Office) (label : Text) (kind : ListKind) (bytes : List ℕ) → IsLawful office
    → map.get office.lists label ≡ None → first_refusal (new_label_checks office kind bytes) ≡ None
    → LeadsTo office (keeping (office_with kind office bytes) label kind bytes)
    (new_label_changes label kind bytes)
new-leads office label kind bytes l new h =
    let (in_phase, (few, (short, _))) = none_applies (new_label_checks office kind bytes) h in
    by kind few short
    (sym (first_of_list office kind bytes (not-false (may_import kind office.phase) in_phase) few short) ∙ h)
  where
    by : (kind : ListKind) → nat_le label_limit (map.len office.lists) ≡ false
        → nat_lt byte_limit (length bytes) ≡ false → refusal_of kind office bytes ≡ None
        → LeadsTo office (keeping (office_with kind office bytes) label kind bytes)
        (new_label_changes label kind bytes)
    by Rooms few short good =
        tried-leads office label Rooms bytes l new few short room_command (λ x. Unit {0})
        room_steps (λ e. each_any (entries_in room_command bytes)) good
    by People few short good =
        tried-leads office label People bytes l new few short person_command (λ x. Unit {0})
        person_steps (λ e. each_any (entries_in person_command bytes)) good
    by Choices few short good =
        tried-leads office label Choices bytes l new few short choices_command
        (λ entry. IsChoices entry.choices) choices_steps (each_recordable bytes) good
    by Grades few short good =
        tried-leads office label Grades bytes l new few short grade_command (λ x. Unit {0})
        grade_steps (λ e. each_any (entries_in grade_command bytes)) good

pub import-leads : (office : Office) (label : Text) (kind : ListKind) (bytes : List ℕ)
    → IsCarriedOut office (commands.Import label kind bytes)
import-leads office label kind bytes l h =
    elim (map.get office.lists label) as
    (λ o. map.get office.lists label ≡ o → first_refusal (checks_where o office kind bytes) ≡ None
    → LeadsTo office (next_where o office label kind bytes) (changes_where o label kind bytes)) [
      | Some kept ↦ λ known. λ ok. no_change office l
      | None ↦ λ new. λ ok. new-leads office label kind bytes l new ok
    ] refl h
