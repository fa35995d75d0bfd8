-- Once there are results, an accepted command that does not end the round keeps them.
use Rattle.std.proofs.Common.{◌≡◌, Bool, true, false, not, List, [], ◌∷◌, Some, None, refl, ap, ◌∙◌, sym}
use Rattle.std.specs.Prelude.{if◌then◌else◌}
use Rattle.std.specs.FinMap as map
use Rattle.room_types.specs.Texts.{Text, TextMap}
use Rattle.room_types.specs.declared.kinds.ListKind.{ListKind}
use Rattle.room_types.specs.declared.kinds.ListKind.TheVariants.{Rooms, People, Choices, Grades}
use Rattle.room_types.specs.declared.phase.Phase.{Phase}
use Rattle.room_types.specs.declared.phase.Phase.TheVariants.{Idle, Opened, Closed, Drawn, Ran}
use Rattle.room_types.specs.declared.phase.Phase.TheVariants.{Published}
use Rattle.office_state.specs.Office.Phases.{is_idle, is_open, is_closed, is_drawn, is_preparing}
use Rattle.office_state.specs.Office.Phases.{has_results}
use Rattle.office_state.specs.declared.office.Office.{Office}
use Rattle.office_state.specs.declared.office.person.Person.{Person}
use Rattle.office_state.specs.declared.office.stored_import.StoredImport.{StoredImport}
use Rattle.office_state.proofs.offices.Details.{renamed_stays}
use Rattle.office_core.specs.Laws.{ends_round, replaces_details, KeepsResults}
use Rattle.office_core.specs.Command.Lists.{blanked}
use Rattle.office_core.specs.Refusal.Checks.{Check, first_refusal}
use Rattle.office_core.specs.Command.{accepts, checks, next}
use Rattle.office_core.specs.Command.Import.{checks_where, new_label_checks, may_import, next_where}
use Rattle.office_core.specs.declared.command.Command.{Command}
use Rattle.office_core.specs.declared.command.Command.TheVariants as command
use Rattle.office_core.proofs.commands.Register.{office_renamed}

-- the phase is none of those before the run
record IsPast (phase : Phase) : Type 0 where
  idle : is_idle phase ≡ false
  opened : is_open phase ≡ false
  closed : is_closed phase ≡ false
  drawn : is_drawn phase ≡ false
  preparing : is_preparing phase ≡ false

past : (phase : Phase) → has_results phase ≡ true → IsPast phase
past Idle h = absurd (cc)
past Opened h = absurd (cc)
past Closed h = absurd (cc)
past Drawn h = absurd (cc)
past Ran h = record { idle = refl; opened = refl; closed = refl; drawn = refl; preparing = refl }
past Published h =
    record { idle = refl; opened = refl; closed = refl; drawn = refl; preparing = refl }

-- the first check does not refuse
abbrev FirstPasses : List Check → Type 0
FirstPasses [] = Unit {0}
FirstPasses (check ∷ checks) = check.0 ≡ false

passes : (all : List Check) → first_refusal all ≡ None → FirstPasses all
passes [] ok = tt
passes (check ∷ rest) ok = by check.0 refl
  where
    by : (b : Bool) → check.0 ≡ b → check.0 ≡ false
    by true e = absurd (let z : first_refusal (check ∷ rest)
        ≡ Some check.1 = ap (λ b. if b then Some check.1 else first_refusal rest) e in cc)
    by false e = e

stops : (may : Bool) → may ≡ false → not may ≡ false → ⊥
stops may e h = let z : not may ≡ true = ap not e in cc

-- and no list may be imported under a new label
may_import-past : (kind : ListKind) (phase : Phase) → IsPast phase → may_import kind phase ≡ false
may_import-past Rooms phase p = p.preparing
may_import-past People phase p = p.preparing
may_import-past Choices phase p = p.opened
may_import-past Grades phase p = p.preparing

-- which lists are kept does not count in the round
relisted : (replaces : Bool) (office : Office) (lists : TextMap StoredImport)
    → has_results office.phase ≡ true
    → KeepsResults replaces office (record office { lists = lists })
relisted replaces office lists there = record {
  entries = record {
    rooms = refl;
    homes = λ person. refl;
    choices = refl;
    withdrawn = refl;
    words = refl;
    grades = refl;
    going = refl;
  };
  number = refl;
  results = refl;
  still = there;
  people = λ same. refl;
}

-- nor do names and keys
renamed : (office : Office) (person : Text) (name key : Person → Text) → has_results office.phase ≡ true
    → KeepsResults true office (office_renamed office person name key (map.get office.people person))
renamed office person name key there =
    elim (map.get office.people person) as
    (λ o. KeepsResults true office (office_renamed office person name key o)) [
      | None ↦ relisted true office office.lists there
      | Some kept ↦
          let (entries, number, results, phase) = renamed_stays office person (name kept) (key kept) in
          record {
            entries = entries;
            number = sym number;
            results = sym results;
            still = ap has_results phase ∙ there;
            people = λ same. absurd (cc);
          }
    ]

pub results_kept : (office : Office) (c : Command) → has_results office.phase ≡ true
    → accepts office c ≡ None → ends_round c ≡ false
    → KeepsResults (replaces_details c) office (next office c)
results_kept office (command.AddRoom room) there ok goes_on =
    absurd (stops (is_preparing office.phase) (past office.phase there).preparing
    (passes (checks office (command.AddRoom room)) ok))
results_kept office (command.AddPerson person name key home) there ok goes_on =
    absurd (stops (is_preparing office.phase) (past office.phase there).preparing
    (passes (checks office (command.AddPerson person name key home)) ok))
results_kept office (command.SetHome person room) there ok goes_on =
    absurd (stops (is_idle office.phase) (past office.phase there).idle
    (passes (checks office (command.SetHome person room)) ok))
results_kept office (command.Leave person) there ok goes_on =
    absurd (stops (is_idle office.phase) (past office.phase there).idle
    (passes (checks office (command.Leave person)) ok))
results_kept office (command.Remove person) there ok goes_on =
    absurd (stops (is_idle office.phase) (past office.phase there).idle
    (passes (checks office (command.Remove person)) ok))
results_kept office (command.Shut room) there ok goes_on =
    absurd (stops (is_preparing office.phase) (past office.phase there).preparing
    (passes (checks office (command.Shut room)) ok))
results_kept office (command.Reopen room) there ok goes_on =
    absurd (stops (is_preparing office.phase) (past office.phase there).preparing
    (passes (checks office (command.Reopen room)) ok))
results_kept office command.OpenRound there ok goes_on =
    absurd (stops (is_idle office.phase) (past office.phase there).idle
    (passes (checks office command.OpenRound) ok))
results_kept office (command.SetChoices person choices) there ok goes_on =
    absurd (stops (is_open office.phase) (past office.phase there).opened
    (passes (checks office (command.SetChoices person choices)) ok))
results_kept office (command.Withdraw person) there ok goes_on =
    absurd (stops (is_open office.phase) (past office.phase there).opened
    (passes (checks office (command.Withdraw person)) ok))
results_kept office command.CloseRound there ok goes_on =
    absurd (stops (is_open office.phase) (past office.phase there).opened
    (passes (checks office command.CloseRound) ok))
results_kept office (command.Draw words) there ok goes_on =
    absurd (stops (is_closed office.phase) (past office.phase there).closed
    (passes (checks office (command.Draw words)) ok))
results_kept office command.Run there ok goes_on =
    absurd (stops (is_drawn office.phase) (past office.phase there).drawn
    (passes (checks office command.Run) ok))
results_kept office command.Publish there ok goes_on = record {
  entries = record {
    rooms = refl;
    homes = λ person. refl;
    choices = refl;
    withdrawn = refl;
    words = refl;
    grades = refl;
    going = refl;
  };
  number = refl;
  results = refl;
  still = refl;
  people = λ same. refl;
}
results_kept office command.Settle there ok goes_on = absurd (cc)
results_kept office command.Cancel there ok goes_on = absurd (cc)
results_kept office (command.Import label kind bytes) there ok goes_on =
    elim (map.get office.lists label) as
    (λ o. first_refusal (checks_where o office kind bytes) ≡ None
    → KeepsResults false office (next_where o office label kind bytes)) [
      | Some list ↦ λ again. relisted false office office.lists there
      | None ↦ λ first. absurd (stops (may_import kind office.phase)
          (may_import-past kind office.phase (past office.phase there))
          (passes (new_label_checks office kind bytes) first))
    ] ok
results_kept office (command.SetGrade person grade) there ok goes_on =
    absurd (stops (is_preparing office.phase) (past office.phase there).preparing
    (passes (checks office (command.SetGrade person grade)) ok))
results_kept office (command.Going person) there ok goes_on =
    absurd (stops (is_open office.phase) (past office.phase there).opened
    (passes (checks office (command.Going person)) ok))
results_kept office (command.SetName person name) there ok goes_on =
    renamed office person (λ _. name) (λ kept. kept.key) there
results_kept office (command.SetKey person key) there ok goes_on =
    renamed office person (λ kept. kept.name) (λ _. key) there
results_kept office (command.Blank label) there ok goes_on =
    elim (map.get office.lists label) as
    (λ o. KeepsResults false office (elim o as (λ _. Office) [
      | None ↦ office
      | Some kept ↦ record office {
        lists = map.insert office.lists label (record kept { bytes = blanked });
      }
    ])) [
      | None ↦ relisted false office office.lists there
      | Some kept ↦
          relisted false office (map.insert office.lists label (record kept { bytes = blanked })) there
    ]
