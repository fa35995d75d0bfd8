-- The changes of each accepted command lead from a lawful office to a lawful one.
use Rattle.std.proofs.Common.{sym, subst}
use Rattle.std.specs.Prelude.{Result, Ok, Err, IfOk, OnOk}
use Rattle.office_state.specs.Change.{LeadsTo}
use Rattle.office_state.specs.Office.Invariants.{IsLawful}
use Rattle.office_state.specs.declared.office.Office.{Office}
use Rattle.office_core.specs.Command.Decision.{Decides}
use Rattle.office_core.specs.Command.{next}
use Rattle.office_core.specs.Inner.Formed.{IsFormed}
use Rattle.office_core.specs.declared.command.Command.{Command}
use Rattle.office_core.specs.declared.command.Command.TheVariants as command
use Rattle.office_core.specs.declared.command.decision.Decision.{Decision}
use Rattle.office_core.specs.declared.refusal.Refusal.{Refusal}
use Rattle.office_core.proofs.commands.CarriedOut.{IsCarriedOut}
use Rattle.office_core.proofs.imports.Import.{import-leads}
use Rattle.office_core.proofs.commands.Register.{add_person-leads, add_room-leads, leave-leads, remove-leads}
use Rattle.office_core.proofs.commands.Register.{reopen-leads, set_grade-leads, set_home-leads, set_key-leads}
use Rattle.office_core.proofs.commands.Register.{set_name-leads, shut-leads}
use Rattle.office_core.proofs.commands.Round.{cancel-leads, close_round-leads, draw-leads, open_round-leads}
use Rattle.office_core.proofs.commands.Round.{publish-leads, run-leads}
use Rattle.office_core.proofs.commands.Lists.{blank-leads, going-leads, set_choices-leads, withdraw-leads}
use Rattle.office_core.proofs.settlements.Settle.{settle-leads}

pub accepted_command_leads : (office : Office) (given : Command) → IsFormed given → IsCarriedOut office given
accepted_command_leads office (command.AddRoom room) f l h = add_room-leads office room l h
accepted_command_leads office (command.AddPerson person name key home) f l h =
    add_person-leads office person name key home l h
accepted_command_leads office (command.SetHome person room) f l h = set_home-leads office person room l h
accepted_command_leads office (command.Leave person) f l h = leave-leads office person l h
accepted_command_leads office (command.Remove person) f l h = remove-leads office person l h
accepted_command_leads office (command.Shut room) f l h = shut-leads office room l h
accepted_command_leads office (command.Reopen room) f l h = reopen-leads office room l h
accepted_command_leads office command.OpenRound f l h = open_round-leads office l h
accepted_command_leads office (command.SetChoices person choices) f l h =
    set_choices-leads office person choices f l h
accepted_command_leads office (command.Withdraw person) f l h = withdraw-leads office person l h
accepted_command_leads office command.CloseRound f l h = close_round-leads office l h
accepted_command_leads office (command.Draw words) f l h = draw-leads office words l h
accepted_command_leads office command.Run f l h = run-leads office l h
accepted_command_leads office command.Publish f l h = publish-leads office l h
accepted_command_leads office command.Settle f l h = settle-leads office l h
accepted_command_leads office command.Cancel f l h = cancel-leads office l h
accepted_command_leads office (command.Import label kind bytes) f l h =
    import-leads office label kind bytes l h
accepted_command_leads office (command.SetGrade person grade) f l h = set_grade-leads office person grade l h
accepted_command_leads office (command.Going person) f l h = going-leads office person l h
accepted_command_leads office (command.SetName person name) f l h = set_name-leads office person name l h
accepted_command_leads office (command.SetKey person key) f l h = set_key-leads office person key l h
accepted_command_leads office (command.Blank label) f l h = blank-leads office label l h

pub decision_leads : (office : Office) (given : Command) (result : Result Decision Refusal)
    → IsLawful office → OnOk result (IsFormed given)
    → Decides office given result
    → IfOk result (λ decision. LeadsTo office (next office given) decision.changes.items)
decision_leads office given (Ok decision) l f d =
    subst (λ changes. LeadsTo office (next office given) changes) (sym d.changed)
    (accepted_command_leads office given f l d.accepted)
decision_leads office given (Err refusal) l f d = tt
