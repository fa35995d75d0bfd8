-- The rows of every reply ascend.
use Rattle.std.proofs.Common.{sym, subst}
use Rattle.std.specs.FinMap as maps
use Rattle.std.specs.Prelude.{ℕ, List, Result, Ok, Err, IfOk, Bool, true, false, Option, None, Some, if◌then◌else◌}
use Rattle.std.specs.Prelude.{refl}
use Rattle.room_types.proofs.maps.TextMaps.{rows_ascend}
use Rattle.room_types.specs.Texts.{Text}
use Rattle.office_state.specs.Office.{is_over, owner}
use Rattle.office_state.specs.Office.Phases.{has_results, has_words}
use Rattle.office_state.specs.Round.{result_by}
use Rattle.office_state.specs.declared.office.Office.{Office}
use Rattle.office_state.specs.declared.office.stored_import.StoredImport.{StoredImport}
use Rattle.office_state.specs.declared.office.person.Person.{Person}
use Rattle.office_core.specs.Command.{reply_to}
use Rattle.office_core.specs.Command.Decision.{Decides}
use Rattle.office_core.specs.Command.Import.{reply_where}
use Rattle.office_core.specs.Query.{returned}
use Rattle.office_core.specs.Query.Answer.{IsAnswered}
use Rattle.office_core.specs.Query.Personal.{owner_answer, person_answer}
use Rattle.office_core.specs.Query.Overview.{move_rows}
use Rattle.office_core.specs.Query.Overview.{order_rows}
use Rattle.office_core.specs.Query.Overview.{person_row}
use Rattle.office_core.specs.Query.Overview.{result_row, result_rows}
use Rattle.office_core.specs.Query.Overview.{room_row}
use Rattle.office_core.specs.Query.Personal.{result_unless, what_if_checks}
use Rattle.office_core.specs.Refusal.Checks.{first_refusal}
use Rattle.office_core.specs.Replies.{RowsAscend}
use Rattle.office_core.specs.declared.command.Command.{Command}
use Rattle.office_core.specs.declared.command.Command.TheVariants as command
use Rattle.office_core.specs.declared.command.decision.Decision.{Decision}
use Rattle.office_core.specs.declared.query.Query.{Query}
use Rattle.office_core.specs.declared.query.Query.TheVariants as query
use Rattle.office_core.specs.declared.refusal.Refusal.{Refusal}
use Rattle.office_core.specs.declared.refusal.Refusal.TheVariants.{BadPhase, NoSuchRound}
use Rattle.office_core.specs.declared.reply.Reply.{Reply}
use Rattle.office_core.specs.declared.reply.Reply.TheVariants as reply

if_ascends : (b : Bool) (given : Reply) (refusal : Refusal) → RowsAscend given
    → IfOk (if b then Ok given else Err refusal) RowsAscend
if_ascends true given refusal h = h
if_ascends false given refusal h = tt

unless_ascends : (refused : Option Refusal) (given : Reply) → RowsAscend given
    → IfOk (result_unless refused given) RowsAscend
unless_ascends None given h = h
unless_ascends (Some refusal) given h = tt

person_ascends : (office : Office) (person : Text) (kept : Option Person)
    → IfOk (person_answer office person kept) RowsAscend
person_ascends office person None = tt
person_ascends office person (Some kept) = tt

owner_ascends : (office : Office) (person : Option Text)
    → IfOk (owner_answer office person) RowsAscend
owner_ascends office None = tt
owner_ascends office (Some person) = person_ascends office person (maps.get office.people person)

-- the rows of the reply to a query ascend
replies_ascend : (office : Office) (asked : Query) → IfOk (returned office asked) RowsAscend
replies_ascend office query.Rooms =
    rows_ascend (room_row office) (λ row. row.room) (λ e. refl) office.rooms
replies_ascend office query.People =
    rows_ascend person_row (λ row. row.person) (λ e. refl) office.people
replies_ascend office query.Round = tt
replies_ascend office query.Order =
    if_ascends (has_words office.phase) (reply.Order (order_rows office)) (BadPhase office.phase) tt
replies_ascend office query.Results =
    if_ascends (has_results office.phase) (reply.Results (result_rows office))
    (BadPhase office.phase)
    (rows_ascend result_row (λ row. row.person) (λ e. refl) office.results)
replies_ascend office (query.Moves number) =
    if_ascends (is_over office number) (reply.Moves (move_rows office number)) NoSuchRound tt
replies_ascend office (query.Me key) = owner_ascends office (owner office key)
replies_ascend office (query.WhatIf person choices) =
    unless_ascends (first_refusal (what_if_checks office person choices))
    (reply.WouldGet (result_by office person choices)) tt

added_ascends : (kept : Option StoredImport) (bytes : List ℕ)
    → RowsAscend (reply_where kept bytes)
added_ascends None bytes = tt
added_ascends (Some kept) bytes = tt

-- the reply to a command has no rows
reply_ascends : (office : Office) (given : Command) → RowsAscend (reply_to office given)
reply_ascends office (command.AddRoom room) = tt
reply_ascends office (command.AddPerson person name key home) = tt
reply_ascends office (command.SetHome person room) = tt
reply_ascends office (command.Leave person) = tt
reply_ascends office (command.Remove person) = tt
reply_ascends office (command.Shut room) = tt
reply_ascends office (command.Reopen room) = tt
reply_ascends office command.OpenRound = tt
reply_ascends office (command.SetChoices person choices) = tt
reply_ascends office (command.Withdraw person) = tt
reply_ascends office command.CloseRound = tt
reply_ascends office (command.Draw words) = tt
reply_ascends office command.Run = tt
reply_ascends office command.Publish = tt
reply_ascends office command.Settle = tt
reply_ascends office command.Cancel = tt
reply_ascends office (command.Import label kind bytes) =
    added_ascends (maps.get office.lists label) bytes
reply_ascends office (command.SetGrade person grade) = tt
reply_ascends office (command.Going person) = tt
reply_ascends office (command.SetName person name) = tt
reply_ascends office (command.SetKey person key) = tt
reply_ascends office (command.Blank label) = tt

pub answer_ascends : (office : Office) (asked : Query) (result : Result Reply Refusal)
    → IsAnswered (returned office asked) result → IfOk result RowsAscend
answer_ascends office asked (Ok reply) t =
    subst (λ r. IfOk r RowsAscend) t (replies_ascend office asked)
answer_ascends office asked (Err refusal) t = tt

pub decision_ascends : (office : Office) (given : Command) (result : Result Decision Refusal)
    → Decides office given result
    → IfOk result (λ decision. RowsAscend decision.reply)
decision_ascends office given (Ok decision) d =
    subst RowsAscend (sym d.replied) (reply_ascends office given)
decision_ascends office given (Err refusal) d = tt
