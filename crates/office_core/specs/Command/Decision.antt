-- How the checks of a command determine the decision.
use Rattle.std.specs.Prelude.{◌≡◌, Bool, true, not, ◌||◌, List, Option, None, Some, ◌⊎◌, MatchResult}
use Rattle.std.specs.Prelude.{Result}
use Rattle.office_state.specs.Empty.{is_empty}
use Rattle.office_state.specs.declared.change.Change.{Change}
use Rattle.office_core.specs.Command.{checks, reply_to}
use Rattle.office_core.specs.Command.Changes.{changes_of}
use Rattle.office_core.specs.Refusal.Checks.{Check, first_refusal, names_room}
use Rattle.office_core.specs.Refusal.Checks.{names_record}
use Rattle.office_core.specs.declared.command.Command.{Command}
use Rattle.office_core.specs.declared.command.decision.Decision.{Decision}
use Rattle.office_state.specs.declared.office.Office.{Office}
use Rattle.office_core.specs.declared.refusal.Refusal.{Refusal}
use Rattle.office_core.specs.declared.refusal.Refusal.TheVariants.{OutOfMemory}
use Rattle.office_core.specs.declared.reply.Reply.{Reply}

-- Whether deciding needs memory. A refusal needs memory exactly if it names a room or a record: the office copies the
-- room's code, or reads the list to find the record. If no refusal applies, deciding needs memory exactly if there
-- are changes.
abbrev pub refusal_allocates : List Change → Option Refusal → Bool
refusal_allocates changes None = not (is_empty changes)
refusal_allocates changes (Some refusal) = names_room refusal || names_record refusal

-- the refusal is the first that applies, or `OutOfMemory` if deciding needs memory
abbrev pub IsRefusal : List Change → List Check → Refusal → Type 0
IsRefusal changes checks refusal =
    (first_refusal checks ≡ Some refusal)
    ⊎ ((refusal ≡ OutOfMemory) × (refusal_allocates changes (first_refusal checks) ≡ true))

-- no check refuses, and the decision has the reply and the changes
pub record IsDecision (checks : List Check) (reply : Reply) (changes : List Change)
    (decision : Decision) : Type 0 where
  pub accepted : first_refusal checks ≡ None
  pub replied : decision.reply ≡ reply
  pub changed : decision.changes.items ≡ changes

-- If no check refuses, the result has this reply and these changes. Otherwise, the result is the first refusal that
-- applies. In both cases, the result may be `OutOfMemory` instead if deciding needs memory.
abbrev pub IsDecided : List Check → Reply → List Change → Result Decision Refusal → Type 0
IsDecided checks reply changes result =
    MatchResult result (IsDecision checks reply changes) (IsRefusal changes checks)

-- this is the decision of the office on this command
abbrev pub Decides : Office → Command → Result Decision Refusal → Type 0
Decides office command result =
    IsDecided (checks office command) (reply_to office command) (changes_of office command) result
