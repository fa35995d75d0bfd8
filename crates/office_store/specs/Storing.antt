-- Which requests a desk stores.
use Rattle.std.specs.Prelude.{◌≡◌, Bool, true, false, List, Option, Some, None}
use Rattle.office_state.specs.Empty.{is_empty}
use Rattle.office_state.specs.declared.change.Change.{Change}
use Rattle.office_state.specs.declared.office.Office.{Office}
use Rattle.office_core.specs.Command.{accepts}
use Rattle.office_core.specs.Command.Changes.{changes_of}
use Rattle.office_core.specs.Requests.{IsAccepted}
use Rattle.office_core.specs.declared.refusal.Refusal.{Refusal}
use Rattle.office_core.specs.declared.requests.Answer.{Answer}
use Rattle.office_core.specs.declared.requests.Request.{Request}
use Rattle.office_core.specs.declared.requests.Request.TheVariants as request

-- The command is refused or has no changes, so nothing has to be stored.
abbrev pub stores_nothing : Option Refusal → List Change → Bool
stores_nothing None changes = is_empty changes
stores_nothing (Some refusal) changes = true

-- The request is a query, or a command that the office refuses or that has no changes.
abbrev pub changes_nothing : Office → Request → Bool
changes_nothing office (request.Office command) = stores_nothing (accepts office command) (changes_of office command)
changes_nothing office (request.Ask query) = true

-- The request is a command with changes for this office, and the answer is a reply. So the changes were stored.
abbrev pub IsStored : Office → Request → Answer → Type 0
IsStored office request answer = IsAccepted request answer × (changes_nothing office request ≡ false)
