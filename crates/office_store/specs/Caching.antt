-- The office that is cached after a command.
use Rattle.std.specs.Prelude.{Bool, false, ◌||◌, List, [], ◌∷◌}
use Rattle.office_state.specs.Change.{applied, change_allocates}
use Rattle.office_state.specs.declared.change.Change.{Change}
use Rattle.office_state.specs.declared.office.Office.{Office}
use Rattle.office_core.specs.Command.Changes.{changes_of}
use Rattle.office_core.specs.declared.requests.Request.{Request}
use Rattle.office_core.specs.declared.requests.Request.TheVariants as request

-- Applying the changes in turn needs memory for at least one of them.
abbrev pub changes_allocate : Office → List Change → Bool
changes_allocate office [] = false
changes_allocate office (change ∷ changes) =
    change_allocates office change || changes_allocate (applied office change) changes

-- If this request is accepted, keeping the cached office up to date needs memory.
abbrev pub caching_allocates : Office → Request → Bool
caching_allocates office (request.Office command) = changes_allocate office (changes_of office command)
caching_allocates office (request.Ask query) = false
