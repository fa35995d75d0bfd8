-- The changes that carry out each command.
use Rattle.std.specs.FinMap as map
use Rattle.std.specs.List.{filter, zip}
use Rattle.std.specs.Option.{is_some}
use Rattle.std.specs.Prelude.{List, None, Option, Some, [], false, if◌then◌else◌, map as map_list, not, true, ℕ, ◌++◌}
use Rattle.std.specs.Prelude.{◌+◌, ◌∷◌}
use Rattle.room_types.specs.Ascending.{ascending}
use Rattle.room_types.specs.Texts.{Text}
use Rattle.room_types.specs.declared.moves.Move.{Move}
use Rattle.room_types.specs.declared.phase.Phase.TheVariants.{Closed, Drawn, Idle, Opened, Published, Ran}
use Rattle.office_lists.specs.MoveDay.{is_swap, move_cmp}
use Rattle.office_state.specs.Office.{has_withdrawn, is_going, participants, tenant}
use Rattle.office_state.specs.Round.Settlement.{settled_moves}
use Rattle.office_state.specs.Round.{round_results}
use Rattle.office_state.specs.declared.change.Change.TheVariants.{AddMove, ClearRound, DropPerson, PutBytes}
use Rattle.office_state.specs.declared.change.Change.TheVariants.{PutChoices, PutGoing, PutGrade, PutHome}
use Rattle.office_state.specs.declared.change.Change.TheVariants.{PutNameAndKey, PutPerson, PutResult, PutRoom}
use Rattle.office_state.specs.declared.change.Change.TheVariants.{PutRound, PutWithdrawn, PutWord}
use Rattle.office_state.specs.declared.change.Change.{Change}
use Rattle.office_state.specs.declared.office.Assigned.{Assigned}
use Rattle.office_state.specs.declared.office.Office.{Office}
use Rattle.office_core.specs.Command.Import.{changes_where}
use Rattle.office_core.specs.Command.Lists.{blanked}
use Rattle.office_core.specs.declared.command.Command.TheVariants as command
use Rattle.office_core.specs.declared.command.Command.{Command}

-- the change by which the tenant of a room leaves, if there is one
abbrev pub tenant_leaving : Option Text → List Change
tenant_leaving None = []
tenant_leaving (Some person) = PutHome person None ∷ []

-- for each person, a change that gives the person the word at the same position
abbrev pub word_changes : List Text → List ℕ → List Change
word_changes people words = map_list (λ e. PutWord e.0 e.1) (zip people words)

-- the change that records a result
abbrev pub result_change : Text × Assigned → Change
result_change entry = PutResult entry.0 entry.1.room

-- the change by which the person of a move leaves the old room
abbrev pub leaving : Move → Change
leaving move = PutHome move.person None

-- the moves of those who swap
abbrev pub swaps : List Move → List Move
swaps = filter (λ move. is_swap move.wave)

-- the moves of those who move into no room
abbrev pub departures : List Move → List Move
departures = filter (λ move. not (is_some move.to))

-- the moves of those who leave their rooms before anybody arrives
abbrev pub first_out : List Move → List Move
first_out moves = departures moves ++ swaps moves

-- the change by which the person of a move arrives in the new room
abbrev pub arriving : Move → Change
arriving move = PutHome move.person move.to

-- First, those who move into no room leave their old rooms. Next, those who swap leave their old rooms. Then all who
-- move arrive in their new rooms, by wave and by identifier within a wave, with swaps last. When somebody arrives in
-- a room, the room's old tenant has already left it. So no room is ever the home of two people. For those who move
-- into no room, the change of arrival has no effect. Then come the changes that record the moves. The last two
-- changes clear the round's lists, withdrawals, departing tenants, words and results, and set the phase to `Idle`.
abbrev pub settling : Office → List Change
settling office =
    map_list leaving (first_out (settled_moves office))
    ++ (map_list arriving (ascending move_cmp (settled_moves office))
    ++ (map_list (λ move. AddMove move) (settled_moves office)
    ++ ClearRound ∷ PutRound office.number Idle ∷ []))

-- the changes that carry an accepted command out, in order
abbrev pub changes_of : Office → Command → List Change
changes_of office (command.AddRoom room) = PutRoom room false ∷ []
changes_of office (command.AddPerson person name key home) = PutPerson person name key home ∷ []
changes_of office (command.SetHome person room) = PutHome person (Some room) ∷ []
changes_of office (command.Leave person) = PutHome person None ∷ []
changes_of office (command.Remove person) = DropPerson person ∷ []
changes_of office (command.Shut room) = tenant_leaving (tenant office room) ++ PutRoom room true ∷ []
changes_of office (command.Reopen room) = PutRoom room false ∷ []
changes_of office command.OpenRound = PutRound (office.number + 1) Opened ∷ []
changes_of office (command.SetChoices person choices) = PutChoices person choices ∷ []
changes_of office (command.Withdraw person) = if has_withdrawn office person then [] else (PutWithdrawn person ∷ [])
changes_of office command.CloseRound = PutRound office.number Closed ∷ []
changes_of office (command.Draw words) = word_changes (participants office) words ++ PutRound office.number Drawn ∷ []
changes_of office command.Run =
    map_list result_change (map.entries (round_results office)) ++ PutRound office.number Ran ∷ []
changes_of office command.Publish = PutRound office.number Published ∷ []
changes_of office command.Settle = settling office
changes_of office command.Cancel = ClearRound ∷ PutRound office.number Idle ∷ []
changes_of office (command.Import label kind bytes) = changes_where (map.get office.lists label) label kind bytes
changes_of office (command.SetGrade person grade) = PutGrade person grade ∷ []
changes_of office (command.Going person) = if is_going office person then [] else (PutGoing person ∷ [])
changes_of office (command.SetName person name) = elim (map.get office.people person) [
  | None ↦ []
  | Some kept ↦ PutNameAndKey person name kept.key ∷ []
]
changes_of office (command.SetKey person key) = elim (map.get office.people person) [
  | None ↦ []
  | Some kept ↦ PutNameAndKey person kept.name key ∷ []
]
changes_of office (command.Blank label) = PutBytes label blanked ∷ []
