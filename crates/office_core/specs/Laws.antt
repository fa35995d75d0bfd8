-- How commands affect a round that has results.
use Rattle.std.specs.Prelude.{◌≡◌, Bool, true, false}
use Rattle.office_state.specs.Office.Phases.{has_results}
use Rattle.office_state.specs.Round.Laws.{HaveSameEntries}
use Rattle.office_state.specs.declared.office.Office.{Office}
use Rattle.office_core.specs.declared.command.Command.{Command}
use Rattle.office_core.specs.declared.command.Command.TheVariants as command

-- the command ends the round
abbrev pub ends_round : Command → Bool
ends_round command.Settle = true
ends_round command.Cancel = true
ends_round _ = false

-- the command replaces a person's name or key
abbrev pub replaces_details : Command → Bool
replaces_details (command.SetName person name) = true
replaces_details (command.SetKey person key) = true
replaces_details _ = false

-- The two offices have the same entries (`HaveSameEntries`), the same round number and the same results, and the phase
-- of the second still has results. If no details are replaced, they have the same people, with names and keys.
pub record KeepsResults (replaces : Bool) (one other : Office) : Type 0 where
  pub entries : HaveSameEntries one other
  pub number : one.number ≡ other.number
  pub results : one.results ≡ other.results
  pub still : has_results other.phase ≡ true
  pub people : replaces ≡ false → one.people ≡ other.people
