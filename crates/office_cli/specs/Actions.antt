-- The actions at the desk of an office file.
use Rattle.std.specs.Prelude.{ℕ, List, map}
use Rattle.office_cli.specs.declared.in_file.Action.{Action as DeskAction}
use Rattle.office_cli.specs.declared.in_file.Action.TheVariants as desk
use Rattle.office_lists.specs.declared.exports.ExportKind.{ExportKind}
use Rattle.room_types.specs.Texts.{Text}
use Rattle.room_types.specs.declared.kinds.ListKind.{ListKind}

-- An action at the desk of an office file: `does` handles words as a line, `does_lines` handles the lines of standard
-- input, `imports` imports a list of a kind under a label, from the file at a path, `exports` exports the office, and
-- `serves` serves, on a port, a number of connections.
pub data Action : Type 0 where
  does : List Text → Action
  does_lines : Action
  imports : ListKind → Text → Text → Action
  exports : ExportKind → Action
  serves : ℕ → ℕ → Action

-- converts the program's `Action` into this `Action`, which holds each borrowed text by value
abbrev pub action_of : DeskAction → Action
action_of (desk.Line words) = does (map (λ word. word.now) words.items)
action_of desk.Lines = does_lines
action_of (desk.Import kind label list) = imports kind label list.now
action_of (desk.Export kind) = exports kind
action_of (desk.Serve port count) = serves port count
