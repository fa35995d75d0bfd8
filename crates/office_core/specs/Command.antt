-- The command table: the refusals of each command, its effect and its reply.
pub mod Changes
pub mod Decision
pub mod Import
pub mod Lists
pub mod Register
pub mod Round
pub mod Rule
use Rattle.std.specs.Prelude.{List, Option}
use Rattle.office_state.specs.declared.office.Office.{Office}
use Rattle.office_core.specs.Command.Import.{import_list}
use Rattle.office_core.specs.Command.Lists.{blank, going, set_choices, withdraw}
use Rattle.office_core.specs.Command.Register.{add_person, add_room, leave, remove, reopen, set_grade, set_home}
use Rattle.office_core.specs.Command.Register.{set_key, set_name, shut}
use Rattle.office_core.specs.Command.Round.{cancel, close_round, draw, open_round, publish, run, settle}
use Rattle.office_core.specs.Command.Rule.{CommandRule}
use Rattle.office_core.specs.Refusal.Checks.{Check, first_refusal}
use Rattle.office_core.specs.declared.command.Command.TheVariants as command
use Rattle.office_core.specs.declared.command.Command.{Command}
use Rattle.office_core.specs.declared.refusal.Refusal.{Refusal}
use Rattle.office_core.specs.declared.reply.Reply.{Reply}

-- the rule of each command
abbrev pub rule_of : Command → CommandRule
rule_of (command.AddRoom room) = add_room room
rule_of (command.AddPerson person name key home) = add_person person name key home
rule_of (command.SetHome person room) = set_home person room
rule_of (command.Leave person) = leave person
rule_of (command.Remove person) = remove person
rule_of (command.Shut room) = shut room
rule_of (command.Reopen room) = reopen room
rule_of command.OpenRound = open_round
rule_of (command.SetChoices person choices) = set_choices person choices
rule_of (command.Withdraw person) = withdraw person
rule_of command.CloseRound = close_round
rule_of (command.Draw words) = draw words
rule_of command.Run = run
rule_of command.Publish = publish
rule_of command.Settle = settle
rule_of command.Cancel = cancel
rule_of (command.Import label kind bytes) = import_list label kind bytes
rule_of (command.SetGrade person grade) = set_grade person grade
rule_of (command.Going person) = going person
rule_of (command.SetName person name) = set_name person name
rule_of (command.SetKey person key) = set_key person key
rule_of (command.Blank label) = blank label

-- the checks of a command, in the order in which the office makes them
abbrev pub checks : Office → Command → List Check
checks office command = (rule_of command).checks office

-- the first refusal that applies to the command, or `None` if the office accepts the command
abbrev pub accepts : Office → Command → Option Refusal
accepts office command = first_refusal (checks office command)

-- the office after an accepted command
abbrev pub next : Office → Command → Office
next office command = (rule_of command).next office

-- the reply to an accepted command
abbrev pub reply_to : Office → Command → Reply
reply_to office command = (rule_of command).reply office
