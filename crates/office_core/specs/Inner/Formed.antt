-- What the types of a command's parts guarantee.
use Rattle.room_types.specs.Choices.{IsChoices}
use Rattle.office_core.specs.declared.command.Command.{Command}
use Rattle.office_core.specs.declared.command.Command.TheVariants.{SetChoices}

-- the list of `SetChoices` is valid: short, and without a repeated room
abbrev pub IsFormed : Command → Type 0
IsFormed (SetChoices person choices) = IsChoices choices
IsFormed _ = Unit {0}
