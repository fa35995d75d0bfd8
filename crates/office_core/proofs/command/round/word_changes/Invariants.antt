use Rattle.std.proofs.Common.{◌≡◌, ◌++◌, drop}
use Rattle.office_core.specs.Command.Changes.{word_changes}
use Rattle.office_core.proofs.command.round.word_changes.Given as goal

-- the changes so far, followed by those for the remaining people, are all changes
abbrev pub invariant-loop-i : goal.invariant-loop-i
invariant-loop-i l =
    l.changes.items ++ word_changes (drop l.i l.people) (drop l.i l.words) ≡ word_changes l.people l.words
