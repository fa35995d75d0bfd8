use Rattle.std.proofs.Common.{◌≡◌, ◌+◌, ◌++◌, drop}
use Rattle.office_core.specs.Command.Import.{changes_by, first_denied, choices_command}
use Rattle.office_core.proofs.command.import.choices.each_choices_added.Given as goal

-- the first refusal is that of the remaining records, checked against the office at that point; the changes so far,
-- followed by those for the remaining records, are all changes
abbrev pub invariant-loop-i : goal.invariant-loop-i
invariant-loop-i l = record {
  later : first_denied choices_command (l.office) (l.i + 1) (drop l.i l.list)
      ≡ first_denied choices_command l.office 1 l.list;
  changed : l.changes.items ++ changes_by choices_command (drop l.i l.list)
      ≡ changes_by choices_command l.list;
}
