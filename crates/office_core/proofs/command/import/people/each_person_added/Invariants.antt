use Rattle.std.proofs.Common.{◌≡◌, ◌+◌, ◌++◌, drop}
use Rattle.office_core.specs.Command.Import.{changes_by, first_denied, person_command}
use Rattle.office_core.specs.Inner.Tries.{IsIndexed}
use Rattle.office_core.proofs.command.import.people.each_person_added.Given as goal

-- the first refusal is that of the remaining records, checked against the office at that point; the changes so far,
-- followed by those for the remaining records, are all changes
abbrev pub invariant-loop-i : goal.invariant-loop-i
invariant-loop-i l = record {
  indexed : IsIndexed l.register;
  later : first_denied person_command (record l.office { people = l.register.people }) (l.i + 1) (drop l.i l.list)
      ≡ first_denied person_command l.office 1 l.list;
  changed : l.changes.items ++ changes_by person_command (drop l.i l.list)
      ≡ changes_by person_command l.list;
}
