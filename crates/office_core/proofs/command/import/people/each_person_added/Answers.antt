use Rattle.std.proofs.Common.{◌++◌, ap}
use Rattle.office_core.specs.Command.Import.{changes_by, first_denied, person_command}
use Rattle.office_core.proofs.command.import.people.each_person_added.Goals as goal

pub loop-i-init : goal.loop-i-init
loop-i-init c = record {
  indexed = c.in_ok-register.ensures.indexed;
  later = ap (λ people. first_denied person_command
      (record c.args.office.now { people = people }) 1 c.args.list.now)
      c.in_ok-register.ensures.people;
  changed = ap (λ changes. changes ++ changes_by person_command c.args.list.now)
      c.new-changes.ensures.items;
}
