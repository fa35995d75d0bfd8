use Rattle.std.proofs.Common.{rules}
use Rattle.office_schema.proofs.rows_read.Memory.{allocates}
use Rattle.office_schema.proofs.rows.office.read_office.Goals as goal

pub returns-in_err-sound-clause-memory : goal.returns-in_err-sound-clause-memory
returns-in_err-sound-clause-memory c =
    let taken =
    allocates c.args.version c.args.records c.in-Some.office
    (rw c.in-Some.is at c.in_ok-office.ensures.makes.returned) c.in_err-sound.ensures.memory in
    search (rules, taken)
