use Rattle.csv.specs.Records.{fields_of}
use Rattle.office_lists.proofs.csv.Headers.{SameFrom}
use Rattle.office_lists.proofs.fields.same_fields.Given as goal

abbrev pub invariant-loop-i : goal.invariant-loop-i
invariant-loop-i l = SameFrom l.names (fields_of l.row) l.i
