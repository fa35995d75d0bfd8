use Rattle.std.proofs.Common.{◌≡◌, ◌++◌, map}
use Rattle.std.specs.FinMap as maps
use Rattle.office_core.specs.Command.Changes.{result_change}
use Rattle.office_core.proofs.command.round.result_changes.Given as goal

-- the changes so far, followed by those for the remaining results, are all changes
abbrev pub invariant-loop-id : goal.invariant-loop-id
invariant-loop-id l = record {
  can : (goal.iterator-loop-id).can_next l.id-iterator;
  ends : (goal.iterator-loop-id).is_finite l.id-iterator;
  put : l.changes.items ++ map result_change l.id-iterator ≡ map result_change (maps.entries l.results);
}
