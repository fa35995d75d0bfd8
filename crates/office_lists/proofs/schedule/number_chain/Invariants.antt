use Rattle.std.proofs.Common.{◌≡◌, ◌+◌, ◌-◌}
use Rattle.office_lists.specs.Waves.{followed, move_limit}
use Rattle.office_lists.proofs.move_days.Chains.{IsNumberedTo}
use Rattle.office_lists.proofs.schedule.number_chain.Given as goal

abbrev pub invariant-loop-at : goal.invariant-loop-at
invariant-loop-at l =
    record {
      numbered : IsNumberedTo l.successors l.end l.first l.count l.fn.waves l.waves;
      here : l.at ≡ followed l.successors l.count l.end;
    }

abbrev pub decreases-loop-at : goal.decreases-loop-at
decreases-loop-at l = move_limit + 1 - l.count
