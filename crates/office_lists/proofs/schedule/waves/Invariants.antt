use Rattle.std.proofs.Common.{◌≡◌}
use Rattle.office_lists.specs.Waves.{leavers, end_numbers}
use Rattle.office_lists.specs.Inner.Successors.{AreSuccessors}
use Rattle.office_lists.proofs.move_days.Chains.{AreNumberedTo}
use Rattle.office_lists.proofs.schedule.waves.Given as goal

abbrev pub invariant-loop-end : goal.invariant-loop-end
invariant-loop-end l =
    record {
      leavers : l.leaver-items ≡ leavers l.entries;
      linked : AreSuccessors l.leaver-items l.successors.items;
      numbered : AreNumberedTo (end_numbers l.entries) l.leaver-items l.successors.items l.end l.waves.items;
    }
