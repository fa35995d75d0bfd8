use Rattle.std.proofs.Common.{◌≡◌, ℕ, ◌<◌, length, Some}
use Rattle.office_lists.specs.Waves.{next_entry}
use Rattle.office_lists.proofs.schedule.successors.Given as goal

abbrev pub invariant-loop-i : goal.invariant-loop-i
invariant-loop-i l =
    record {
      same_length : length l.successors.items ≡ length l.leavers;
      after : (i j : ℕ) → next_entry l.successors.items j ≡ Some i → next_entry l.leavers i ≡ Some j;
      before : (i j : ℕ) → i < l.i → next_entry l.leavers i ≡ Some j → next_entry l.successors.items j ≡ Some i;
    }
