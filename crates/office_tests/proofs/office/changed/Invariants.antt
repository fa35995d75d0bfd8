use Rattle.std.proofs.Common.{◌≡◌, take}
use Rattle.office_state.specs.Change.{applied_all}
use Rattle.office_tests.proofs.office.changed.Given as goal

-- the changes so far are applied
abbrev pub invariant-loop-change : goal.invariant-loop-change
invariant-loop-change l = l.next ≡ applied_all l.office (take l.change-index l.changes)
