use Rattle.std.proofs.Common.{◌≡◌, ◌++◌, take, map}
use Rattle.office_core.specs.Command.Changes.{leaving, swaps}
use Rattle.office_core.proofs.command.settle.push_swaps.Given as goal

-- the changes before the call, followed by those of the people who have left so far
abbrev pub invariant-loop-moved : goal.invariant-loop-moved
invariant-loop-moved l =
    l.changes.items ≡ l.fn.changes.items ++ map leaving (swaps (take l.moved-index l.moves))
