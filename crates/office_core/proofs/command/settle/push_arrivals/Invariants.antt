use Rattle.std.proofs.Common.{◌≡◌, ◌++◌, take, map}
use Rattle.office_core.specs.Command.Changes.{arriving}
use Rattle.office_core.proofs.command.settle.push_arrivals.Given as goal

-- the changes before the call, followed by those of the people who have arrived so far
abbrev pub invariant-loop-moved : goal.invariant-loop-moved
invariant-loop-moved l =
    l.changes.items
    ≡ l.fn.changes.items ++ map arriving (map (λ moved. moved.now) (take l.moved-index l.moves))
