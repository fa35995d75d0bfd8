use Rattle.std.proofs.Common.{◌≡◌, ◌++◌, take, map}
use Rattle.office_state.specs.declared.change.Change.TheVariants.{AddMove}
use Rattle.office_core.proofs.command.settle.push_records.Given as goal

-- the changes before the call, followed by those of the moves so far
abbrev pub invariant-loop-moved : goal.invariant-loop-moved
invariant-loop-moved l =
    l.changes.items
    ≡ l.fn.changes.items ++ map (λ move. AddMove move) (take l.moved-index l.moves)
