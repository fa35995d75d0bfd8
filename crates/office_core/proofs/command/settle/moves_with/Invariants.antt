use Rattle.std.proofs.Common.{◌≡◌, ◌++◌, drop}
use Rattle.office_state.specs.Round.Settlement.{moves_with}
use Rattle.office_core.proofs.command.settle.moves_with.Given as goal

-- the moves so far, followed by the remaining ones, are all moves
abbrev pub invariant-loop-i : goal.invariant-loop-i
invariant-loop-i l =
    l.moves.items ++ moves_with l.round (drop l.i l.relocations) (drop l.i l.waves)
    ≡ moves_with l.round l.relocations l.waves
