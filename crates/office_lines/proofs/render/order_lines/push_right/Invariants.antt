use Rattle.std.proofs.Common.{◌≡◌, ◌-◌, ◌++◌, ◌≤◌, length, replicate}
use Rattle.std.specs.String.{string_bytes}
use Rattle.office_lines.proofs.render.order_lines.push_right.Given as goal

-- the text is the one before, followed by the spaces pushed so far
abbrev pub invariant-loop-spaces : goal.invariant-loop-spaces
invariant-loop-spaces l = record {
  within : l.spaces ≤ l.width - length l.cell;
  filled : string_bytes l.text ≡ string_bytes l.fn.text ++ replicate ((l.width - length l.cell) - l.spaces) 32;
}

abbrev pub decreases-loop-spaces : goal.decreases-loop-spaces
decreases-loop-spaces l = l.spaces
