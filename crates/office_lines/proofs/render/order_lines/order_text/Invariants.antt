use Rattle.std.proofs.Common.{◌≡◌, ◌+◌, ◌++◌, drop}
use Rattle.std.specs.String.{string_bytes}
use Rattle.office_lines.specs.render.OrderLines.{order_lines, order_text}
use Rattle.office_lines.proofs.render.order_lines.order_text.Given as goal

-- the lines so far, followed by those of the remaining rows, are all lines
abbrev pub invariant-loop-row : goal.invariant-loop-row
invariant-loop-row l = record {
  next : l.place ≡ l.row-index + 1;
  lines : string_bytes l.text ++ order_lines (l.row-index + 1) (drop l.row-index l.rows) ≡ order_text l.rows;
}
