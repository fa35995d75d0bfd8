use Rattle.std.proofs.Common.{◌≡◌, map, take}
use Rattle.std.specs.String.{string_bytes}
use Rattle.office_lists.specs.MoveDay.{moves_table}
use Rattle.office_lists.proofs.move_day.move_day_text.Given as goal

abbrev pub invariant-loop-row : goal.invariant-loop-row
invariant-loop-row l = string_bytes l.text ≡ moves_table (map (λ row. row.now) (take l.row-index l.row-items))
