use Rattle.std.proofs.Common.{◌≡◌, take}
use Rattle.std.specs.String.{string_bytes}
use Rattle.office_lists.specs.Tables.{results_table}
use Rattle.office_lists.proofs.tables.results_text.Given as goal

abbrev pub invariant-loop-row : goal.invariant-loop-row
invariant-loop-row l = string_bytes l.text ≡ results_table (take l.row-index l.rows)
