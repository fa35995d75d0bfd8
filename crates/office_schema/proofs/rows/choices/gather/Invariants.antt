use Rattle.std.proofs.Common.{◌≡◌, drop}
use Rattle.std.specs.FinMap as map
use Rattle.office_schema.specs.rows.Inner.Gathered.{gathered}
use Rattle.office_schema.proofs.rows.choices.gather.Given as goal

-- Gathering all rows from nothing is gathering the remaining rows from the lists so far.
abbrev pub invariant-loop-row : goal.invariant-loop-row
invariant-loop-row l = gathered map.empty l.rows ≡ gathered l.lists (drop l.row-index l.rows)
