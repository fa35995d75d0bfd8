use Rattle.std.proofs.Common.{◌≡◌, map, take}
use Rattle.office_core.specs.Query.Overview.{order_row}
use Rattle.office_core.proofs.query.overview.order_rows.Given as goal

-- there is a row for each person so far
abbrev pub invariant-loop-person : goal.invariant-loop-person
invariant-loop-person l = l.rows.items ≡ map (order_row l.office) (take l.person-index l.people)
