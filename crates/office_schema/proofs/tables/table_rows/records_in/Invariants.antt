use Rattle.std.proofs.Common.{◌≡◌, map, take}
use Rattle.std.specs.List.{All}
use Rattle.office_schema.proofs.tables.table_rows.records_in.Given as goal

abbrev pub invariant-loop-row : goal.invariant-loop-row
invariant-loop-row g l = record {
  returned : map g.R.TableRow.columns l.records.items ≡ map g.R.TableRow.front (take l.row-index l.rows);
  formed : All g.R.TableRow.is_form (take l.row-index l.rows);
}
