use Rattle.std.proofs.Common.{take}
use Rattle.office_db.specs.loading.Numbers.{HaveRowids}
use Rattle.office_db.proofs.loaded.Numbering.{IsLast}
use Rattle.office_db.proofs.loading.numbers.do_rowids_rise.Given as goal

abbrev pub invariant-loop-row : goal.invariant-loop-row
invariant-loop-row l = record {
  numbered : HaveRowids (take l.row-index l.rows);
  last : IsLast l.last (take l.row-index l.rows);
}
