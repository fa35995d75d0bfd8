use Rattle.std.proofs.Common.{drop}
use Rattle.std.specs.List.{AllByRecursion}
use Rattle.office_db.specs.loading.Inner.Declared.{IsAmong}
use Rattle.office_db.proofs.loading.layout.are_declared.Given as goal

-- All are there if and only if the rest are.
abbrev pub invariant-loop-place : goal.invariant-loop-place
invariant-loop-place l = record {
  left : AllByRecursion (λ o. IsAmong l.tables o.0) (drop l.place l.own)
      → AllByRecursion (λ o. IsAmong l.tables o.0) l.own;
  whole : AllByRecursion (λ o. IsAmong l.tables o.0) l.own
      → AllByRecursion (λ o. IsAmong l.tables o.0) (drop l.place l.own);
}
