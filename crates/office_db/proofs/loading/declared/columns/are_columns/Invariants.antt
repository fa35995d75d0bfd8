use Rattle.std.proofs.Common.{◌≡◌, drop, length, map}
use Rattle.office_db.specs.loading.Inner.Declared.{is_column}
use Rattle.office_db.specs.loading.Inner.Lists.{pass_all}
use Rattle.office_db.proofs.loading.declared.columns.are_columns.Given as goal

-- The rest of the lists passes if and only if the whole lists pass.
abbrev pub invariant-loop-place : goal.invariant-loop-place
invariant-loop-place l = record {
  left : pass_all is_column (drop l.place (map (λ o. (o.0.now, o.1, o.2)) l.own)) (drop l.place l.columns) ≡ pass_all
      is_column (map (λ o. (o.0.now, o.1, o.2)) l.own) l.columns;
  even : length l.columns ≡ length l.own;
}
