use Rattle.std.proofs.Common.{◌≡◌, drop, length, map}
use Rattle.office_db.specs.loading.Inner.Indexes.{is_this_index, unique_index}
use Rattle.office_db.specs.loading.Inner.Lists.{pass_all}
use Rattle.office_db.proofs.loading.layout.are_these_indexes.Given as goal

-- The rest of the lists passes if and only if the whole lists pass.
abbrev pub invariant-loop-place : goal.invariant-loop-place
invariant-loop-place l = record {
  left : pass_all is_this_index (drop l.place (map (λ o. unique_index (o.0.now, o.1, o.2, o.3.now)) l.own))
      (drop l.place l.indexes)
      ≡ pass_all is_this_index (map (λ o. unique_index (o.0.now, o.1, o.2, o.3.now)) l.own) l.indexes;
  even : length l.indexes ≡ length l.own;
}
