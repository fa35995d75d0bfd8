use Rattle.std.proofs.Common.{◌≡◌, drop, length, map}
use Rattle.office_db.specs.loading.Inner.Declared.{is_plain}
use Rattle.office_db.specs.loading.Inner.Lists.{pass_all}
use Rattle.office_db.proofs.loading.declared.references.are_plain.Given as goal

-- The rest of the lists passes if and only if the whole lists pass.
abbrev pub invariant-loop-place : goal.invariant-loop-place
invariant-loop-place l = record {
  left : pass_all is_plain (drop l.place (map (λ o. o.now) l.uniques)) (drop l.place l.orders) ≡ pass_all is_plain
      (map (λ o. o.now) l.uniques) l.orders;
  even : length l.orders ≡ length l.uniques;
}
