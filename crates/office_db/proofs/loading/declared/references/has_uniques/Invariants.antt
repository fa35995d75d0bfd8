use Rattle.std.proofs.Common.{◌≡◌, drop, length, map}
use Rattle.office_db.specs.loading.Inner.Declared.{are_places}
use Rattle.office_db.specs.loading.Inner.Lists.{pass_all}
use Rattle.office_db.proofs.loading.declared.references.has_uniques.Given as goal

-- The rest of the lists passes if and only if the whole lists pass.
abbrev pub invariant-loop-place : goal.invariant-loop-place
invariant-loop-place l = record {
  left : pass_all are_places (drop l.place (map (λ o. o.now) l.own)) (drop l.place l.uniques) ≡ pass_all are_places
      (map (λ o. o.now) l.own) l.uniques;
  even : length l.uniques ≡ length l.own;
}
