use Rattle.std.proofs.Common.{◌≡◌, drop, length, map}
use Rattle.office_db.specs.loading.Inner.Declared.{is_reference}
use Rattle.office_db.specs.loading.Inner.Lists.{pass_all}
use Rattle.office_db.proofs.loading.declared.references.are_references.Given as goal

-- The rest of the lists passes if and only if the whole lists pass.
abbrev pub invariant-loop-place : goal.invariant-loop-place
invariant-loop-place l = record {
  left : pass_all is_reference (drop l.place (map (λ o. (o.0.now, o.1.now, o.2)) l.own))
      (drop l.place l.references) ≡ pass_all is_reference (map (λ o. (o.0.now, o.1.now, o.2)) l.own) l.references;
  even : length l.references ≡ length l.own;
}
