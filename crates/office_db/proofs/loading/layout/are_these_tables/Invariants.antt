use Rattle.std.proofs.Common.{◌≡◌, drop, length, map}
use Rattle.office_schema.specs.tables.Schema.{office_table}
use Rattle.office_db.proofs.loading.layout.are_these_tables.Given as goal

-- The lists are equal if their rests are.
abbrev pub invariant-loop-place : goal.invariant-loop-place
invariant-loop-place l = record {
  left : drop l.place l.tables ≡ drop l.place (map (λ o. office_table o.0 o.1) l.own)
      → l.tables ≡ map (λ o. office_table o.0 o.1) l.own;
  even : length l.tables ≡ length l.own;
}
