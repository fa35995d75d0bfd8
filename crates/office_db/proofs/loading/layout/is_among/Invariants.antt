use Rattle.office_db.proofs.found_offices.Among.{IsNotBefore}
use Rattle.office_db.proofs.loading.layout.is_among.Given as goal

-- None of the tables so far is this one.
abbrev pub invariant-loop-place : goal.invariant-loop-place
invariant-loop-place l = IsNotBefore l.tables l.own l.place
