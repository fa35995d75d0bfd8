use Rattle.std.proofs.Common.{◌≡◌, true, List, ℕ}
use Rattle.std.specs.List.{list_any}
use Rattle.std.specs.Option.{is_some, option_or}
use Rattle.std.specs.FinMap as map
use Rattle.office_state.specs.Office.{first_person, has_tenants, lives_in, tenant}
use Rattle.office_state.proofs.office.Office.tenants.Given as goal

-- a room's tenant is the one found so far, or else the first one among the rest
abbrev pub invariant-loop-id : goal.invariant-loop-id
invariant-loop-id l = record {
  can : (goal.iterator-loop-id).can_next l.id-iterator;
  ends : (goal.iterator-loop-id).is_finite l.id-iterator;
  found : (room : List ℕ) → option_or (map.get l.tenants room)
      (first_person (lives_in room) l.id-iterator) ≡ tenant l.self room;
  left : list_any (λ e. is_some e.1.home) l.id-iterator ≡ true → has_tenants l.self ≡ true;
}
