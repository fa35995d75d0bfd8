use Rattle.std.proofs.Common.{◌≡◌}
use Rattle.std.specs.FinMap as map
use Rattle.office_state.specs.Office.{first_person, lives_in}
use Rattle.office_state.proofs.office.Office.tenant.Given as goal

-- the person is the first one among the rest
abbrev pub invariant-loop-id : goal.invariant-loop-id
invariant-loop-id l = record {
  can : (goal.iterator-loop-id).can_next l.id-iterator;
  ends : (goal.iterator-loop-id).is_finite l.id-iterator;
  first : first_person (lives_in l.room) (map.entries l.self.people)
      ≡ first_person (lives_in l.room) l.id-iterator;
}
