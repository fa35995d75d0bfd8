use Rattle.std.proofs.Common.{◌≡◌}
use Rattle.std.specs.FinMap as map
use Rattle.room_types.specs.Texts.{text_eq}
use Rattle.office_state.specs.Office.{first_person}
use Rattle.office_state.proofs.office.Office.owner.Given as goal

-- the person is the first one among the rest
abbrev pub invariant-loop-id : goal.invariant-loop-id
invariant-loop-id l = record {
  can : (goal.iterator-loop-id).can_next l.id-iterator;
  ends : (goal.iterator-loop-id).is_finite l.id-iterator;
  first : first_person (λ person. text_eq person.key l.key) (map.entries l.self.people)
      ≡ first_person (λ person. text_eq person.key l.key) l.id-iterator;
}
