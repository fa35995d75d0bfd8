use Rattle.std.proofs.Common.{◌≡◌, ◌||◌, Some}
use Rattle.std.specs.Option.{is_some}
use Rattle.std.specs.FinMap as map
use Rattle.room_types.specs.Texts.{Text}
use Rattle.office_state.specs.Office.{first_person, holder, is_text}
use Rattle.office_core.proofs.command.import.register.keys.Given as goal

-- a key is somebody's exactly if it is in the table so far or belongs to one of the remaining people
abbrev pub invariant-loop-person : goal.invariant-loop-person
invariant-loop-person l = record {
  can : (goal.iterator-loop-person).can_next l.person-iterator;
  ends : (goal.iterator-loop-person).is_finite l.person-iterator;
  found : (key : Text) → (map.contains_key l.keys key
      || is_some (first_person (λ p. is_text (Some p.key) key) l.person-iterator))
      ≡ is_some (holder (λ p. Some p.key) l.people key);
}
