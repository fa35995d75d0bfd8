use Rattle.std.proofs.Common.{◌≡◌, List, ℕ, ◌&&◌, ◌||◌}
use Rattle.std.specs.List.{list_any}
use Rattle.std.specs.FinMap as map
use Rattle.office_state.specs.Office.{has_withdrawn, lives_in}
use Rattle.office_state.specs.Round.{is_kept_back}
use Rattle.office_state.proofs.round.rooms.kept_back.Given as goal

-- a room is kept back if it was found so far, or is the home of one of the rest
abbrev pub invariant-loop-id : goal.invariant-loop-id
invariant-loop-id l = record {
  can : (goal.iterator-loop-id).can_next l.id-iterator;
  ends : (goal.iterator-loop-id).is_finite l.id-iterator;
  found : (room : List ℕ) → (map.contains_key l.homes room
      || list_any (λ e. has_withdrawn l.office e.0 && lives_in room e.1) l.id-iterator)
      ≡ is_kept_back l.office room;
}
