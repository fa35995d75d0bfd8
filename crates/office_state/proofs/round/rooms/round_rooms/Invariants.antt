use Rattle.std.proofs.Common.{◌≡◌, ◌++◌, ◌&&◌, not, map}
use Rattle.std.specs.List.{filter}
use Rattle.office_state.specs.Round.{is_kept_back, round_rooms}
use Rattle.office_state.proofs.round.rooms.round_rooms.Given as goal

abbrev pub invariant-loop-code : goal.invariant-loop-code
invariant-loop-code l = record {
  can : (goal.iterator-loop-code).can_next l.code-iterator;
  ends : (goal.iterator-loop-code).is_finite l.code-iterator;
  found : l.rooms.items ++ map (λ e. e.0)
      (filter (λ e. not e.1 && not (is_kept_back l.office e.0)) l.code-iterator)
      ≡ round_rooms l.office;
}
