use Rattle.std.proofs.Common.{◌≡◌, ◌++◌, not, map}
use Rattle.std.specs.List.{filter}
use Rattle.office_state.specs.Office.{recorded_grade, sits_out}
use Rattle.office_state.specs.Round.{tickets_of, word_of}
use Rattle.office_state.proofs.round.people.tickets.Given as goal

-- those found so far and those found among the rest are all
abbrev pub invariant-loop-id : goal.invariant-loop-id
invariant-loop-id l = record {
  can : (goal.iterator-loop-id).can_next l.id-iterator;
  ends : (goal.iterator-loop-id).is_finite l.id-iterator;
  found : l.tickets.items ++ map (λ p. (p, recorded_grade l.office p, word_of l.office p))
      (map (λ e. e.0) (filter (λ e. not (sits_out l.office e.0)) l.id-iterator))
      ≡ tickets_of l.office;
}
