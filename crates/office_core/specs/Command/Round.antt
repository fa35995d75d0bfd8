-- The commands that lead from one phase of a round to the next, and the one that cancels it.
use Rattle.std.specs.FinMap as map
use Rattle.std.specs.List.{zip}
use Rattle.std.specs.Prelude.{List, [], eqb, length, nat_le, not, ℕ, ◌+◌, ◌∷◌}
use Rattle.room_types.specs.Texts.{Text, TextMap}
use Rattle.room_types.specs.declared.phase.Phase.TheVariants.{Closed, Drawn, Idle, Opened, Published, Ran}
use Rattle.office_state.specs.Change.{without_round}
use Rattle.office_state.specs.Office.Limits.{round_limit}
use Rattle.office_state.specs.Office.Phases.{has_run, is_closed, is_drawn, is_idle, is_open, is_published, may_cancel}
use Rattle.office_state.specs.Office.{participants}
use Rattle.office_state.specs.Puts.{with_all}
use Rattle.office_state.specs.Round.Settlement.{relocations, settled_moves, settled_people, with_moves}
use Rattle.office_state.specs.Round.{round_results}
use Rattle.office_core.specs.Command.Rule.{CommandRule}
use Rattle.office_core.specs.declared.refusal.Refusal.TheVariants.{BadPhase, LimitReached, WrongWordCount}
use Rattle.office_core.specs.declared.reply.Reply.TheVariants as reply

-- begins a round
abbrev pub open_round : CommandRule
open_round = record {
  checks = λ office.
      (not (is_idle office.phase), BadPhase office.phase)
      ∷ (nat_le round_limit office.number, LimitReached) ∷ [];
  next = λ office. record office { number = office.number + 1; phase = Opened };
  reply = λ office. reply.Opened (office.number + 1);
}

-- makes the lists final
abbrev pub close_round : CommandRule
close_round = record {
  checks = λ office. (not (is_open office.phase), BadPhase office.phase) ∷ [];
  next = λ office. record office { phase = Closed };
  reply = λ office. reply.Closed (length (participants office));
}

-- each person gets the word at the same position
abbrev pub with_words : TextMap ℕ → List Text → List ℕ → TextMap ℕ
with_words kept people words = with_all kept (zip people words)

-- gives each participant a lottery number: the participants, sorted by identifier, get the words in order
abbrev pub draw : List ℕ → CommandRule
draw words = record {
  checks = λ office.
      (not (is_closed office.phase), BadPhase office.phase)
      ∷ (
        not (eqb (length words) (length (participants office))),
        WrongWordCount (length (participants office)) (length words),
      ) ∷ [];
  next = λ office.
      record office { words = with_words map.empty (participants office) words; phase = Drawn };
  reply = λ office. reply.Drawn (length (participants office));
}

-- trades the rooms
abbrev pub run : CommandRule
run = record {
  checks = λ office. (not (is_drawn office.phase), BadPhase office.phase) ∷ [];
  next = λ office. record office { results = round_results office; phase = Ran };
  reply = λ office. reply.Ran (length (participants office));
}

-- publishes the results: each participant sees the result
abbrev pub publish : CommandRule
publish = record {
  checks = λ office. (not (has_run office.phase), BadPhase office.phase) ∷ [];
  next = λ office. record office { phase = Published };
  reply = λ office. reply.Published (length (participants office));
}

-- settles the round: participants move, those who leave the college move out, and the moves are recorded
abbrev pub settle : CommandRule
settle = record {
  checks = λ office. (not (is_published office.phase), BadPhase office.phase) ∷ [];
  next = λ office. record (without_round office) {
    people = settled_people office;
    moves = with_moves office.moves (settled_moves office);
    phase = Idle;
  };
  reply = λ office. reply.Settled (length (relocations office));
}

-- cancels the round; no later round gets the cancelled round's number
abbrev pub cancel : CommandRule
cancel = record {
  checks = λ office. (not (may_cancel office.phase), BadPhase office.phase) ∷ [];
  next = λ office. record (without_round office) { phase = Idle };
  reply = λ office. reply.Cancelled;
}
