use Rattle.std.proofs.Common.{◌≡◌, ℕ, ◌+◌, length}
use Rattle.trade_line.specs.Inner.Plain.{remains, AreMarks, Stepped}
use Rattle.trade_line.proofs.plain.top_trading_cycles.Given as goal

abbrev pub invariant-loop-turn : goal.invariant-loop-turn
invariant-loop-turn l = record {
  marks : AreMarks l.problem l.stage;
  given_len : length l.given.items ≡ l.problem.people;
  stepped : (k : ℕ) → k + l.turn ≡ l.problem.people → Stepped l.problem (remains l.stage) l.given.items k;
}
