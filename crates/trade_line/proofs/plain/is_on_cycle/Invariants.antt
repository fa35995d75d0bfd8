use Rattle.std.proofs.Common.{◌≡◌, ◌==◌, suc, true, false}
use Rattle.std.specs.Fn.{iterate}
use Rattle.trade_line.specs.Below.{some_below}
use Rattle.trade_line.specs.TopTradingCycles.{successor}
use Rattle.trade_line.specs.Inner.Plain.{remains}
use Rattle.trade_line.proofs.plain.is_on_cycle.Given as goal

abbrev pub invariant-loop-turn : goal.invariant-loop-turn
invariant-loop-turn l = record {
  reached : l.at ≡ iterate (successor l.problem (remains l.stage)) l.turn l.person;
  holds : (remains l.stage).people l.at ≡ true;
  not_yet : some_below l.turn
      (λ k. iterate (successor l.problem (remains l.stage)) (suc k) l.person == l.person) ≡ false;
}
