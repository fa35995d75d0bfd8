use Rattle.std.proofs.Common.{ap, ◌∙◌}
use Rattle.std.specs.FinMap as map
use Rattle.std.specs.FinMap.{get-empty}
use Rattle.room_types.specs.Texts.{text_cmp}
use Rattle.office_state.proofs.round_problems.Names.{numbers-fresh, numbers-known}
use Rattle.office_state.proofs.round.names.numbers.Goals.{then-not-contains_key+in_ok-copy+in_ok-insert}
use Rattle.office_state.proofs.round.names.numbers.Goals.{else-not-contains_key}
use Rattle.office_state.proofs.round.names.numbers.Goals as goal

pub loop-number-init : goal.loop-number-init
loop-number-init g c =
    λ name. ap (λ m. map.get m name) c.new-numbers.ensures ∙ get-empty text_cmp name

pub loop-number-preserved : goal.loop-number-preserved
loop-number-preserved g c = λ name.
    elim c.if-not-contains_key.branch [
      | then-not-contains_key+in_ok-copy+in_ok-insert w ↦
          ap (λ m. map.get m name) (w.numbers-is ∙ w.in_ok-insert.ensures.ok
          ∙ ap (λ k. map.insert c.loop-number.numbers k c.loop-number.number)
          w.in_ok-copy.ensures)
          ∙ numbers-fresh c.loop-number.numbers c.args.names.now c.loop-number.number
          c.index-names-number.result c.loop-number-test.true c.index-names-number.is
          c.loop-number.invariant (cc (c.contains_key.ensures, w.if-not-contains_key.true)) name
      | else-not-contains_key w ↦
          ap (λ m. map.get m name) w.numbers-is
          ∙ numbers-known c.loop-number.numbers c.args.names.now c.loop-number.number
          c.index-names-number.result c.loop-number-test.true c.index-names-number.is
          c.loop-number.invariant (cc (c.contains_key.ensures, w.if-not-contains_key.false))
          name
    ]
