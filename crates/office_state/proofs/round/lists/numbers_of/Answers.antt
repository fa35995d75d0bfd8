use Rattle.std.proofs.Common.{◌++◌, ◌∷◌, [], ℕ, Vec, Global, sym, ap, ◌∙◌}
use Rattle.std.specs.Option.{option_copied}
use Rattle.std.specs.FinMap as map
use Rattle.office_state.proofs.round_problems.Names.{numbered-some, numbered-none}
use Rattle.office_state.proofs.round.lists.numbers_of.Goals.{in-Some+in_ok-push, in_default}
use Rattle.office_state.proofs.round.lists.numbers_of.Goals as goal

pub loop-code-preserved : goal.loop-code-preserved
loop-code-preserved c =
    let number = map.get c.args.numbers.now in
    let codes = c.before_own-code-items.result.now in
    let returned = c.get.ensures in
    elim c.match-get.branch [
      | in-Some+in_ok-push w ↦
          ap (λ (list : Vec ℕ Global). list.items) w.list-is ∙ w.in_ok-push.ensures.items
          ∙ ap (λ xs. xs ++ w.in-Some.number.now ∷ []) c.loop-code.invariant
          ∙ sym (numbered-some number codes c.loop-code.code-index c.code-item.result
          c.loop-code-test.true c.code-item.is w.in-Some.number.now
          (sym returned ∙ ap option_copied w.in-Some.is))
      | in_default w ↦
          ap (λ (list : Vec ℕ Global). list.items) w.list-is
          ∙ c.loop-code.invariant
          ∙ sym (numbered-none number codes c.loop-code.code-index c.code-item.result
          c.loop-code-test.true c.code-item.is (sym returned ∙ ap option_copied w.in_default.is))
    ]
