use Rattle.std.proofs.Common.{◌≡◌, None, [], subst, arith}
use Rattle.std.proofs.lemmas.Grind.{common_steps}
use Rattle.std.proofs.lemmas.List.Elements.{All-more}
use Rattle.room_types.specs.Repeats.{first_repeated}
use Rattle.office_state.specs.Office.{choices_of}
use Rattle.office_state.proofs.round.lists.lists.Goals as goal

pub loop-person-preserved : goal.loop-person-preserved
loop-person-preserved c = record {
  returned = grind (arith, common_steps);
  differ = All-more (λ p. first_repeated [] (choices_of c.args.office.now p) ≡ None)
      c.args.people.now c.loop-person.person-index c.person-item.result c.loop-person-test.true
      c.loop-person.invariant.differ
      (subst (λ p. first_repeated [] (choices_of c.args.office.now p) ≡ None) c.person-item.is
      c.in_ok-list_numbers.ensures.differ);
}
