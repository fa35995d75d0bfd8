use Rattle.std.proofs.Common.{◌≤◌, sym, subst, ◌∙◌, length}
use Rattle.office_lists.specs.Waves.{NewRoomsDiffer}
use Rattle.office_state.specs.Office.Limits.{people_limit}
use Rattle.office_state.proofs.round_problems.Problem.{lawful-IsMarket}
use Rattle.office_state.proofs.moving_people.Settled.{new_rooms_differ, few_relocations}
use Rattle.office_state.proofs.round_phases.Untouched.{published_given}
use Rattle.office_core.proofs.command.settle.settled_moves.Goals as goal

pub waves-requires-clause-few : goal.waves-requires-clause-few
waves-requires-clause-few c =
    subst (λ ms. length ms ≤ people_limit)
    (sym (c.as_slice.ensures.value ∙ c.in_ok-relocations.ensures.relocations))
    (few_relocations c.args.office.now c.requires.lawful.register)

pub waves-requires-clause-new_rooms_differ : goal.waves-requires-clause-new_rooms_differ
waves-requires-clause-new_rooms_differ c =
    let office = c.args.office.now in
    subst (λ ms. NewRoomsDiffer ms) (sym (c.as_slice.ensures.value ∙ c.in_ok-relocations.ensures.relocations))
    (new_rooms_differ office c.requires.lawful.register (lawful-IsMarket office c.requires.lawful)
    (c.requires.lawful.results.given (published_given office.phase
    c.requires.published)))
