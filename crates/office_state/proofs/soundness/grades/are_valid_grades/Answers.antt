use Rattle.std.proofs.lemmas.Bool.Decides.{Decides-at}
use Rattle.office_state.proofs.sound_offices.GradeTests.{grades-decide}
use Rattle.office_state.proofs.soundness.grades.are_valid_grades.Goals as goal

pub returns : goal.returns
returns c =
    let office = c.args.office.now in
    Decides-at _ _ c.are_grades_recorded.ensures (grades-decide office.people office.grades)
