use Rattle.std.proofs.Common.{ap, ◌∙◌, arith}
use Rattle.std.specs.FinMap as map
use Rattle.std.specs.FinMap.{empty_of_len, len-empty}
use Rattle.std.proofs.lemmas.Bool.Decides.{Decides-at}
use Rattle.room_types.specs.Texts.{text_cmp}
use Rattle.office_state.proofs.sound_offices.InvariantTests.{as_well, never}
use Rattle.office_migration.proofs.earlier.Tests.{kinds-decide}
use Rattle.office_migration.proofs.versions.lacks_grades.Goals as goal

pub returns-then-len-ne0 : goal.returns-then-len-ne0
returns-then-len-ne0 c =
    never (λ l. absurd
    (omega (arith, c.len.ensures, ap map.len l.grades ∙ len-empty text_cmp _, c.if-len-ne0.true)))

pub returns : goal.returns
returns c =
    let office = c.args.office.now in
    as_well _
    (λ kinds. record {
      grades = empty_of_len office.grades
          (omega (arith, c.len.ensures, c.if-len-ne0.false));
      kinds = kinds;
    })
    (λ l. l.kinds)
    (Decides-at _ _ c.lacks_grade_lists.ensures (kinds-decide office.lists))
