use Rattle.std.proofs.Common.{◌≡◌, sym, subst}
use Rattle.room_types.specs.declared.phase.Phase.TheVariants.{Idle}
use Rattle.office_state.specs.Office.Invariants.{IsLawful}
use Rattle.office_state.specs.Office.{empty_office}
use Rattle.office_state.specs.declared.office.Office.{Office}
use Rattle.office_state.proofs.offices.Empty.{empty_lawful}
use Rattle.office_state.proofs.office.Office.empty.Goals as goal

pub returns-clause-lawful : goal.returns-clause-lawful
returns-clause-lawful c =
    let made : Office = record {
      rooms = c.new.result;
      people = c.new-2.result;
      choices = c.new-3.result;
      withdrawn = c.new-4.result;
      words = c.new-5.result;
      results =
          c.new-6.result;
      moves = c.new-7.result;
      lists = c.new-8.result;
      grades = c.new-9.result;
      going = c.new-10.result;
      number = 0;
      phase = Idle;
    } in
    let same : made ≡ empty_office =
    λ i. record {
      rooms = c.new.ensures i;
      people = c.new-2.ensures i;
      choices = c.new-3.ensures i;
      withdrawn = c.new-4.ensures i;
      words = c.new-5.ensures i;
      results = c.new-6.ensures i;
      moves = c.new-7.ensures i;
      lists = c.new-8.ensures i;
      grades = c.new-9.ensures i;
      going = c.new-10.ensures i;
      number = 0;
      phase = Idle;
    } in
    subst (λ o. IsLawful o) (sym same) empty_lawful
