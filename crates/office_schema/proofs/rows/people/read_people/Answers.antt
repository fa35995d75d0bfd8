use Rattle.std.proofs.Common.{sym, subst}
use Rattle.std.proofs.lemmas.Result.{IfOk-weaker}
use Rattle.office_schema.specs.rows.People.{AreValid, people_rows}
use Rattle.office_schema.specs.rows.Reads.{Reads}
use Rattle.office_schema.proofs.rows_read.FillingPeople.{filled_people-reads}
use Rattle.office_schema.proofs.rows.people.read_people.Goals as goal

pub returns-clause-reads : goal.returns-clause-reads
returns-clause-reads c =
    IfOk-weaker c.fill_people.result _ _
    (λ found e. subst (λ o. Reads AreValid people_rows c.args.rows.items o) (sym e)
    (filled_people-reads c.args.rows.items)) c.fill_people.ensures.fills
