-- People and their withdrawals, and the rows of table `person` that represent both.
use Rattle.std.specs.Prelude.{List}
use Rattle.office_schema.specs.rows.Rows.{AreStorablePeople, rows_of_people}
use Rattle.office_schema.specs.declared.rows.people.People.{People}
use Rattle.office_schema.specs.declared.rows.records.PersonRecord.{PersonRecord}

-- a row for each person
abbrev pub people_rows : People → List PersonRecord
people_rows p = rows_of_people p.people p.withdrawn

-- Each person who has withdrawn is in `people`.
abbrev pub AreValid : People → Type 0
AreValid p = AreStorablePeople p.people p.withdrawn
