-- Inserting people into their maps one by one.
use Rattle.std.specs.Prelude.{List, [], ◌∷◌, Option, Some, None, if◌then◌else◌}
use Rattle.std.specs.FinMap as maps
use Rattle.room_types.specs.Texts.{TextMap}
use Rattle.office_schema.specs.declared.rows.people.People.{People}
use Rattle.office_schema.specs.declared.rows.records.PersonRecord.{PersonRecord}

abbrev pub nobody : People
nobody = record { people = maps.empty; withdrawn = maps.empty }

-- the set of people who have withdrawn, after one more row is added
abbrev pub marked : TextMap (Unit {0}) → PersonRecord → TextMap (Unit {0})
marked withdrawn row = if row.withdrawn then maps.insert withdrawn row.id tt else withdrawn

abbrev pub with_person : People → PersonRecord → People
with_person p row =
    record { people = maps.insert p.people row.id row.person; withdrawn = marked p.withdrawn row }

-- Adds the people of the rows in order. The result is `None` if an identifier occurs already.
abbrev pub filled_people : People → List PersonRecord → Option People
filled_people p [] = Some p
filled_people p (row ∷ rows) =
    if maps.contains_key p.people row.id then None else filled_people (with_person p row) rows
