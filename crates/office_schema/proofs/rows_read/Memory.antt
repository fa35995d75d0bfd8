-- When checking that the office of some records is lawful allocates.
use Rattle.std.proofs.Common.{ℕ, inl, inr, arith}
use Rattle.std.specs.FinMap as maps
use Rattle.std.specs.FinMap.{len-entries}
use Rattle.std.proofs.lemmas.List.{length-map}
use Rattle.std.proofs.lemmas.List.Sorted.{length_permutation}
use Rattle.office_state.specs.Soundness as soundness
use Rattle.office_state.specs.declared.office.Office.{Office}
use Rattle.office_schema.specs.rows.ReadsOffice.{AreRecordsOf, Allocates}
use Rattle.office_schema.specs.rows.Rows.{row_of_person, rows_of_people}
use Rattle.office_schema.specs.rows.Tables.{rows_at}
use Rattle.office_schema.specs.declared.rows.records.OfficeRecords.{OfficeRecords}

pub allocates : (version : ℕ) (records : OfficeRecords) (office : Office)
    → AreRecordsOf (rows_at version office) records → soundness.Allocates office → Allocates version records
unfolding rows_at
allocates version records office has takes = elim takes as (λ _. Allocates version records) [
  | inl noted ↦
      let rows = length_permutation (rows_of_people office.people office.withdrawn) records.people.items has.people in
      let each = length-map (maps.entries office.people) (row_of_person office.withdrawn) in
      let known = len-entries office.people in
      let some = noted.somebody in
      inl (omega (arith, rows, each, known, some))
  | inr again ↦ inr (record { office = office; rows = has; again = again })
]
