-- Building an office from the records of all tables. The invariants of the office are checked afterwards.
use Rattle.std.specs.Prelude.{◌≡◌, ℕ, Option, Some}
use Rattle.std.specs.Option.{IfSome}
use Rattle.office_state.specs.Office.Invariants.{IsLawful}
use Rattle.office_state.specs.declared.office.Office.{Office}
use Rattle.office_schema.specs.rows.ReadsOffice.{AreRecordsOf}
use Rattle.office_schema.specs.rows.Tables.{rows_at}
use Rattle.office_schema.specs.declared.rows.records.OfficeRecords.{OfficeRecords}

-- If `made` is an office, this office has these rows. If a lawful office has these rows, `made` is that office.
pub record BuildsOffice (version : ℕ) (records : OfficeRecords) (made : Option Office) : Type 0 where
  pub returned : IfSome made (λ office. AreRecordsOf (rows_at version office) records)
  pub only : (office : Office) → IsLawful office → AreRecordsOf (rows_at version office) records
      → made ≡ Some office
