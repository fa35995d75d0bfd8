-- What reading the rows of all tables returns.
use Rattle.std.specs.Prelude.{◌≡◌, ℕ, ◌+◌, ◌<◌, ◌⊎◌, length, Option, Some}
use Rattle.std.specs.Option.{IfSome}
use Rattle.std.specs.List.Sorted.{IsPermutation}
use Rattle.office_state.specs.Office.Invariants.{IsLawful}
use Rattle.office_state.specs.Soundness.{RecomputesResults}
use Rattle.office_state.specs.declared.office.Office.{Office}
use Rattle.office_schema.specs.rows.Tables.{Tables, rows_at}
use Rattle.office_schema.specs.declared.rows.records.OfficeRecords.{OfficeRecords}

-- For each table, `records` has the same rows as `tables`, in some order.
pub record AreRecordsOf (tables : Tables) (records : OfficeRecords) : Type 0 where
  pub rooms : IsPermutation tables.rooms records.rooms.items
  pub people : IsPermutation tables.people records.people.items
  pub rounds : IsPermutation tables.rounds records.rounds.items
  pub choices : IsPermutation tables.choices records.choices.items
  pub words : IsPermutation tables.words records.words.items
  pub results : IsPermutation tables.results records.results.items
  pub moves : IsPermutation tables.moves records.moves.items
  pub lists : IsPermutation tables.lists records.lists.items
  pub grades : IsPermutation tables.grades records.grades.items
  pub going : IsPermutation tables.going records.going.items

-- the number of records in all tables but the round's
abbrev pub count_outside_round : OfficeRecords → ℕ
count_outside_round records =
    length records.rooms.items + length records.people.items + length records.choices.items
    + length records.words.items + length records.results.items + length records.moves.items
    + length records.lists.items + length records.grades.items + length records.going.items

-- An office has these rows, and its results are recomputed. They are recomputed if the phase of the office has
-- results, and the office satisfies every other invariant.
pub record RecomputesReadResults (version : ℕ) (records : OfficeRecords) : Type 0 where
  pub office : Office
  pub rows : AreRecordsOf (rows_at version office) records
  pub again : RecomputesResults office

-- A table other than the round's has a record, or results are recomputed.
abbrev pub Allocates : ℕ → OfficeRecords → Type 0
Allocates version records = 0 < count_outside_round records ⊎ RecomputesReadResults version records

-- If `found` has an office, the office is lawful and has these rows. If any lawful office has these rows, `found` has
-- that office. So at most one lawful office has them, and `found` is `None` only if no lawful office has them.
pub record ReadsOffice (version : ℕ) (records : OfficeRecords) (found : Option Office) : Type 0 where
  pub returned : IfSome found (λ office. IsLawful office × AreRecordsOf (rows_at version office) records)
  pub only : (office : Office) → IsLawful office → AreRecordsOf (rows_at version office) records
      → found ≡ Some office
