-- Offices with the same rows.
use Rattle.std.specs.Prelude.{◌≡◌}
use Rattle.std.specs.List.Sorted.{IsPermutation}
use Rattle.office_state.specs.Office.Invariants.{IsLawful}
use Rattle.office_state.specs.declared.office.Office.{Office}
use Rattle.office_schema.specs.rows.Tables.{Tables, rows_of}

-- Each table has the same rows in `tables` and in `others`, in some order.
pub record AreSameRows (tables others : Tables) : Type 0 where
  pub rooms : IsPermutation tables.rooms others.rooms
  pub people : IsPermutation tables.people others.people
  pub rounds : IsPermutation tables.rounds others.rounds
  pub choices : IsPermutation tables.choices others.choices
  pub words : IsPermutation tables.words others.words
  pub results : IsPermutation tables.results others.results
  pub moves : IsPermutation tables.moves others.moves
  pub lists : IsPermutation tables.lists others.lists
  pub grades : IsPermutation tables.grades others.grades
  pub going : IsPermutation tables.going others.going

-- Two lawful offices with the same rows are equal.
abbrev pub RowsDetermineOffice : Type 0
RowsDetermineOffice =
    (one other : Office) → IsLawful one → IsLawful other → AreSameRows (rows_of one) (rows_of other)
    → one ≡ other
