-- When `sound`, the test that an office is lawful, may allocate.
use Rattle.std.specs.Prelude.{◌≡◌, ◌≤◌, ◌<◌, ◌⊎◌, Bool, true}
use Rattle.std.specs.FinMap as map
use Rattle.room_types.specs.Texts.{TextMap}
use Rattle.office_state.specs.Office.Invariants.{AreValidGrades, AreValidImports, AreValidLeavers, AreValidLists, AreValidMoves}
use Rattle.office_state.specs.Office.Invariants.{AreValidWords, HomesOpen}
use Rattle.office_state.specs.Office.Invariants.{IsValidRegister, IsValidRound}
use Rattle.office_state.specs.Office.Limits.{people_limit, room_limit}
use Rattle.office_state.specs.Office.Phases.{has_results}
use Rattle.office_state.specs.declared.office.Office.{Office}
use Rattle.office_state.specs.declared.office.person.Person.{Person}

-- the test gets as far as comparing keys and homes, which allocates: there are people, the numbers of rooms and of
-- people are within their limits, and each home is a known room that is not shut
pub record ComparesKeys (rooms : TextMap Bool) (people : TextMap Person) : Type 0 where
  pub somebody : 0 < map.len people
  pub few_rooms : map.len rooms ≤ room_limit
  pub few_people : map.len people ≤ people_limit
  pub homes_open : HomesOpen rooms people

-- the test gets as far as computing the results again, which allocates: the phase has results, and all other
-- invariants hold
pub record RecomputesResults (office : Office) : Type 0 where
  pub present : has_results office.phase ≡ true
  pub register : IsValidRegister office.rooms office.people
  pub lists : AreValidLists office.rooms office.people office.choices office.withdrawn
  pub round : IsValidRound office.number office.phase office.choices office.withdrawn
  pub grades : AreValidGrades office.people office.grades
  pub leavers : AreValidLeavers office.phase office.people office.withdrawn office.going
  pub words : AreValidWords office.phase office.people office.withdrawn office.going office.words
  pub moves : AreValidMoves office
  pub kept : AreValidImports office.lists

-- the test may allocate: it compares keys and homes, or computes the results again
abbrev pub Allocates : Office → Type 0
Allocates office = ComparesKeys office.rooms office.people ⊎ RecomputesResults office
