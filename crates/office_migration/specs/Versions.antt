-- What an office of an earlier version may hold.
use Rattle.std.specs.Prelude.{◌≡◌, ◌≢◌, ◌<◌, ◌⊎◌, ℕ, ℤ, pos, Bool, true, false, IsSome, Some}
use Rattle.std.specs.List.{list_all}
use Rattle.std.specs.Option.{is_some}
use Rattle.std.specs.FinMap as map
use Rattle.sqlite_schema.specs.declared.schema.Schema.{Schema}
use Rattle.room_types.specs.Texts.{Text}
use Rattle.room_types.specs.declared.kinds.ListKind.TheVariants.{Rooms, People, Choices, Grades}
use Rattle.office_state.specs.Office.Moves.{moves_of}
use Rattle.office_state.specs.declared.office.stored_import.StoredImport.{StoredImport}
use Rattle.office_state.specs.declared.office.moves.Moved.{Moved}
use Rattle.office_state.specs.declared.office.moves.RoundMoves.{RoundMoves}
use Rattle.office_state.specs.declared.office.Office.{Office}
use Rattle.office_schema.specs.tables.Layouts.{schema_of, version_of}
use Rattle.office_schema.specs.declared.tables.layouts.Layout.{Layout}

-- Nobody has a grade, and no imported list is a list of grades.
pub record LacksGrades (office : Office) : Type 0 where
  pub grades : office.grades ≡ map.empty
  pub kinds : (label : Text) (kept : StoredImport) → map.get office.lists label ≡ Some kept
      → kept.kind ≢ Grades

-- Nobody leaves, and each recorded move goes into a room.
pub record LacksLeavers (office : Office) : Type 0 where
  pub going : office.going ≡ map.empty
  pub arrived : (round : ℕ) (p : Text) (moved : Moved)
      → map.get (moves_of office.moves round) p ≡ Some moved → IsSome moved.to

-- The office holds only what an office of this version may hold. Grades came with version 2, and leavers with version
-- 3.
abbrev pub IsOfVersion : ℕ → Office → Type 0
IsOfVersion version office =
    (version < 2 → LacksGrades office) × (version < 3 → LacksLeavers office)

-- The version is an earlier one: 1 or 2.
abbrev pub IsEarlier : ℕ → Type 0
IsEarlier version = (version ≡ 1) ⊎ (version ≡ 2)

-- The schema is that of a layout of version 1 or 2.
abbrev pub HasEarlierLayout : Schema → Type 0
HasEarlierLayout schema = (layout : Layout) × (schema ≡ schema_of layout) × IsEarlier (version_of layout)

-- The number is neither 1 nor 2.
abbrev pub IsNotEarlier : ℤ → Type 0
IsNotEarlier version = (version ≢ pos 1) × (version ≢ pos 2)

-- ---- the tests

-- whether an imported list is of another kind than grades
abbrev pub is_not_grades : StoredImport → Bool
is_not_grades kept = elim kept.kind [
  | Rooms ↦ true
  | People ↦ true
  | Choices ↦ true
  | Grades ↦ false
]

-- whether each move of a round goes into a room
abbrev pub do_all_arrive : RoundMoves → Bool
do_all_arrive kept = list_all (λ e. is_some e.1.to) (map.entries kept.by_person)
