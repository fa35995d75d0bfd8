-- Rows that are shown, under rowids that differ, are held.
use Rattle.std.proofs.Common.{◌≡◌, ◌<◌, ◌≤◌, ℤ, Bool, true, false, true≢false, List, [], ◌∷◌, map, All, IsTrue, refl}
use Rattle.std.proofs.Common.{sym, ap, ap₂, ◌∙◌, subst, IsPermutation, arith}
use Rattle.std.specs.List.{AllByRecursion}
use Rattle.std.proofs.lemmas.Bool.{leb-true}
use Rattle.std.proofs.lemmas.List.Sorted.{IsPermutation-sym}
use Rattle.sqlite_value.specs.Order.{Row, column}
use Rattle.sqlite_value.specs.declared.value.Value.TheVariants.{Null}
use Rattle.sqlite_sql.specs.Term.{Term}
use Rattle.sqlite_trees.specs.Tree.{Trees, rowid}
use Rattle.sqlite_trees.specs.View.{is_int}
use Rattle.sqlite_trees.proofs.ListLemmas.{pull_back}
use Rattle.sqlite_rules.specs.Edit.{id_in}
use Rattle.sqlite_rules.proofs.TableLemmas.{int_is}
use Rattle.sqlite.specs.Effect.{Database}
use Rattle.office_schema.specs.rows.Tables.{Tables}
use Rattle.office_schema.specs.cells.Columns as columns
use Rattle.office_schema.specs.cells.WellFormed.{IsWellFormed}
use Rattle.office_schema.specs.tables.Holds.{Holds, stored}
use Rattle.std.proofs.lemmas.List.Elements.{All-from_recursion}
use Rattle.office_schema.specs.tables.Layouts.{has_grades, has_leavers, table_count, version_of}
use Rattle.office_schema.specs.tables.Tables.{HoldsIf}
use Rattle.office_schema.specs.tables.InLayout.{AreHeldIn, HasTablesIn}
use Rattle.office_schema.specs.declared.tables.layouts.Layout.{Layout}
use Rattle.office_schema.specs.declared.tables.layouts.Layout.TheVariants.{Own, Documented, DocumentedSecond}
use Rattle.office_schema.specs.declared.tables.layouts.Layout.TheVariants.{DocumentedFirst, EarlierFirst}
use Rattle.office_schema.specs.tables.Listing.{ShowRecords, listed}
use Rattle.office_schema.specs.tables.FirstTables.{HasTablesFirst}
use Rattle.office_db.specs.loading.Numbers.{AllIf, HaveRowids, HasWholeRows, AllHaveRowids, IsLaidFirst, IsLaidOut}
use Rattle.office_db.specs.loading.Numbers.{IsWhole}
use Rattle.office_db.specs.loading.Reading.{AreShown, ShowIf}

two_cells : (row : Row) → IsWhole 1 row → row ≡ column row 0 ∷ column row 1 ∷ []
two_cells [] e = absurd (omega (arith, e))
two_cells (a ∷ []) e = absurd (omega (arith, e))
two_cells (a ∷ b ∷ []) e = refl
two_cells (a ∷ b ∷ c ∷ row) e = absurd (omega (arith, e))

three_cells : (row : Row) → IsWhole 2 row → row ≡ column row 0 ∷ column row 1 ∷ column row 2 ∷ []
three_cells [] e = absurd (omega (arith, e))
three_cells (a ∷ []) e = absurd (omega (arith, e))
three_cells (a ∷ b ∷ []) e = absurd (omega (arith, e))
three_cells (a ∷ b ∷ c ∷ []) e = refl
three_cells (a ∷ b ∷ c ∷ d ∷ row) e = absurd (omega (arith, e))

four_cells : (row : Row) → IsWhole 3 row → row ≡ column row 0 ∷ column row 1 ∷ column row 2 ∷ column row 3 ∷ []
four_cells [] e = absurd (omega (arith, e))
four_cells (a ∷ []) e = absurd (omega (arith, e))
four_cells (a ∷ b ∷ []) e = absurd (omega (arith, e))
four_cells (a ∷ b ∷ c ∷ []) e = absurd (omega (arith, e))
four_cells (a ∷ b ∷ c ∷ d ∷ []) e = refl
four_cells (a ∷ b ∷ c ∷ d ∷ f ∷ row) e = absurd (omega (arith, e))

five_cells : (row : Row) → IsWhole 4 row → row ≡ column row 0 ∷ column row 1 ∷ column row 2 ∷ column row 3 ∷
    column row 4 ∷ []
five_cells [] e = absurd (omega (arith, e))
five_cells (a ∷ []) e = absurd (omega (arith, e))
five_cells (a ∷ b ∷ []) e = absurd (omega (arith, e))
five_cells (a ∷ b ∷ c ∷ []) e = absurd (omega (arith, e))
five_cells (a ∷ b ∷ c ∷ d ∷ []) e = absurd (omega (arith, e))
five_cells (a ∷ b ∷ c ∷ d ∷ f ∷ []) e = refl
five_cells (a ∷ b ∷ c ∷ d ∷ f ∷ g ∷ row) e = absurd (omega (arith, e))

six_cells : (row : Row) → IsWhole 5 row → row ≡ column row 0 ∷ column row 1 ∷ column row 2 ∷ column row 3 ∷ column row 4
    ∷ column row 5 ∷ []
six_cells [] e = absurd (omega (arith, e))
six_cells (a ∷ []) e = absurd (omega (arith, e))
six_cells (a ∷ b ∷ []) e = absurd (omega (arith, e))
six_cells (a ∷ b ∷ c ∷ []) e = absurd (omega (arith, e))
six_cells (a ∷ b ∷ c ∷ d ∷ []) e = absurd (omega (arith, e))
six_cells (a ∷ b ∷ c ∷ d ∷ f ∷ []) e = absurd (omega (arith, e))
six_cells (a ∷ b ∷ c ∷ d ∷ f ∷ g ∷ []) e = refl
six_cells (a ∷ b ∷ c ∷ d ∷ f ∷ g ∷ h ∷ row) e = absurd (omega (arith, e))

module _ {X : Type 0} (kept shown : X → Row) (IsForm : Row → Type 0) (project : List Term) (Whole : Row → Type 0)
    (keeps : (row : Row) (x : X) → Whole row → listed project row ≡ shown x → row ≡ rowid row ∷ kept x) where
  -- the entries of the rows
  entries_of : (rows : List Row) (xs : List X) → AllByRecursion Whole rows → AllByRecursion
      (λ r. IsTrue (is_int (rowid r))) rows
      → map (listed project) rows ≡ map shown xs
      → (entries : List (ℤ × X)) × (rows ≡ map (stored kept) entries) × (map (λ (e : ℤ × X). e.1) entries ≡ xs)
  entries_of [] [] whole keyed e = ([], refl, refl)
  entries_of [] (x ∷ xs) whole keyed e = absurd (cc)
  entries_of (r ∷ rows) [] whole keyed e = absurd (cc)
  entries_of (r ∷ rows) (x ∷ xs) whole keyed e =
      let head : listed project r ≡ shown x = cc in
      let tail : map (listed project) rows ≡ map shown xs = cc in
      let more = entries_of rows xs whole.1 keyed.1 tail in
      let first : r ≡ stored kept (id_in (rowid r), x) =
      keeps r x whole.0 head ∙ ap (λ v. v ∷ kept x) (int_is _ keyed.0) in
      ((id_in (rowid r), x) ∷ more.0, ap₂ (λ (a : Row) l. a ∷ l) first more.1, ap (λ l. x ∷ l) more.2)

  shown_are_held : (rows : List Row) (records : List X) → AllByRecursion Whole rows → HaveRowids rows
      → ShowRecords shown IsForm project rows records → Holds kept rows records
  shown_are_held rows records whole numbered h =
      let back = pull_back shown _ (map (listed project) rows) (IsPermutation-sym _ _ h.same) records refl in
      let found = entries_of rows back.0 whole numbered.keyed back.2 in
      record {
        entries = found.0;
        rows_are = found.1;
        apart = numbered.apart;
        same = subst (IsPermutation records) (sym found.2) back.1;
      }

-- for a table that may be missing
held_if : {X : Type 0} (is_there : Bool) (columns : X → Row) (IsForm : Row → Type 0) (project : List Term)
    (Whole : Row → Type 0)
    → ((row : Row) (x : X) → Whole row → listed project row ≡ columns x → row ≡ rowid row ∷ columns x)
    → (rows : List Row) (records : List X) → AllIf is_there Whole rows → (is_there ≡ true → HaveRowids rows)
    → ShowIf is_there columns IsForm project rows records → HoldsIf is_there columns rows records
held_if true columns IsForm project Whole keeps rows records whole numbered h =
    shown_are_held columns columns IsForm project Whole keeps rows records whole (numbered refl) h
held_if false columns IsForm project Whole keeps rows records whole numbered h = h

-- Where a layout has grades, or leavers, its number of tables includes theirs.
reach_grades : (layout : Layout) → has_grades layout ≡ true → 8 < table_count layout
reach_grades layout there = omega (arith, leb-true 2 (version_of layout) there)

reach_leavers : (layout : Layout) → has_leavers layout ≡ true → 9 < table_count layout
reach_leavers layout there = omega (arith, leb-true 3 (version_of layout) there)

-- Each layout has at least eight tables.
eight_tables : (layout : Layout) → 8 ≤ table_count layout
eight_tables Own = omega arith
eight_tables Documented = omega arith
eight_tables DocumentedSecond = omega arith
eight_tables DocumentedFirst = omega arith
eight_tables EarlierFirst = omega arith

-- The tables hold what they show.
rows_held : (layout : Layout) (trees : Trees) (tables : Tables) → HasWholeRows layout trees → AllHaveRowids layout trees
    → AreShown layout trees tables → AreHeldIn layout trees tables
rows_held layout trees tables laid numbers h =
    let eight = eight_tables layout in
    record {
      rooms = shown_are_held columns.room_columns columns.room_columns _ _ (IsWhole 2)
          (λ row x w e. three_cells row w ∙ ap (λ l. column row 0 ∷ l) e) _ _ laid.rooms
          (numbers 0 (omega (arith, eight))) h.rooms;
      people = shown_are_held columns.person_columns columns.person_columns _ _ (IsWhole 5)
          (λ row x w e. six_cells row w ∙ ap (λ l. column row 0 ∷ l) e) _ _ laid.people
          (numbers 1 (omega (arith, eight))) h.people;
      rounds = shown_are_held columns.round_columns columns.round_shown _ _
          (λ row. IsWhole 4 row × (column row 1 ≡ Null))
          (λ row x w e. five_cells row w.0 ∙ ap₂ (λ v l. column row 0 ∷ v ∷ l) w.1 e) _ _ laid.rounds
          (numbers 2 (omega (arith, eight))) h.rounds;
      choices = shown_are_held columns.choice_columns columns.choice_columns _ _ (IsWhole 3)
          (λ row x w e. four_cells row w ∙ ap (λ l. column row 0 ∷ l) e) _ _ laid.choices
          (numbers 3 (omega (arith, eight))) h.choices;
      words = shown_are_held columns.word_columns columns.word_columns _ _ (IsWhole 2)
          (λ row x w e. three_cells row w ∙ ap (λ l. column row 0 ∷ l) e) _ _ laid.words
          (numbers 4 (omega (arith, eight))) h.words;
      results = shown_are_held columns.result_columns columns.result_columns _ _ (IsWhole 2)
          (λ row x w e. three_cells row w ∙ ap (λ l. column row 0 ∷ l) e) _ _ laid.results
          (numbers 5 (omega (arith, eight))) h.results;
      moves = shown_are_held columns.move_columns columns.move_columns _ _ (IsWhole 5)
          (λ row x w e. six_cells row w ∙ ap (λ l. column row 0 ∷ l) e) _ _ laid.moves
          (numbers 6 (omega (arith, eight))) h.moves;
      lists = shown_are_held columns.list_columns columns.list_columns _ _ (IsWhole 4)
          (λ row x w e. five_cells row w ∙ ap (λ l. column row 0 ∷ l) e) _ _ laid.lists
          (numbers 7 (omega (arith, eight))) h.lists;
      grades = held_if (has_grades layout) columns.grade_columns _ _ (IsWhole 2)
          (λ row x w e. three_cells row w ∙ ap (λ l. column row 0 ∷ l) e) _ _ laid.grades
          (λ there. numbers 8 (reach_grades layout there)) h.grades;
      going = held_if (has_leavers layout) columns.going_columns _ _ (IsWhole 1)
          (λ row x w e. two_cells row w ∙ ap (λ l. column row 0 ∷ l) e) _ _ laid.going
          (λ there. numbers 9 (reach_leavers layout there)) h.going;
    }

pub all_held : (layout : Layout) (db : Database) (tables : Tables) → IsLaidOut layout db → AllHaveRowids layout db.trees
    → AreShown layout db.trees tables → HasTablesIn layout db tables
all_held layout db tables laid numbers h =
    record { schema = laid.schema; rows = rows_held layout db.trees tables laid.rows numbers h }

pub first_held : (layout : Layout) (db : Database) (tables : Tables) → IsLaidFirst layout db
    → AllHaveRowids layout db.trees → AreShown layout db.trees tables → HasTablesFirst layout db tables
first_held layout db tables laid numbers h =
    record { schema = laid.schema; rows = rows_held layout db.trees tables laid.rows numbers h }

formed_if : {X : Type 0} (is_there : Bool) (columns : X → Row) (IsForm : Row → Type 0) (project : List Term)
    (rows : List Row) (records : List X) → ShowIf is_there columns IsForm project rows records
    → All IsForm (map columns records)
formed_if true columns IsForm project rows records h = h.formed
formed_if false columns IsForm project rows records none =
    subst (λ rs. All IsForm (map columns rs)) (sym none) (All-from_recursion IsForm [] tt)

pub shown_well_formed : (layout : Layout) (trees : Trees) (tables : Tables) → AreShown layout trees tables
    → IsWellFormed tables
shown_well_formed layout trees tables h = record {
  rooms = h.rooms.formed;
  people = h.people.formed;
  rounds = h.rounds.formed;
  choices = h.choices.formed;
  words = h.words.formed;
  results = h.results.formed;
  moves = h.moves.formed;
  lists = h.lists.formed;
  grades = formed_if (has_grades layout) columns.grade_columns _ _ _ tables.grades h.grades;
  going = formed_if (has_leavers layout) columns.going_columns _ _ _ tables.going h.going;
}
