-- Dropping tables and creating them again.
use Rattle.std.proofs.Common.{◌≡◌, ◌⊎◌, ◌≤◌, ◌<◌, ◌+◌, ℕ, zero, suc, List, [], ◌∷◌, drop, take, slice_get, Some, refl}
use Rattle.std.proofs.Common.{sym, ◌∙◌, subst, inl, inr, arith}
use Rattle.std.specs.List.{AllByRecursion}
use Rattle.sqlite_schema.specs.declared.schema.Schema.{Schema}
use Rattle.sqlite_schema.specs.declared.schema.Table.{Table}
use Rattle.sqlite_trees.specs.Tree.{Trees}
use Rattle.sqlite_catalog.specs.Change.{next_tree, KeepsRows}
use Rattle.sqlite.specs.Effect.{Database}
use Rattle.sqlite.specs.State.{State, HasCleanDisk}
use Rattle.office_schema.specs.declared.tables.names.TableName.{TableName}
use Rattle.office_schema.specs.tables.ByName.{RecordOf, HoldsRecords, columns_of, place_of, table_named}
use Rattle.office_schema.specs.declared.tables.names.TableName.TheVariants.{Rooms, People, Rounds, Choices, Words}
use Rattle.office_schema.specs.declared.tables.names.TableName.TheVariants.{Results, Moves, Lists, Grades, Going}
use Rattle.office_schema.specs.tables.Inner.Declaring.{DropsTooFew, Rebuilds}
use Rattle.office_schema.specs.tables.Declaring.{DeclaresFirst, LeavesFirst, CreatesTooFew, MayLackTables}
use Rattle.office_schema.specs.tables.Declaring.{ChangesSchema}
use Rattle.office_schema.specs.tables.Inner.Texts.{drop_text}
use Rattle.office_schema.specs.tables.Layouts.{order_of, schema_of, table_count, tables_of}
use Rattle.office_schema.specs.declared.tables.layouts.Layout.{Layout}
use Rattle.office_schema.specs.declared.tables.layouts.Layout.TheVariants.{Own, Documented, DocumentedSecond}
use Rattle.office_schema.specs.declared.tables.layouts.Layout.TheVariants.{DocumentedFirst, EarlierFirst}
use Rattle.office_schema.specs.tables.Edits as edit
use Rattle.office_schema.specs.tables.Makes.{Makes}
use Rattle.office_schema.specs.tables.Schema.{office_schema, first_tables, schema_in}
use Rattle.office_schema.specs.tables.Schema as schema
use Rattle.office_schema.specs.tables.Steps.{HasRun, StaysInside, RollsBack, IsIntact, IsUndone}
use Rattle.sqlite_trees.proofs.ListLemmas.{all-slice_get}
use Rattle.office_schema.proofs.statements.Held.{none_held}
use Rattle.office_schema.proofs.statements.OneTable.{stays}
use Rattle.office_schema.proofs.statements.Declared.{IsDeclaredBy, IsDroppedBy, gains, loses, room_declared}
use Rattle.office_schema.proofs.statements.Declared.{person_declared, round_declared, move_declared, list_declared}
use Rattle.office_schema.proofs.statements.Declared.{grade_declared, word_declared, result_declared, choice_declared}
use Rattle.office_schema.proofs.statements.Declared.{going_declared, own_move_dropped, own_list_dropped}
use Rattle.office_schema.proofs.statements.Declared.{own_grade_dropped, own_word_dropped, own_result_dropped}
use Rattle.office_schema.proofs.statements.Declared.{own_choice_dropped, own_going_dropped, documented_choice_dropped}
use Rattle.office_schema.proofs.statements.Declared.{documented_word_dropped, documented_result_dropped}
use Rattle.office_schema.proofs.statements.Declared.{documented_move_dropped, documented_list_dropped}
use Rattle.office_schema.proofs.statements.Declared.{documented_grade_dropped, documented_going_dropped}
use Rattle.office_schema.proofs.statements.Declared.{earlier_move_dropped, earlier_list_dropped, earlier_word_dropped}
use Rattle.office_schema.proofs.statements.Declared.{earlier_result_dropped, earlier_choice_dropped}

abbrev pub IsEmptyIn : Trees → List Table → Type 0
IsEmptyIn trees = AllByRecursion (λ t. trees t.tree ≡ [])

keeps_then : (tables : List Table) (a b c : Trees) → KeepsRows tables a b → KeepsRows tables b c → KeepsRows tables a c
keeps_then [] a b c p q = tt
keeps_then (t ∷ tables) a b c p q = (q.0 ∙ p.0, keeps_then tables a b c p.1 q.1)

keeps_same : (tables : List Table) (a : Trees) → KeepsRows tables a a
keeps_same [] a = tt
keeps_same (t ∷ tables) a = (refl, keeps_same tables a)

pub keeps_fewer : (few many : ℕ) (tables : List Table) (a b : Trees) → few ≤ many → KeepsRows (take many tables) a b
    → KeepsRows (take few tables) a b
keeps_fewer zero many [] a b low p = tt
keeps_fewer zero many (t ∷ tables) a b low p = tt
keeps_fewer (suc few) many [] a b low p = tt
keeps_fewer (suc few) zero (t ∷ tables) a b low p = absurd (omega (arith, low))
keeps_fewer (suc few) (suc many) (t ∷ tables) a b low p = (
  p.0,
  keeps_fewer few many tables a b (omega (arith, low))
      p.1,
)

keeps_later : (few : ℕ) (tables : List Table) (a b : Trees) → KeepsRows tables a b → KeepsRows (drop few tables) a b
keeps_later zero [] a b p = tt
keeps_later zero (t ∷ tables) a b p = p
keeps_later (suc few) [] a b p = tt
keeps_later (suc few) (t ∷ tables) a b p = keeps_later few tables a b p.1

empty_still : (tables : List Table) (a b : Trees) → KeepsRows tables a b → IsEmptyIn a tables → IsEmptyIn b tables
empty_still [] a b p e = tt
empty_still (t ∷ tables) a b p e = (p.0 ∙ e.0, empty_still tables a b p.1 e.1)

pub none_past : (P : Table → Type 0) (n : ℕ) (tables : List Table) → AllByRecursion P (drop n (take n tables))
none_past P zero [] = tt
none_past P zero (t ∷ tables) = tt
none_past P (suc n) [] = tt
none_past P (suc n) (t ∷ tables) = none_past P n tables

one_more : (P : Table → Type 0) (few n : ℕ) (tables : List Table) (t : Table) → slice_get tables n ≡ Some t → few ≤ n
    → AllByRecursion P (drop few (take n tables)) → P t → AllByRecursion P (drop few (take (suc n) tables))
one_more P few n [] t here low all p = cc
one_more P zero zero (x ∷ tables) t here low all p = let same : x ≡ t = cc in (subst P (sym same) p, tt)
one_more P (suc few) zero (x ∷ tables) t here low all p = absurd (omega (arith, low))
one_more P zero (suc n) (x ∷ tables) t here low all p = (
  all.0,
  from_first
      (one_more P zero n tables t here (omega arith) (to_first all.1) p),
)
  where
    from_first : AllByRecursion P (drop zero (take (suc n) tables)) → AllByRecursion P (take (suc n) tables)
    from_first h = h

    to_first : AllByRecursion P (take n tables) → AllByRecursion P (drop zero (take n tables))
    to_first h = h
one_more P (suc few) (suc n) (x ∷ tables) t here low all p = one_more P few n tables t here (omega (arith, low)) all p

module _ (old mid new : State) (early : HasCleanDisk new → HasCleanDisk mid) where
  -- A first effect still holds after a second one that does not touch its tables.
  pub and_then : (a b c : Schema) (many few fresh later : List Table)
      → ((x y : Trees) → KeepsRows many x y → KeepsRows few x y) → ChangesSchema a b many fresh old mid
      → ChangesSchema b c few later mid new → ChangesSchema a c few later old new
  and_then a b c many few fresh later narrow first second = record {
    shown = λ clean has.
        let p = first.shown (early clean) has in
        let q = second.shown clean p.0 in (
          q.0,
          keeps_then few old.now.trees mid.now.trees new.now.trees (narrow old.now.trees mid.now.trees p.1) q.1,
          q.2,
        );
    mode = λ clean. second.mode clean ∙ first.mode (early clean);
  }

  -- One more table is created.
  pub one_made : (before : Schema) (kept few n : ℕ) (t : Table) → slice_get office_schema.tables n ≡ Some t → few ≤ n
      → kept ≤ n
      → ChangesSchema before (first_tables n) (take kept office_schema.tables) (drop few (take n office_schema.tables))
      old mid
      → ChangesSchema (first_tables n) (first_tables (suc n)) (take n office_schema.tables) (t ∷ []) mid new
      → ChangesSchema before (first_tables (suc n)) (take kept office_schema.tables)
      (drop few (take (suc n) office_schema.tables)) old new
  one_made before kept few n t here low lower first second = record {
    shown = λ clean has.
        let p = first.shown (early clean) has in
        let q = second.shown clean p.0 in
        let tables = take n office_schema.tables in
        let still = empty_still (drop few tables) mid.now.trees new.now.trees
        (keeps_later few tables mid.now.trees new.now.trees q.1) p.2 in (
          q.0,
          keeps_then (take kept office_schema.tables) old.now.trees mid.now.trees new.now.trees p.1
              (keeps_fewer kept n office_schema.tables mid.now.trees new.now.trees lower q.1),
          one_more (λ x. new.now.trees x.tree ≡ []) few n office_schema.tables t here low still q.2.0,
        );
    mode = λ clean. second.mode clean ∙ first.mode (early clean);
  }

  -- A statement is refused or fails after others.
  pub cut_short : (a b : Schema) (kept fresh : List Table) → StaysInside old mid → StaysInside mid new
      → ChangesSchema a b kept fresh old mid → IsUndone mid new → IsIntact new
      → ChangesSchema a b kept fresh old new ⊎ RollsBack old new
  cut_short a b kept fresh before later first undone intact =
      elim (undone intact) [
        | inl same ↦ inl (record {
          shown = λ clean has.
              subst (λ (d : Database). (d.schema ≡ b) × KeepsRows kept old.now.trees d.trees × IsEmptyIn d.trees fresh)
              (sym same.0) (first.shown (early clean) has);
          mode = λ clean. same.1 ∙ first.mode (early clean);
        })
        | inr rolled ↦
            let was_open = (later.kept intact.0).was_open intact.1 in
            inr (rolled.0 ∙ (before.kept (early intact.0)).committed was_open, rolled.1)
      ]

-- A rollback goes back to the state before all of it.
pub rolled_before : (old mid new : State) → StaysInside old mid → StaysInside mid new → IsIntact new
    → RollsBack mid new → RollsBack old new
rolled_before old mid new before later intact rolled =
    let early : HasCleanDisk mid = omega (arith, intact.0, later.survives.clean) in
    (rolled.0 ∙ (before.kept early).committed ((later.kept intact.0).was_open intact.1), rolled.1)

-- The tables of a round were dropped, and one of them could not be created again.
pub made_too_few : (old mid new : State) → StaysInside old mid → StaysInside mid new → LeavesFirst Own 6 old mid
    → CreatesTooFew 6 mid new → MayLackTables old new
made_too_few old mid new before later lost few intact =
    let early : HasCleanDisk new → HasCleanDisk mid = λ clean. omega (arith, clean, later.survives.clean) in
    elim (few intact) [
      | inl some ↦ inl (inr (
        some.0,
        some.1,
        some.2,
        and_then old mid new early (first_tables 10) (first_tables 6)
            (first_tables some.0) (take 6 office_schema.tables) (take 6 office_schema.tables) _
            (drop 6 (take some.0 office_schema.tables)) (λ x y h. h) lost some.3,
      ))
      | inr rolled ↦ inr (rolled_before old mid new before later intact rolled)
    ]

-- Not all of them could be dropped.
pub dropped_too_few : (old new : State) → DropsTooFew Own 6 old new → MayLackTables old new
dropped_too_few old new few intact = elim (few intact) [ inl some ↦ inl (inl some) | inr rolled ↦ inr rolled ]

-- Nothing has been done yet.
pub schema_unchanged : (schema : Schema) (kept fresh : List Table) (state : State)
    → ((trees : Trees) → IsEmptyIn trees fresh) → ChangesSchema schema schema kept fresh state state
schema_unchanged schema kept fresh state none = record {
  shown = λ clean has. (has, keeps_same kept state.now.trees, none state.now.trees);
  mode = λ clean. refl;
}

-- ---- dropping one table after another

-- The remaining tables keep their rows when one goes.
keeps_one_fewer : (layout : Layout) (n : ℕ) (x y : Trees) → KeepsRows (tables_of layout (suc n)).tables x y
    → KeepsRows (tables_of layout n).tables x y
keeps_one_fewer layout n x y h = keeps_fewer n (suc n) (schema_in (order_of layout)).tables x y (omega arith) h

-- All tables of a layout are there before any is dropped.
pub whole_layout : (layout : Layout) (state : State) → LeavesFirst layout (table_count layout) state state
whole_layout layout state =
    schema_unchanged (schema_of layout) (schema_of layout).tables [] state (λ trees. tt)

below_ten : (P : ℕ → Type 0) → P 0 → P 1 → P 2 → P 3 → P 4 → P 5 → P 6 → P 7 → P 8 → P 9 → (i : ℕ) → i < 10 → P i
below_ten P a b c d e f g h i j zero low = a
below_ten P a b c d e f g h i j (suc zero) low = b
below_ten P a b c d e f g h i j (suc (suc zero)) low = c
below_ten P a b c d e f g h i j (suc (suc (suc zero))) low = d
below_ten P a b c d e f g h i j (suc (suc (suc (suc zero)))) low = e
below_ten P a b c d e f g h i j (suc (suc (suc (suc (suc zero))))) low = f
below_ten P a b c d e f g h i j (suc (suc (suc (suc (suc (suc zero)))))) low = g
below_ten P a b c d e f g h i j (suc (suc (suc (suc (suc (suc (suc zero))))))) low = h
below_ten P a b c d e f g h i j (suc (suc (suc (suc (suc (suc (suc (suc zero)))))))) low = i
below_ten P a b c d e f g h i j (suc (suc (suc (suc (suc (suc (suc (suc (suc zero))))))))) low = j
below_ten P a b c d e f g h i j (suc (suc (suc (suc (suc (suc (suc (suc (suc (suc n)))))))))) low = absurd (omega arith)

-- The statement drops the table at this place, if the tables before it are the only others.
abbrev Drops : Layout → ℕ → Type 0
Drops layout n =
    (t : Table) × IsDroppedBy (drop_text layout n) (tables_of layout (suc n)) (tables_of layout n) n t

own_drops : (n : ℕ) → n < 10 → 3 ≤ n → Drops Own n
own_drops = below_ten (λ n. 3 ≤ n → Drops Own n)
    (λ high. absurd (omega (arith, high))) (λ high. absurd (omega (arith, high))) (λ high. absurd (omega (arith, high)))
    (λ _. (_, own_move_dropped)) (λ _. (_, own_list_dropped)) (λ _. (_, own_grade_dropped))
    (λ _. (_, own_word_dropped)) (λ _. (_, own_result_dropped)) (λ _. (_, own_choice_dropped))
    (λ _. (_, own_going_dropped))

documented_drops : (n : ℕ) → n < 10 → 3 ≤ n → Drops Documented n
documented_drops = below_ten (λ n. 3 ≤ n → Drops Documented n)
    (λ high. absurd (omega (arith, high))) (λ high. absurd (omega (arith, high))) (λ high. absurd (omega (arith, high)))
    (λ _. (_, documented_choice_dropped)) (λ _. (_, documented_word_dropped)) (λ _. (_, documented_result_dropped))
    (λ _. (_, documented_move_dropped)) (λ _. (_, documented_list_dropped)) (λ _. (_, documented_grade_dropped))
    (λ _. (_, documented_going_dropped))

earlier_drops : (n : ℕ) → n < 10 → 3 ≤ n → n < 8 → Drops EarlierFirst n
earlier_drops = below_ten (λ n. 3 ≤ n → n < 8 → Drops EarlierFirst n)
    (λ high _. absurd (omega (arith, high))) (λ high _. absurd (omega (arith, high)))
    (λ high _. absurd (omega (arith, high)))
    (λ _ _. (_, earlier_move_dropped)) (λ _ _. (_, earlier_list_dropped)) (λ _ _. (_, earlier_word_dropped))
    (λ _ _. (_, earlier_result_dropped)) (λ _ _. (_, earlier_choice_dropped))
    (λ _ low. absurd (omega (arith, low))) (λ _ low. absurd (omega (arith, low)))

drops : (layout : Layout) (n : ℕ) → 3 ≤ n → n < table_count layout → Drops layout n
drops Own n high low = own_drops n low high
drops Documented n high low = documented_drops n low high
drops DocumentedSecond n high low = documented_drops n (omega (arith, low)) high
drops DocumentedFirst n high low = documented_drops n (omega (arith, low)) high
drops EarlierFirst n high low = earlier_drops n (omega (arith, low)) high low

module _ (old mid new : State) (early : HasCleanDisk new → HasCleanDisk mid) where
  -- There is one table less.
  pub one_fewer : (layout : Layout) (n : ℕ) → 3 ≤ n → n < table_count layout
      → (HasCleanDisk new → HasRun (drop_text layout n) [] mid new) → LeavesFirst layout (suc n) old mid
      → LeavesFirst layout n old new
  one_fewer layout n high low runs first =
      and_then old mid new early (schema_of layout) (tables_of layout (suc n)) (tables_of layout n)
      (tables_of layout (suc n)).tables (tables_of layout n).tables [] [] (keeps_one_fewer layout n) first
      (loses _ _ _ n _ (drops layout n high low).1 mid new runs)

-- ---- creating one table after another

module _ (old mid new : State) (early : HasCleanDisk new → HasCleanDisk mid) (before : Schema) (kept few : ℕ) where
  abbrev More : ℕ → Type 0
  More n =
      kept ≤ n → few ≤ n → (HasCleanDisk new → HasRun (schema.table_text n) [] mid new)
      → ChangesSchema before (first_tables n) (take kept office_schema.tables) (drop few (take n office_schema.tables))
      old mid
      → ChangesSchema before (first_tables (n + 1)) (take kept office_schema.tables)
      (drop few (take (n + 1) office_schema.tables)) old new

  more_by : (text : List ℕ) (n : ℕ) (declared t : Table) → slice_get office_schema.tables n ≡ Some t
      → record declared { tree = next_tree (first_tables n) } ≡ t
      → IsDeclaredBy text (first_tables n) (first_tables (suc n)) declared → kept ≤ n → few ≤ n
      → (HasCleanDisk new → HasRun text [] mid new)
      → ChangesSchema before (first_tables n) (take kept office_schema.tables) (drop few (take n office_schema.tables))
      old mid
      → ChangesSchema before (first_tables (suc n)) (take kept office_schema.tables)
      (drop few (take (suc n) office_schema.tables)) old new
  more_by text n declared t here is it lower low runs first =
      one_made old mid new early before kept few n t here low lower first
      (subst (λ x. ChangesSchema (first_tables n) (first_tables (suc n)) (take n office_schema.tables) (x ∷ []) mid
      new) is (gains text (first_tables n) (first_tables (suc n)) declared it mid new runs))

  -- There is one more table, without rows.
  pub one_more_made : (n : ℕ) → n < 10 → More n
  one_more_made = below_ten More
      (more_by _ 0 (schema.room 0) _ refl refl room_declared)
      (more_by _ 1 (schema.person 0) _ refl refl person_declared)
      (more_by _ 2 (schema.round 0) _ refl refl round_declared)
      (more_by _ 3 (schema.move 0) _ refl refl move_declared)
      (more_by _ 4 (schema.list 0) _ refl refl list_declared)
      (more_by _ 5 (schema.grade 0) _ refl refl grade_declared)
      (more_by _ 6 (schema.word 0) _ refl refl word_declared)
      (more_by _ 7 (schema.result 0) _ refl refl result_declared)
      (more_by _ 8 (schema.choice 0) _ refl refl choice_declared)
      (more_by _ 9 (schema.going_table 0) _ refl refl going_declared)

-- ---- all tables together

-- The first tables keep their rows, and the others have none.
module _ (first : ℕ) (old new : Trees) (same : KeepsRows (take first office_schema.tables) old new)
    (none : IsEmptyIn new (drop first office_schema.tables)) where
  kept : (name : TableName) → slice_get (take first office_schema.tables) (place_of name) ≡ Some (table_named name)
      → (xs : List (RecordOf name)) → HoldsRecords old name xs → HoldsRecords new name xs
  kept name here xs =
      stays (columns_of name) xs _ _
      (all-slice_get (λ (t : Table). new t.tree ≡ old t.tree) (take first office_schema.tables) (place_of name)
      (table_named name) here same)

  emptied : (name : TableName) (place : ℕ) → slice_get (drop first office_schema.tables) place ≡ Some (table_named name)
      → HoldsRecords new name []
  emptied name place here =
      stays (columns_of name) [] [] _
      (all-slice_get (λ (t : Table). new t.tree ≡ []) (drop first office_schema.tables) place (table_named name) here
      none)
      (none_held (columns_of name))

-- The tables of a round are there, without rows.
pub clears : (old new : State) → DeclaresFirst 10 10 6 old new → Makes old new edit.without_round_tables
unfolding edit.without_round_tables
clears old new change = record {
  shown = λ tables clean was.
      let all = change.shown clean was.schema in
      let still = kept 6 old.now.trees new.now.trees all.1 all.2 in
      let none = emptied 6 old.now.trees new.now.trees all.1 all.2 in
      record {
        schema = all.0;
        rows = record {
          rooms = still Rooms refl tables.rooms was.rows.rooms;
          people = still People refl tables.people was.rows.people;
          rounds = still Rounds refl tables.rounds was.rows.rounds;
          moves = still Moves refl tables.moves was.rows.moves;
          lists = still Lists refl tables.lists was.rows.lists;
          grades = still Grades refl tables.grades was.rows.grades;
          words = none Words 0 refl;
          results = none Results 1 refl;
          choices = none Choices 2 refl;
          going = none Going 3 refl;
        };
      };
  mode = change.mode;
}

-- The first three tables have the same places in every layout.
pub first_three : (layout : Layout) (old new : State) → LeavesFirst layout 3 old new
    → ChangesSchema (schema_of layout) (first_tables 3) (take 3 office_schema.tables) [] old new
first_three Own old new h = h
first_three Documented old new h = h
first_three DocumentedSecond old new h = h
first_three DocumentedFirst old new h = h
first_three EarlierFirst old new h = h

-- The tables after the first three are those that this program creates, and empty.
pub rebuilds : (layout : Layout) (old new : State)
    → ChangesSchema (schema_of layout) office_schema (take 3 office_schema.tables) (drop 3 office_schema.tables) old
    new → Rebuilds layout old new
rebuilds layout old new change = record {
  shown = λ tables clean was.
      let all = change.shown clean was.schema in
      let still = kept 3 old.now.trees new.now.trees all.1 all.2 in
      let none = emptied 3 old.now.trees new.now.trees all.1 all.2 in
      record {
        schema = all.0;
        rows = record {
          rooms = still Rooms refl tables.rooms was.rows.rooms;
          people = still People refl tables.people was.rows.people;
          rounds = still Rounds refl tables.rounds was.rows.rounds;
          moves = none Moves 0 refl;
          lists = none Lists 1 refl;
          grades = none Grades 2 refl;
          words = none Words 3 refl;
          results = none Results 4 refl;
          choices = none Choices 5 refl;
          going = none Going 6 refl;
        };
      };
  mode = change.mode;
}
