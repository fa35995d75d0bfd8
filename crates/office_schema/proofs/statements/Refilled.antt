-- Tables that are filled again row by row.
use Rattle.std.proofs.Common.{◌≡◌, ◌+◌, ◌<◌, ℕ, List, [], ◌∷◌, ◌++◌, length, drop, get_or, append-nil, refl, ap, sym}
use Rattle.std.proofs.Common.{◌∙◌, subst}
use Rattle.std.proofs.lemmas.List.{drop_more}
use Rattle.std.specs.List.Sorted.{IsPermutation}
use Rattle.std.proofs.lemmas.List.Sorted.{IsPermutation-refl, IsPermutation-sym, IsPermutation-trans}
use Rattle.std.proofs.lemmas.List.Sorted.{IsPermutation-middle}
use Rattle.sqlite.specs.Effect.{Database}
use Rattle.sqlite.specs.State.{State, HasCleanDisk}
use Rattle.office_schema.specs.rows.Tables.{Tables, own_version}
use Rattle.office_schema.specs.declared.rows.records.OfficeRecords.{OfficeRecords}
use Rattle.office_schema.specs.declared.tables.names.TableName.{TableName}
use Rattle.office_schema.specs.tables.ByName.{RecordOf, records_of, with_records, columns_of}
use Rattle.office_schema.specs.declared.tables.names.TableName.TheVariants.{Moves, Lists, Grades, Choices, Words}
use Rattle.office_schema.specs.declared.tables.names.TableName.TheVariants.{Results, Going}
use Rattle.office_schema.specs.tables.Inner.Declaring.{Rebuilds}
use Rattle.office_schema.specs.tables.Edits as edit
use Rattle.office_schema.specs.tables.Makes.{Makes}
use Rattle.office_schema.specs.tables.Refilling.{Migrates, with_all}
use Rattle.office_schema.specs.tables.Tables.{HasTables}
use Rattle.office_schema.specs.declared.tables.layouts.Layout.{Layout}
use Rattle.office_schema.proofs.statements.ByName.{each_name, records_put, records_kept, records_replaced}
use Rattle.office_schema.proofs.statements.Held.{held_permuted}
use Rattle.office_schema.proofs.statements.OneTable.{held_of, all_held}

-- the item at an index, and the items after it
pub next_of : {X : Type 0} (xs : List X) (i : ℕ) (x : X) → i < length xs → x ≡ get_or xs i x
    → drop i xs ≡ x ∷ drop (i + 1) xs
next_of xs i x low is = drop_more xs i x low ∙ ap (λ y. y ∷ drop (i + 1) xs) (sym is)

-- A row may go before those that are to come and those that are there.
one_before : {X : Type 0} (r : X) (rows there xs : List X) → IsPermutation (rows ++ r ∷ there) xs
    → IsPermutation (r ∷ rows ++ there) xs
one_before r rows there xs same =
    IsPermutation-trans _ _ _ (IsPermutation-sym _ _ (IsPermutation-middle rows r there)) same

-- If each row is put before the others of its table, all are there at the end, in some order, and no other table
-- changes.
module _ (name : TableName) (with_row : RecordOf name → Tables → Tables)
    (put : (r : RecordOf name) (tables : Tables) → with_row r tables ≡ with_records tables name
    (r ∷ records_of tables name)) where
  all_put : (rows : List (RecordOf name)) (tables : Tables) → (xs : List (RecordOf name))
      × (with_all with_row rows tables ≡ with_records tables name xs)
      × IsPermutation (rows ++ records_of tables name) xs
  all_put [] tables = let xs = records_of tables name in (xs, sym (records_kept name tables), IsPermutation-refl xs)
  all_put (r ∷ rows) tables =
      let xs = records_of tables name in
      let more = all_put rows (with_row r tables) in
      let there : records_of (with_row r tables) name ≡ r ∷ xs = ap (λ t. records_of t name) (put r tables)
      ∙ records_put name tables (r ∷ xs) in (
        more.0,
        more.1 ∙ ap (λ t. with_records t name more.0) (put r tables) ∙ records_replaced name tables (r ∷ xs) more.0,
        one_before r rows xs more.0 (subst (λ l. IsPermutation (rows ++ l) more.0) there more.2),
      )

  -- In a table that was empty, the rows that were to come are there.
  refilled : {old new : State} (rows was : List (RecordOf name)) (tables : Tables)
      → Makes old new (with_all with_row rows)
      → HasCleanDisk new → records_of tables name ≡ [] → IsPermutation was rows → HasTables old.now tables
      → (xs : List (RecordOf name)) × HasTables new.now (with_records tables name xs) × IsPermutation was xs
  refilled {old} {new} rows was tables makes clean none to_come has =
      let all = all_put rows tables in
      let after_none = subst (λ l. IsPermutation (rows ++ l) all.0) none all.2 in
      let put_in : IsPermutation rows all.0 = subst (λ l. IsPermutation l all.0) (append-nil rows) after_none in
      (all.0, subst (HasTables new.now) all.1 (makes.shown tables clean has), IsPermutation-trans _ _ _ to_come put_in)

-- Each table may have its rows in another order.
has_permuted : (db : Database) (tables others : Tables)
    → ((n : TableName) → IsPermutation (records_of tables n) (records_of others n)) → HasTables db others
    → HasTables db tables
has_permuted db tables others same has = record {
  schema = has.schema;
  rows = all_held db.trees tables
      (λ n. held_permuted (columns_of n) _ _ (records_of tables n) (same n) (held_of db.trees others has.rows n));
}

-- The tables are created again, filled again, and marked with the version that this program creates.
pub migrates : (layout : Layout) (records : OfficeRecords) (old s0 s1 s2 s3 s4 s5 s6 s7 new : State)
    → (HasCleanDisk s1 → HasCleanDisk s0) → (HasCleanDisk s2 → HasCleanDisk s1) → (HasCleanDisk s3 → HasCleanDisk s2)
    → (HasCleanDisk s4 → HasCleanDisk s3)
    → (HasCleanDisk s5 → HasCleanDisk s4) → (HasCleanDisk s6 → HasCleanDisk s5) → (HasCleanDisk s7 → HasCleanDisk s6)
    → (HasCleanDisk new → HasCleanDisk s7)
    → Rebuilds layout old s0 → Makes s0 s1 (with_all edit.with_move records.moves.items)
    → Makes s1 s2 (with_all (λ r. edit.with_import r.0 r.1) records.lists.items)
    → Makes s2 s3 (with_all (λ r. edit.with_grade r.0 r.1) records.grades.items)
    → Makes s3 s4 (with_all (λ r. edit.with_choice r.person r.place r.room) records.choices.items)
    → Makes s4 s5 (with_all (λ r. edit.with_word r.0 r.1) records.words.items)
    → Makes s5 s6 (with_all (λ r. edit.with_result r.0 r.1.room) records.results.items)
    → Makes s6 s7 (with_all edit.with_going records.going.items) → Makes s7 new (edit.with_version own_version)
    → Migrates layout records old new
unfolding edit.with_move edit.with_import edit.with_grade edit.with_choice edit.with_word edit.with_result
    edit.with_going
migrates layout records old s0 s1 s2 s3 s4 s5 s6 s7 new e1 e2 e3 e4 e5 e6 e7 e8 rebuilds m1 m2 m3 m4 m5 m6 m7 m8 =
    record {
      shown = λ tables clean was are.
          let c7 = e8 clean in
          let c6 = e7 c7 in
          let c5 = e6 c6 in
          let c4 = e5 c5 in
          let c3 = e4 c4 in
          let c2 = e3 c3 in
          let c1 = e2 c2 in
          let t0 : Tables =
          record tables { choices = []; words = []; results = []; moves = []; lists = []; grades = []; going = [] } in
          let x1 = refilled Moves edit.with_move (λ r t. refl) records.moves.items tables.moves t0 m1 c1 refl are.moves
          (rebuilds.shown tables (e1 c1) was) in
          let t1 : Tables = record t0 { moves = x1.0 } in
          let x2 = refilled Lists (λ r. edit.with_import r.0 r.1) (λ r t. refl) records.lists.items
          tables.lists t1 m2 c2
          refl are.lists x1.1 in
          let t2 : Tables = record t1 { lists = x2.0 } in
          let x3 = refilled Grades (λ r. edit.with_grade r.0 r.1) (λ r t. refl) records.grades.items
          tables.grades t2 m3 c3
          refl are.grades x2.1 in
          let t3 : Tables = record t2 { grades = x3.0 } in
          let x4 = refilled Choices (λ r. edit.with_choice r.person r.place r.room) (λ r t. refl) records.choices.items
          tables.choices t3 m4 c4 refl are.choices x3.1 in
          let t4 : Tables = record t3 { choices = x4.0 } in
          let x5 = refilled Words (λ r. edit.with_word r.0 r.1) (λ r t. refl) records.words.items tables.words
          t4 m5 c5 refl
          are.words x4.1 in
          let t5 : Tables = record t4 { words = x5.0 } in
          let x6 = refilled Results (λ r. edit.with_result r.0 r.1.room) (λ r t. refl) records.results.items
          tables.results
          t5 m6 c6 refl are.results x5.1 in
          let t6 : Tables = record t5 { results = x6.0 } in
          let x7 = refilled Going edit.with_going (λ r t. refl) records.going.items tables.going t6 m7 c7 refl
          are.going x6.1 in
          let t7 : Tables = record t6 { going = x7.0 } in
          let same = each_name (λ n. IsPermutation (records_of tables n) (records_of t7 n))
          (IsPermutation-refl tables.rooms) (IsPermutation-refl tables.people) (IsPermutation-refl tables.rounds)
          x4.2 x5.2 x6.2 x1.2 x2.2 x3.2 x7.2 in
          m8.shown tables clean (has_permuted s7.now tables t7 same x7.1);
      mode = λ clean.
          let c7 = e8 clean in
          let c6 = e7 c7 in
          let c5 = e6 c6 in
          let c4 = e5 c5 in
          let c3 = e4 c4 in
          let c2 = e3 c3 in
          let c1 = e2 c2 in
          m8.mode clean ∙ m7.mode c7 ∙ m6.mode c6 ∙ m5.mode c5 ∙ m4.mode c4 ∙ m3.mode c3 ∙ m2.mode c2 ∙ m1.mode c1
          ∙ rebuilds.mode (e1 c1);
    }
