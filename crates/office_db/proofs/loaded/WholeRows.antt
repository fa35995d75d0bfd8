-- Rows that obey the schema of an office lack no column, if their last column is never NULL.
use Rattle.std.proofs.Common.{◌≡◌, ℕ, ◌<◌, ◌≤◌, ◌+◌, ◌-◌, Bool, true, not, ◌&&◌, List, [], ◌∷◌, ◌++◌, drop, length}
use Rattle.std.proofs.Common.{length-drop, slice_get, Option, Some, refl, sym, ap, ◌∙◌, subst, true≢false, inl, inr}
use Rattle.std.proofs.Common.{arith}
use Rattle.std.specs.List.{AllByRecursion}
use Rattle.std.proofs.lemmas.Bool.{and_parts, cases_lt}
use Rattle.std.proofs.lemmas.List.{get_or_past}
use Rattle.sqlite_value.specs.Order.{Row, column}
use Rattle.sqlite_value.specs.declared.value.Value.{Value}
use Rattle.sqlite_value.specs.declared.value.Value.TheVariants.{Null, Int, Real, Text, Blob}
use Rattle.sqlite_sql.specs.Ops.{is_null}
use Rattle.sqlite_schema.specs.declared.schema.Column.{Column}
use Rattle.sqlite_schema.specs.declared.schema.Constraint.TheVariants.{Datatype, NotNull}
use Rattle.sqlite_schema.specs.declared.schema.Schema.{Schema}
use Rattle.sqlite_schema.specs.declared.schema.Table.{Table}
use Rattle.sqlite_schema.specs.Rules.{Keeps, are_present, are_typed, has_computed}
use Rattle.sqlite_rules.proofs.RowLemmas.{untyped}
use Rattle.sqlite.specs.Effect.{Database, IsDatabase}
use Rattle.office_db.specs.loading.Finding.{AreWhole}
use Rattle.office_schema.specs.tables.FirstTables.{Begins}
use Rattle.office_db.specs.loading.Numbers.{HasWholeRows, IsLaidFirst, IsLaidOut, IsWhole}
use Rattle.office_db.proofs.found_offices.First.{begins_if_laid}
use Rattle.office_schema.specs.tables.Layouts.{schema_of}
use Rattle.office_schema.specs.tables.Schema.{room, person, round, choice, word, list, grade, going_table}
use Rattle.office_schema.specs.declared.tables.layouts.Layout.{Layout}
use Rattle.office_schema.specs.declared.tables.layouts.Layout.TheVariants.{Own, Documented, DocumentedSecond}
use Rattle.office_schema.specs.declared.tables.layouts.Layout.TheVariants.{DocumentedFirst, EarlierFirst}
use Rattle.sqlite_trees.proofs.ListLemmas.{all-slice_get}

-- A row has at most one cell for each column of its table and one for its rowid.
short : (key : Option ℕ) (cs : List Column) (row : Row) → are_typed key 0 cs (drop 1 row) ≡ true
    → length row ≤ length cs + 1
short key cs row typed =
    let cut : length (drop 1 row) ≡ length row - 1 = length-drop 1 row in
    elim (cases_lt (length cs) (length (drop 1 row))) [
      | inl long ↦ absurd (true≢false (sym typed ∙ untyped key 0 cs (drop 1 row) long))
      | inr low ↦ omega (arith, low, cut)
    ]

-- A cell that is not NULL is present.
long : (row : Row) (at : ℕ) → not (is_null (column row at)) ≡ true → at < length row
long row at there =
    elim (cases_lt at (length row)) [
      | inl low ↦ low
      | inr past ↦ absurd (true≢false (sym there ∙ ap (λ v. not (is_null v)) (get_or_past row at Null past)))
    ]

null_is : (v : Value) → is_null v ≡ true → v ≡ Null
null_is Null e = refl
null_is (Int n) e = absurd (true≢false (sym e))
null_is (Real x) e = absurd (true≢false (sym e))
null_is (Text t) e = absurd (true≢false (sym e))
null_is (Blob b) e = absurd (true≢false (sym e))

-- The row has a cell for each column and for its rowid, since the last column is not NULL.
whole : (key : Option ℕ) (cs : List Column) (row : Row) → are_typed key 0 cs (drop 1 row) ≡ true
    → not (is_null (column row (length cs))) ≡ true → IsWhole (length cs) row
whole key cs row typed there =
    let low = short key cs row typed in
    let high = long row (length cs) there in
    omega (arith, low, high)

-- where the rows pass the tests of types and of columns that are not NULL
all_whole : (table : Table) (rows : List Row)
    → ((row : Row) → are_present table.key 0 table.columns row ≡ true
    → not (is_null (column row (length table.columns))) ≡ true)
    → AllByRecursion (λ row. (are_typed table.key 0 table.columns (drop 1 row) && has_computed table row) ≡ true) rows
    → AllByRecursion (λ row. are_present table.key 0 table.columns row ≡ true) rows
    → AllByRecursion (IsWhole (length table.columns)) rows
all_whole table [] last typed present = tt
all_whole table (row ∷ rows) last typed present = (
  whole table.key table.columns row
      (and_parts (are_typed table.key 0 table.columns (drop 1 row)) (has_computed table row) typed.0).0
      (last row present.0),
  all_whole table rows last typed.1 present.1,
)

-- The first column is stored as the rowid, and its cell is NULL.
all_null : (rows : List Row)
    → AllByRecursion (λ row. (are_typed (Some 0) 0 (round 6).columns (drop 1 row) && has_computed (round 6) row) ≡ true)
    rows → AllByRecursion (λ row. column row 1 ≡ Null) rows
all_null [] typed = tt
all_null (row ∷ rows) typed = (
  null_first row
      (and_parts (are_typed (Some 0) 0 (round 6).columns (drop 1 row)) (has_computed (round 6) row) typed.0).0,
  all_null rows typed.1,
)
  where
    null_first : (r : Row) → are_typed (Some 0) 0 (round 6).columns (drop 1 r) ≡ true → column r 1 ≡ Null
    null_first [] t = refl
    null_first (id ∷ []) t = refl
    null_first (id ∷ v ∷ more) t =
        null_is v (and_parts (is_null v) (are_typed (Some 0) 1 (drop 1 (round 6).columns) more) t).0

both : (P Q : Row → Type 0) (rows : List Row) → AllByRecursion P rows → AllByRecursion Q rows
    → AllByRecursion (λ row. P row × Q row) rows
both P Q [] p q = tt
both P Q (row ∷ rows) p q = ((p.0, q.0), both P Q rows p.1 q.1)

last_of : (a b : Bool) → (a && (b && true)) ≡ true → b ≡ true
last_of a b e = (and_parts b true (and_parts a (b && true) e).1).0

-- ---- the tables whose last column is never NULL

module _ (db : Database) where
  abbrev Typed : Table → Type 0
  Typed table =
      AllByRecursion (λ row. (are_typed table.key 0 table.columns (drop 1 row) && has_computed table row) ≡ true)
      (db.trees table.tree)

  abbrev Present : Table → Type 0
  Present table = AllByRecursion (λ row. are_present table.key 0 table.columns row ≡ true) (db.trees table.tree)

  abbrev there : Row → ℕ → Bool
  there row at = not (is_null (column row at))

  whole_rooms : (tree : ℕ) → Typed (room tree) → Present (room tree) → AllByRecursion (IsWhole 2) (db.trees tree)
  whole_rooms tree typed present =
      all_whole (room tree) (db.trees tree) (λ row p. last_of (there row 1) (there row 2) p) typed present

  whole_people : (tree : ℕ) → Typed (person tree) → Present (person tree) → AllByRecursion (IsWhole 5) (db.trees tree)
  whole_people tree typed present =
      all_whole (person tree) (db.trees tree)
      (λ row p. last_of (there row 3) (there row 5)
      (and_parts (there row 2) (there row 3 && (there row 5 && true))
      (and_parts (there row 1) (there row 2 && (there row 3 && (there row 5 && true))) p).1).1) typed present

  whole_rounds : Typed (round 6) → Present (round 6)
      → AllByRecursion (λ row. IsWhole 4 row × (column row 1 ≡ Null)) (db.trees 6)
  whole_rounds typed present =
      both _ _ (db.trees 6)
      (all_whole (round 6) (db.trees 6)
      (λ row p. last_of (there row 3) (there row 4)
      (and_parts (there row 2) (there row 3 && (there row 4 && true)) p).1) typed present)
      (all_null (db.trees 6) typed)

  whole_choices : (tree : ℕ) → Typed (choice tree) → Present (choice tree) → AllByRecursion (IsWhole 3) (db.trees tree)
  whole_choices tree typed present =
      all_whole (choice tree) (db.trees tree)
      (λ row p. last_of (there row 2) (there row 3)
      (and_parts (there row 1) (there row 2 && (there row 3 && true)) p).1) typed present

  whole_words : (tree : ℕ) → Typed (word tree) → Present (word tree) → AllByRecursion (IsWhole 2) (db.trees tree)
  whole_words tree typed present =
      all_whole (word tree) (db.trees tree) (λ row p. last_of (there row 1) (there row 2) p) typed present

  whole_lists : (tree : ℕ) → Typed (list tree) → Present (list tree) → AllByRecursion (IsWhole 4) (db.trees tree)
  whole_lists tree typed present =
      all_whole (list tree) (db.trees tree)
      (λ row p. last_of (there row 3) (there row 4)
      (and_parts (there row 2) (there row 3 && (there row 4 && true))
      (and_parts (there row 1) (there row 2 && (there row 3 && (there row 4 && true))) p).1).1) typed present

  whole_grades : (tree : ℕ) → Typed (grade tree) → Present (grade tree) → AllByRecursion (IsWhole 2) (db.trees tree)
  whole_grades tree typed present =
      all_whole (grade tree) (db.trees tree) (λ row p. last_of (there row 1) (there row 2) p) typed present

  whole_going : (tree : ℕ) → Typed (going_table tree) → Present (going_table tree) → AllByRecursion (IsWhole 1) (db.trees tree)
  whole_going tree typed present =
      all_whole (going_table tree) (db.trees tree) (λ row p. (and_parts (there row 1) true p).0) typed present

-- The rows of each table of the layout have cells of the declared types.
typed_at : (layout : Layout) (db : Database) → IsDatabase db → (begins : Begins layout db.schema) (i : ℕ) (it : Table)
    → slice_get ((schema_of layout).tables ++ begins.tables) i ≡ Some it → Typed db it
typed_at layout db sound begins i it is =
    all-slice_get (Typed db) ((schema_of layout).tables ++ begins.tables) i it is
    (subst (λ (s : Schema). Keeps Datatype s db.trees) begins.is (sound.obeys.rules Datatype))

-- The rows of each table of the layout have a cell for each column that is not NULL.
present_at : (layout : Layout) (db : Database) → IsDatabase db → (begins : Begins layout db.schema) (i : ℕ) (it : Table)
    → slice_get ((schema_of layout).tables ++ begins.tables) i ≡ Some it → Present db it
present_at layout db sound begins i it is =
    all-slice_get (Present db) ((schema_of layout).tables ++ begins.tables) i it is
    (subst (λ (s : Schema). Keeps NotNull s db.trees) begins.is (sound.obeys.rules NotNull))

-- So it is for the rows of a database whose first tables are those of an office.
whole_if_sound : (layout : Layout) (db : Database) → IsDatabase db → Begins layout db.schema → AreWhole layout db.trees
    → HasWholeRows layout db.trees
whole_if_sound Own db sound begins wide =
    let typed = typed_at Own db sound begins in
    let present = present_at Own db sound begins in
    record {
      rooms = whole_rooms db 0 (typed 0 (room 0) refl) (present 0 (room 0) refl);
      people = whole_people db 2 (typed 1 (person 2) refl) (present 1 (person 2) refl);
      rounds = whole_rounds db (typed 2 (round 6) refl) (present 2 (round 6) refl);
      choices = whole_choices db 18 (typed 8 (choice 18) refl) (present 8 (choice 18) refl);
      words = whole_words db 13 (typed 6 (word 13) refl) (present 6 (word 13) refl);
      results = wide.results;
      moves = wide.moves;
      lists = whole_lists db 9 (typed 4 (list 9) refl) (present 4 (list 9) refl);
      grades = whole_grades db 11 (typed 5 (grade 11) refl) (present 5 (grade 11) refl);
      going = whole_going db 21 (typed 9 (going_table 21) refl) (present 9 (going_table 21) refl);
    }
whole_if_sound Documented db sound begins wide =
    let typed = typed_at Documented db sound begins in
    let present = present_at Documented db sound begins in
    record {
      rooms = whole_rooms db 0 (typed 0 (room 0) refl) (present 0 (room 0) refl);
      people = whole_people db 2 (typed 1 (person 2) refl) (present 1 (person 2) refl);
      rounds = whole_rounds db (typed 2 (round 6) refl) (present 2 (round 6) refl);
      choices = whole_choices db 7 (typed 3 (choice 7) refl) (present 3 (choice 7) refl);
      words = whole_words db 10 (typed 4 (word 10) refl) (present 4 (word 10) refl);
      results = wide.results;
      moves = wide.moves;
      lists = whole_lists db 17 (typed 7 (list 17) refl) (present 7 (list 17) refl);
      grades = whole_grades db 19 (typed 8 (grade 19) refl) (present 8 (grade 19) refl);
      going = whole_going db 21 (typed 9 (going_table 21) refl) (present 9 (going_table 21) refl);
    }
whole_if_sound DocumentedSecond db sound begins wide =
    let typed = typed_at DocumentedSecond db sound begins in
    let present = present_at DocumentedSecond db sound begins in
    record {
      rooms = whole_rooms db 0 (typed 0 (room 0) refl) (present 0 (room 0) refl);
      people = whole_people db 2 (typed 1 (person 2) refl) (present 1 (person 2) refl);
      rounds = whole_rounds db (typed 2 (round 6) refl) (present 2 (round 6) refl);
      choices = whole_choices db 7 (typed 3 (choice 7) refl) (present 3 (choice 7) refl);
      words = whole_words db 10 (typed 4 (word 10) refl) (present 4 (word 10) refl);
      results = wide.results;
      moves = wide.moves;
      lists = whole_lists db 17 (typed 7 (list 17) refl) (present 7 (list 17) refl);
      grades = whole_grades db 19 (typed 8 (grade 19) refl) (present 8 (grade 19) refl);
      going = tt;
    }
whole_if_sound DocumentedFirst db sound begins wide =
    let typed = typed_at DocumentedFirst db sound begins in
    let present = present_at DocumentedFirst db sound begins in
    record {
      rooms = whole_rooms db 0 (typed 0 (room 0) refl) (present 0 (room 0) refl);
      people = whole_people db 2 (typed 1 (person 2) refl) (present 1 (person 2) refl);
      rounds = whole_rounds db (typed 2 (round 6) refl) (present 2 (round 6) refl);
      choices = whole_choices db 7 (typed 3 (choice 7) refl) (present 3 (choice 7) refl);
      words = whole_words db 10 (typed 4 (word 10) refl) (present 4 (word 10) refl);
      results = wide.results;
      moves = wide.moves;
      lists = whole_lists db 17 (typed 7 (list 17) refl) (present 7 (list 17) refl);
      grades = tt;
      going = tt;
    }
whole_if_sound EarlierFirst db sound begins wide =
    let typed = typed_at EarlierFirst db sound begins in
    let present = present_at EarlierFirst db sound begins in
    record {
      rooms = whole_rooms db 0 (typed 0 (room 0) refl) (present 0 (room 0) refl);
      people = whole_people db 2 (typed 1 (person 2) refl) (present 1 (person 2) refl);
      rounds = whole_rounds db (typed 2 (round 6) refl) (present 2 (round 6) refl);
      choices = whole_choices db 16 (typed 7 (choice 16) refl) (present 7 (choice 16) refl);
      words = whole_words db 11 (typed 5 (word 11) refl) (present 5 (word 11) refl);
      results = wide.results;
      moves = wide.moves;
      lists = whole_lists db 9 (typed 4 (list 9) refl) (present 4 (list 9) refl);
      grades = tt;
      going = tt;
    }

pub laid_if_sound : (layout : Layout) (db : Database) → IsDatabase db → db.schema ≡ schema_of layout
    → AreWhole layout db.trees → IsLaidOut layout db
laid_if_sound layout db sound has wide = record {
  schema = has;
  rows = whole_if_sound layout db sound (begins_if_laid layout db.schema has) wide;
}

pub first_if_sound : (layout : Layout) (db : Database) → IsDatabase db → Begins layout db.schema
    → AreWhole layout db.trees → IsLaidFirst layout db
first_if_sound layout db sound begins wide =
    record { schema = begins; rows = whole_if_sound layout db sound begins wide }
