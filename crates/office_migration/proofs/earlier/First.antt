-- Tables of an earlier version with which a database begins.
use Rattle.std.proofs.Common.{◌≡◌, ◌++◌, ◌<◌, ◌≤◌, ℕ, nat_lt, true, false, List, [], ◌∷◌, Contains, drop, take, length}
use Rattle.std.proofs.Common.{slice_index_or, refl, sym, ap, ◌∙◌, subst, true≢false, inl, inr, arith}
use Rattle.std.specs.List.{AllByRecursion}
use Rattle.std.proofs.lemmas.Bool.{ltb-true}
use Rattle.std.proofs.lemmas.List.{get_or_append_left, length-append, take-append-drop}
use Rattle.sqlite_schema.specs.declared.schema.Index.{Index}
use Rattle.sqlite_schema.specs.declared.schema.Schema.{Schema}
use Rattle.sqlite_schema.specs.declared.schema.Table.{Table}
use Rattle.sqlite_schema.specs.Names.{same_name}
use Rattle.sqlite.specs.Effect.{Database}
use Rattle.office_state.specs.declared.office.Office.{Office}
use Rattle.office_schema.specs.tables.Layouts.{schema_of, table_count, version_of}
use Rattle.office_schema.specs.tables.Schema.{room, person, round, choice, word, result, move, list, grade, going_table}
use Rattle.office_schema.specs.tables.Layouts.{documented_schema}
use Rattle.office_schema.specs.declared.tables.layouts.Layout.{Layout}
use Rattle.office_schema.specs.declared.tables.layouts.Layout.TheVariants.{Own, Documented, DocumentedSecond}
use Rattle.office_schema.specs.declared.tables.layouts.Layout.TheVariants.{DocumentedFirst, EarlierFirst}
use Rattle.office_db.specs.loading.Finding.{Declares, DeclaresTables}
use Rattle.office_schema.specs.tables.FirstTables.{Begins, BeginsOffice, followed_by}
use Rattle.office_db.proofs.found_offices.First.{begins_if_laid}
use Rattle.office_db.proofs.found_offices.LayoutTests.{begins_tables, one_layout}
use Rattle.office_migration.specs.Causes.{HoldsEarlier, HoldsEarlierFirst}
use Rattle.office_migration.specs.Names.{uses_missing_name}
use Rattle.office_migration.specs.Versions.{IsEarlier}

followed_begins_office : (layout : Layout) (tables : List Table) (indexes : List Index)
    → BeginsOffice (followed_by layout tables indexes)
followed_begins_office Own tables indexes = record { tables = refl; views = refl }
followed_begins_office Documented tables indexes = record { tables = refl; views = refl }
followed_begins_office DocumentedSecond tables indexes = record { tables = refl; views = refl }
followed_begins_office DocumentedFirst tables indexes = record { tables = refl; views = refl }
followed_begins_office EarlierFirst tables indexes = record { tables = refl; views = refl }

pub layout_begins_office : (layout : Layout) (schema : Schema) → Begins layout schema → BeginsOffice schema
layout_begins_office layout schema begins =
    subst BeginsOffice (sym begins.is) (followed_begins_office layout begins.tables begins.indexes)

-- A database that holds exactly the tables of the layout begins with them.
pub first_if_holds : (layout : Layout) (db : Database) (office : Office) → HoldsEarlier layout db office
    → HoldsEarlierFirst layout db office
first_if_holds layout db office h =
    let begins = begins_if_laid layout db.schema h.rows.schema in
    record {
      earlier = h.earlier;
      lawful = h.lawful;
      well_formed = h.well_formed;
      kind = h.kind;
      first_tables = layout_begins_office layout db.schema begins;
      tables = begins_tables layout db.schema begins;
      rows = h.rows.rows;
    }

-- The converse, if the schema is exactly that of the layout.
pub holds_if_first : (layout : Layout) (db : Database) (office : Office) → db.schema ≡ schema_of layout
    → HoldsEarlierFirst layout db office → HoldsEarlier layout db office
holds_if_first layout db office has h = record {
  earlier = h.earlier;
  lawful = h.lawful;
  well_formed = h.well_formed;
  kind = h.kind;
  rows = record { schema = has; rows = h.rows };
}

same_count : (layout found : Layout) → IsEarlier (version_of found) → version_of layout ≡ version_of found
    → table_count found ≡ table_count layout
same_count layout Own (inl e) same = absurd (omega (arith, e))
same_count layout Own (inr e) same = absurd (omega (arith, e))
same_count layout Documented (inl e) same = absurd (omega (arith, e))
same_count layout Documented (inr e) same = absurd (omega (arith, e))
same_count Own DocumentedSecond e same = absurd (omega (arith, same))
same_count Documented DocumentedSecond e same = absurd (omega (arith, same))
same_count DocumentedSecond DocumentedSecond e same = refl
same_count DocumentedFirst DocumentedSecond e same = absurd (omega (arith, same))
same_count EarlierFirst DocumentedSecond e same = absurd (omega (arith, same))
same_count Own DocumentedFirst e same = absurd (omega (arith, same))
same_count Documented DocumentedFirst e same = absurd (omega (arith, same))
same_count DocumentedSecond DocumentedFirst e same = absurd (omega (arith, same))
same_count DocumentedFirst DocumentedFirst e same = refl
same_count EarlierFirst DocumentedFirst e same = refl
same_count Own EarlierFirst e same = absurd (omega (arith, same))
same_count Documented EarlierFirst e same = absurd (omega (arith, same))
same_count DocumentedSecond EarlierFirst e same = absurd (omega (arith, same))
same_count DocumentedFirst EarlierFirst e same = refl
same_count EarlierFirst EarlierFirst e same = refl

-- A layout of the same earlier version with whose tables the schema begins is this one.
pub one_first : (layout found : Layout) (schema : Schema) → IsEarlier (version_of found)
    → version_of layout ≡ version_of found → Begins found schema
    → take (table_count layout) schema.tables ≡ (schema_of layout).tables → found ≡ layout
one_first layout found schema is same begins tables =
    one_layout found layout
    (sym (begins_tables found schema begins)
    ∙ ap (λ n. take n schema.tables) (same_count layout found is same) ∙ tables)

-- ---- tables that are declared

there : (tables : List Table) (k : ℕ) (table : Table) → nat_lt k (length tables) ≡ true
    → slice_index_or tables k table ≡ table
    → Contains tables table
there tables k table below is = (k, ltb-true k (length tables) below, is)

own_declares : (layout : Layout) → DeclaresTables layout (schema_of layout)
own_declares Own =
    let at = there (schema_of Own).tables in (
      (0, at 0 (room 0) refl refl),
      (
        (2, at 1 (person 2) refl refl),
        (
          (6, at 2 (round 6) refl refl),
          (
            (18, at 8 (choice 18) refl refl),
            (
              (13, at 6 (word 13) refl refl),
              (
                (15, at 7 (result 15) refl refl),
                (
                  (7, at 3 (move 7) refl refl),
                  (
                    (9, at 4 (list 9) refl refl),
                    (
                      (11, at 5 (grade 11) refl refl),
                      ((21, at 9 (going_table 21) refl refl), tt),
                    ),
                  ),
                ),
              ),
            ),
          ),
        ),
      ),
    )
own_declares Documented =
    let at = there (schema_of Documented).tables in (
      (0, at 0 (room 0) refl refl),
      (
        (2, at 1 (person 2) refl refl),
        (
          (6, at 2 (round 6) refl refl),
          (
            (7, at 3 (choice 7) refl refl),
            (
              (10, at 4 (word 10) refl refl),
              (
                (12, at 5 (result 12) refl refl),
                (
                  (15, at 6 (move 15) refl refl),
                  (
                    (17, at 7 (list 17) refl refl),
                    (
                      (19, at 8 (grade 19) refl refl),
                      ((21, at 9 (going_table 21) refl refl), tt),
                    ),
                  ),
                ),
              ),
            ),
          ),
        ),
      ),
    )
own_declares DocumentedSecond =
    let at = there (schema_of DocumentedSecond).tables in (
      (0, at 0 (room 0) refl refl),
      (
        (2, at 1 (person 2) refl refl),
        (
          (6, at 2 (round 6) refl refl),
          (
            (7, at 3 (choice 7) refl refl),
            (
              (10, at 4 (word 10) refl refl),
              (
                (12, at 5 (result 12) refl refl),
                (
                  (15, at 6 (move 15) refl refl),
                  ((17, at 7 (list 17) refl refl), ((19, at 8 (grade 19) refl refl), tt)),
                ),
              ),
            ),
          ),
        ),
      ),
    )
own_declares DocumentedFirst =
    let at = there (schema_of DocumentedFirst).tables in (
      (0, at 0 (room 0) refl refl),
      (
        (2, at 1 (person 2) refl refl),
        (
          (6, at 2 (round 6) refl refl),
          (
            (7, at 3 (choice 7) refl refl),
            (
              (10, at 4 (word 10) refl refl),
              (
                (12, at 5 (result 12) refl refl),
                ((15, at 6 (move 15) refl refl), ((17, at 7 (list 17) refl refl), tt)),
              ),
            ),
          ),
        ),
      ),
    )
own_declares EarlierFirst =
    let at = there (schema_of EarlierFirst).tables in (
      (0, at 0 (room 0) refl refl),
      (
        (2, at 1 (person 2) refl refl),
        (
          (6, at 2 (round 6) refl refl),
          (
            (16, at 7 (choice 16) refl refl),
            (
              (11, at 5 (word 11) refl refl),
              (
                (13, at 6 (result 13) refl refl),
                ((7, at 3 (move 7) refl refl), ((9, at 4 (list 9) refl refl), tt)),
              ),
            ),
          ),
        ),
      ),
    )

-- What the first tables declare, all declare.
all_declare : (few all : Schema) → ((table : Table) → Contains few.tables table → Contains all.tables table)
    → (owns : List Table)
    → AllByRecursion (Declares few) owns → AllByRecursion (Declares all) owns
all_declare few all more [] h = tt
all_declare few all more (own ∷ owns) h =
    ((h.0.0, more (record own { tree = h.0.0 }) h.0.1), all_declare few all more owns h.1)

contains_more : (xs ys : List Table) (x : Table) → Contains xs x → Contains (xs ++ ys) x
contains_more xs ys x h =
    let below = h.1 in (
      h.0,
      omega (arith, below, length-append xs ys),
      get_or_append_left xs ys x h.0 below ∙ h.2,
    )

-- A schema that begins with the tables of the layout declares them.
pub declares_first : (layout : Layout) (schema : Schema)
    → take (table_count layout) schema.tables ≡ (schema_of layout).tables
    → DeclaresTables layout schema
declares_first layout schema tables =
    all_declare (schema_of layout) schema
    (λ table h. subst (λ (ts : List Table). Contains ts table)
    (ap (λ (ts : List Table). ts ++ drop (table_count layout) schema.tables) (sym tables)
    ∙ take-append-drop (table_count layout) schema.tables)
    (contains_more (schema_of layout).tables (drop (table_count layout) schema.tables) table h))
    (take (table_count layout) documented_schema.tables) (own_declares layout)

-- So does the schema of the layout itself.
pub declares_laid : (layout : Layout) (schema : Schema) → schema ≡ schema_of layout → DeclaresTables layout schema
declares_laid layout schema has = subst (DeclaresTables layout) (sym has) (own_declares layout)

-- The layouts of version 1 have the same tables, and version 2 has one layout.
pub of_version : (version : ℕ) (layout : Layout) (schema : Schema) → IsEarlier version → version_of layout ≡ version
    → DeclaresTables layout schema
    → (version < 2 → DeclaresTables DocumentedFirst schema) × (2 ≤ version → DeclaresTables DocumentedSecond schema)
of_version version Own schema (inl e) same h = absurd (omega (arith, e, same))
of_version version Own schema (inr e) same h = absurd (omega (arith, e, same))
of_version version Documented schema (inl e) same h = absurd (omega (arith, e, same))
of_version version Documented schema (inr e) same h = absurd (omega (arith, e, same))
of_version version DocumentedSecond schema is same h = (λ low. absurd (omega (arith, low, same)), λ high. h)
of_version version DocumentedFirst schema is same h = (λ low. h, λ high. absurd (omega (arith, high, same)))
of_version version EarlierFirst schema is same h = (λ low. h, λ high. absurd (omega (arith, high, same)))

pub declares_version : (version : ℕ) (layout : Layout) (schema : Schema) → IsEarlier version
    → version_of layout ≡ version
    → (version < 2 → DeclaresTables DocumentedFirst schema) → (2 ≤ version → DeclaresTables DocumentedSecond schema)
    → DeclaresTables layout schema
declares_version version Own schema (inl e) same first second = absurd (omega (arith, e, same))
declares_version version Own schema (inr e) same first second = absurd (omega (arith, e, same))
declares_version version Documented schema (inl e) same first second = absurd (omega (arith, e, same))
declares_version version Documented schema (inr e) same first second = absurd (omega (arith, e, same))
declares_version version DocumentedSecond schema is same first second = second (omega (arith, same))
declares_version version DocumentedFirst schema is same first second = first (omega (arith, same))
declares_version version EarlierFirst schema is same first second = first (omega (arith, same))

-- If no missing name is in use, a database that begins with the tables of a layout has exactly those.
pub first_is_laid : (layout other : Layout) → IsEarlier (version_of other)
    → uses_missing_name (version_of other) (schema_of layout) ≡ false
    → take (table_count other) (schema_of layout).tables ≡ (schema_of other).tables → other ≡ layout
unfolding same_name
first_is_laid layout Own (inl e) free tables = absurd (omega (arith, e))
first_is_laid layout Own (inr e) free tables = absurd (omega (arith, e))
first_is_laid layout Documented (inl e) free tables = absurd (omega (arith, e))
first_is_laid layout Documented (inr e) free tables = absurd (omega (arith, e))
first_is_laid Own DocumentedSecond e free tables = absurd (true≢false free)
first_is_laid Documented DocumentedSecond e free tables = absurd (true≢false free)
first_is_laid DocumentedSecond DocumentedSecond e free tables = refl
first_is_laid DocumentedFirst DocumentedSecond e free tables = absurd (omega (arith, ap length tables))
first_is_laid EarlierFirst DocumentedSecond e free tables = absurd (omega (arith, ap length tables))
first_is_laid Own DocumentedFirst e free tables = absurd (true≢false free)
first_is_laid Documented DocumentedFirst e free tables = absurd (true≢false free)
first_is_laid DocumentedSecond DocumentedFirst e free tables = absurd (true≢false free)
first_is_laid DocumentedFirst DocumentedFirst e free tables = refl
first_is_laid EarlierFirst DocumentedFirst e free tables =
    absurd (omega (arith, ap (λ (ts : List Table). length (slice_index_or ts 3 (room 0)).name) tables))
first_is_laid Own EarlierFirst e free tables = absurd (true≢false free)
first_is_laid Documented EarlierFirst e free tables = absurd (true≢false free)
first_is_laid DocumentedSecond EarlierFirst e free tables = absurd (true≢false free)
first_is_laid DocumentedFirst EarlierFirst e free tables =
    absurd (omega (arith, ap (λ (ts : List Table). length (slice_index_or ts 3 (room 0)).name) tables))
first_is_laid EarlierFirst EarlierFirst e free tables = refl
