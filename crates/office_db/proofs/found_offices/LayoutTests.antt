-- A schema that passes the tests of a layout is that of the layout.
use Rattle.std.proofs.Common.{◌≡◌, ℕ, Bool, true, ◌&&◌, ◌==◌, List, [], ◌∷◌, ◌++◌, drop, get_or, length, map, take, ◌+◌}
use Rattle.std.proofs.Common.{◌*◌, if◌then◌else◌, refl, sym, ap, ap₂, ◌∙◌, subst, true≢false, arith}
use Rattle.std.specs.Prelude.{bytes_eq, nat_le}
use Rattle.std.proofs.lemmas.List.{length-append, take-append-drop}
use Rattle.std.proofs.lemmas.Bool.{and_from, and_parts, eqb-true, le-leb}
use Rattle.std.proofs.lemmas.Slice.Eq.{bytes_eq-Decides}
use Rattle.sqlite_schema.specs.declared.schema.Index.{Index}
use Rattle.sqlite_schema.specs.declared.schema.Schema.{Schema}
use Rattle.sqlite_schema.specs.declared.schema.Table.{Table}
use Rattle.sqlite_schema.specs.declared.schema.View.{View}
use Rattle.sqlite_schema.specs.Names.{same_name}
use Rattle.office_db.specs.loading.Finding.{names_round}
use Rattle.office_schema.specs.tables.FirstTables.{Begins, BeginsOffice, followed_by}
use Rattle.office_db.specs.loading.Inner.Indexes.{has_indexes, index_count, is_this_index}
use Rattle.office_db.specs.loading.Inner.Lists.{pass_all}
use Rattle.office_schema.specs.tables.Layouts.{schema_of, table_count}
use Rattle.office_schema.specs.tables.Schema.{room, person, round}
use Rattle.office_schema.specs.declared.tables.layouts.Layout.{Layout}
use Rattle.office_schema.specs.declared.tables.layouts.Layout.TheVariants.{Own, Documented, DocumentedSecond}
use Rattle.office_schema.specs.declared.tables.layouts.Layout.TheVariants.{DocumentedFirst, EarlierFirst}

-- ---- indexes

text_is : (a b : List ℕ) → bytes_eq a b ≡ true → a ≡ b
text_is a b e = (bytes_eq-Decides a b).0 e

index_is : (own index : Index) → is_this_index own index ≡ true → index ≡ own
index_is own index same =
    let six = and_parts _ index.is_unique same in
    let five = and_parts _ own.is_unique six.0 in
    let four = and_parts _ (index.order.digits == own.order.digits) five.0 in
    let three = and_parts _ (bytes_eq index.columns own.columns) four.0 in
    let two = and_parts _ (index.table == own.table) three.0 in
    let one = and_parts (bytes_eq index.name own.name) (index.tree == own.tree) two.0 in
    ap (λ (n : List ℕ). record index { name = n }) (text_is _ _ one.0)
    ∙ ap (λ (n : ℕ). record index { name = own.name; tree = n }) (eqb-true _ _ one.1)
    ∙ ap (λ (n : ℕ). record index { name = own.name; tree = own.tree; table = n }) (eqb-true _ _ two.1)
    ∙ ap (λ (l : List ℕ). record own { columns = l; order = index.order; is_unique = index.is_unique })
    (text_is _ _ three.1)
    ∙ ap (λ (n : ℕ). record own { order = record { digits = n }; is_unique = index.is_unique }) (eqb-true _ _ four.1)
    ∙ ap (λ (b : Bool). record own { is_unique = b }) (six.1 ∙ sym five.1)

indexes_are : (owns indexes : List Index) → pass_all is_this_index owns indexes ≡ true → indexes ≡ owns
indexes_are [] [] pass = refl
indexes_are [] (index ∷ indexes) pass = absurd (true≢false (sym pass))
indexes_are (own ∷ owns) [] pass = absurd (true≢false (sym pass))
indexes_are (own ∷ owns) (index ∷ indexes) pass =
    let parts = and_parts (is_this_index own index) (pass_all is_this_index owns indexes) pass in
    ap₂ (λ i is. i ∷ is) (index_is own index parts.0) (indexes_are owns indexes parts.1)

own_indexes : (layout : Layout) → has_indexes layout (schema_of layout).indexes ≡ true
own_indexes Own = refl
own_indexes Documented = refl
own_indexes DocumentedSecond = refl
own_indexes DocumentedFirst = refl
own_indexes EarlierFirst = refl

-- ---- schemas

-- A list of length 0 is empty.
none_if : {A : Type 0} (xs : List A) → (length xs == 0) ≡ true → xs ≡ []
none_if [] e = refl
none_if (x ∷ xs) e = absurd (omega (arith, eqb-true (length (x ∷ xs)) 0 e))

module _ (layout : Layout) (schema : Schema) where
  -- The schema is that of the layout if its tables, its indexes and its views are.
  pub schema_is : (length schema.views == 0) ≡ true → schema.tables ≡ (schema_of layout).tables
      → has_indexes layout schema.indexes ≡ true → schema ≡ schema_of layout
  schema_is views tables indexes =
      let own = schema_of layout in
      ap (λ (ts : List Table). record schema { tables = ts }) tables
      ∙ ap (λ (is : List Index). record schema { tables = own.tables; indexes = is })
      (indexes_are own.indexes schema.indexes indexes)
      ∙ ap (λ (vs : List View). record own { views = vs }) (none_if schema.views views)

  module _ (has : schema ≡ schema_of layout) where
    pub has_no_views : (length schema.views == 0) ≡ true
    has_no_views = ap (λ (s : Schema). length s.views == 0) has

    pub has_own_indexes : has_indexes layout schema.indexes ≡ true
    has_own_indexes = ap (λ (s : Schema). has_indexes layout s.indexes) has ∙ own_indexes layout

-- A number that tells the tables of the layouts apart: how many there are, and the tree of the fifth.
mark : List Table → ℕ
mark tables = 100 * length tables + get_or (map (λ (t : Table). t.tree) tables) 4 0

layout_at : ℕ → Layout
layout_at n =
    if n == 1009 then Own
    else if n == 1010 then Documented
    else if n == 910 then DocumentedSecond
    else if n == 810 then DocumentedFirst
    else EarlierFirst

layout_back : (layout : Layout) → layout_at (mark (schema_of layout).tables) ≡ layout
unfolding layout_at mark
layout_back Own = refl
layout_back Documented = refl
layout_back DocumentedSecond = refl
layout_back DocumentedFirst = refl
layout_back EarlierFirst = refl

-- Two layouts with the same tables are equal.
pub one_layout : (a b : Layout) → (schema_of a).tables ≡ (schema_of b).tables → a ≡ b
one_layout a b e = sym (layout_back a) ∙ ap (λ ts. layout_at (mark ts)) e ∙ layout_back b

-- ---- the first three tables

pub begins_if : (schema : Schema) → (length schema.views == 0) ≡ true
    → take 3 schema.tables ≡ room 0 ∷ person 2 ∷ round 6 ∷ []
    → BeginsOffice schema
begins_if schema views tables = record { tables = tables; views = none_if schema.views views }

-- Something has the name of table `round`.
pub office_names_round : (schema : Schema) → BeginsOffice schema → names_round schema ≡ true
unfolding same_name
office_names_round schema front =
    let tables : room 0 ∷ person 2 ∷ round 6 ∷ drop 3 schema.tables ≡ schema.tables =
    ap (λ (ts : List Table). ts ++ drop 3 schema.tables) (sym front.tables) ∙ take-append-drop 3 schema.tables in
    subst (λ (ts : List Table). names_round (record schema { tables = ts }) ≡ true) tables refl

-- ---- the first tables of a layout

module _ (layout : Layout) (schema : Schema) where
  abbrev enough : Bool
  enough = nat_le (index_count layout) (length schema.indexes)

  abbrev own_first : Bool
  own_first = has_indexes layout (take (index_count layout) schema.indexes)

  -- A schema that passes the tests begins with the layout.
  pub begins_with_layout : (length schema.views == 0) ≡ true
      → take (table_count layout) schema.tables ≡ (schema_of layout).tables
      → (enough && own_first) ≡ true → Begins layout schema
  begins_with_layout views tables indexes =
      let own = schema_of layout in
      let count = table_count layout in
      let many = index_count layout in
      let same = indexes_are own.indexes (take many schema.indexes) (and_parts enough own_first indexes).1 in
      record {
        tables = drop count schema.tables;
        indexes = drop many schema.indexes;
        is = ap (λ (ts : List Table). record schema { tables = ts })
            (sym (take-append-drop count schema.tables)
            ∙ ap (λ (ts : List Table). ts ++ drop count schema.tables) tables)
            ∙ ap (λ (is : List Index). record schema { tables = own.tables ++ drop count schema.tables; indexes = is })
            (sym (take-append-drop many schema.indexes) ∙ ap (λ (is : List Index). is ++ drop many schema.indexes) same)
            ∙ ap (λ (vs : List View). record {
              tables = own.tables ++ drop count schema.tables;
              indexes = own.indexes ++ drop many schema.indexes;
              views = vs;
            })
            (none_if schema.views views);
      }

tables_followed : (layout : Layout) (tables : List Table) (indexes : List Index)
    → take (table_count layout) (followed_by layout tables indexes).tables ≡ (schema_of layout).tables
tables_followed Own tables indexes = refl
tables_followed Documented tables indexes = refl
tables_followed DocumentedSecond tables indexes = refl
tables_followed DocumentedFirst tables indexes = refl
tables_followed EarlierFirst tables indexes = refl

enough_followed : {A : Type 0} (xs ys : List A) → nat_le (length xs) (length (xs ++ ys)) ≡ true
enough_followed xs ys = le-leb (length xs) (length (xs ++ ys)) (omega (arith, length-append xs ys))

indexes_followed : (layout : Layout) (indexes : List Index)
    → has_indexes layout (take (index_count layout) ((schema_of layout).indexes ++ indexes)) ≡ true
indexes_followed Own indexes = refl
indexes_followed Documented indexes = refl
indexes_followed DocumentedSecond indexes = refl
indexes_followed DocumentedFirst indexes = refl
indexes_followed EarlierFirst indexes = refl

-- A schema that begins with the layout passes the tests.
module _ (layout : Layout) (schema : Schema) (begins : Begins layout schema) where
  pub begins_views : (length schema.views == 0) ≡ true
  begins_views = ap (λ (s : Schema). length s.views == 0) begins.is

  pub begins_tables : take (table_count layout) schema.tables ≡ (schema_of layout).tables
  begins_tables =
      subst (λ (s : Schema). take (table_count layout) s.tables ≡ (schema_of layout).tables) (sym begins.is)
      (tables_followed layout begins.tables begins.indexes)

  pub begins_indexes : (nat_le (index_count layout) (length schema.indexes) && has_indexes layout
      (take (index_count layout) schema.indexes)) ≡ true
  begins_indexes =
      subst (λ (s : Schema).
      (nat_le (index_count layout) (length s.indexes) && has_indexes layout
      (take (index_count layout) s.indexes)) ≡ true)
      (sym begins.is) (and_from _ _ (enough_followed (schema_of layout).indexes begins.indexes)
      (indexes_followed layout begins.indexes))
