-- Tests of the indexes of a schema.
use Rattle.std.specs.Prelude.{ℕ, Bool, true, ◌&&◌, ◌==◌, bytes_eq, List, length}
use Rattle.sqlite_value.specs.Keys.{plain}
use Rattle.sqlite_schema.specs.declared.schema.Index.{Index}
use Rattle.office_schema.specs.tables.Layouts.{schema_of}
use Rattle.office_schema.specs.declared.tables.layouts.Layout.{Layout}
use Rattle.office_db.specs.loading.Inner.Lists.{pass_all}

-- the unique index with this name and tree, on the table in this tree, over these columns
abbrev pub unique_index : List ℕ × ℕ × ℕ × List ℕ → Index
unique_index own = record {
  name = own.0;
  tree = own.1;
  table = own.2;
  columns = own.3;
  order = plain;
  is_unique = true;
}

abbrev pub is_this_index : Index → Index → Bool
is_this_index own index =
    bytes_eq index.name own.name && (index.tree == own.tree) && (index.table == own.table)
    && bytes_eq index.columns own.columns && (index.order.digits == own.order.digits)
    && own.is_unique && index.is_unique

-- The indexes are those of the layout's constraints.
abbrev pub has_indexes : Layout → List Index → Bool
has_indexes layout indexes = pass_all is_this_index (schema_of layout).indexes indexes

abbrev pub index_count : Layout → ℕ
index_count layout = length (schema_of layout).indexes
