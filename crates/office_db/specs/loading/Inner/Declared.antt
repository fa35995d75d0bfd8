-- The declarations of an office's tables, and tests of the parts of a declaration.
use Rattle.std.specs.Prelude.{ℕ, Bool, true, false, not, ◌&&◌, ◌==◌, bytes_eq, List, [], ◌∷◌, Contains, length, map}
use Rattle.std.specs.Prelude.{Option, Some, None}
use Rattle.sqlite_value.specs.declared.keys.Collation.{Collation}
use Rattle.sqlite_value.specs.declared.keys.Collation.TheVariants.{Binary, NoCase, RTrim}
use Rattle.sqlite_value.specs.declared.keys.Order.{Order}
use Rattle.sqlite_value.specs.declared.value.Value.{Value}
use Rattle.sqlite_value.specs.declared.value.Value.TheVariants.{Null, Int, Real, Text, Blob}
use Rattle.sqlite_sql.specs.Term.{Term}
use Rattle.sqlite_schema.specs.declared.schema.Action.{Action}
use Rattle.sqlite_schema.specs.declared.schema.Action.TheVariants as action
use Rattle.sqlite_schema.specs.declared.schema.Column.{Column}
use Rattle.sqlite_schema.specs.declared.schema.Kind.{Kind}
use Rattle.sqlite_schema.specs.declared.schema.Kind.TheVariants as kind
use Rattle.sqlite_schema.specs.declared.schema.Reference.{Reference}
use Rattle.sqlite_schema.specs.declared.schema.Stamps.{Stamps}
use Rattle.sqlite_schema.specs.declared.schema.Table.{Table}
use Rattle.office_schema.specs.tables.Schema.{equals, is_digit, is_flag, office_table, refers_to, table_of}
use Rattle.office_schema.specs.declared.tables.names.TableName.{TableName}
use Rattle.office_db.specs.declared.loading.declared.forms.Checks.{Checks}
use Rattle.office_db.specs.declared.loading.declared.forms.Checks.TheVariants.{Free, Flag, Digit, One}
use Rattle.office_db.specs.declared.loading.declared.forms.Form.{Form}
use Rattle.office_db.specs.loading.Inner.Lists.{pass_all}

-- This table of an office is among the tables, in whatever tree.
abbrev pub IsAmong : List Table → TableName → Type 0
IsAmong tables own = (tree : ℕ) × Contains tables (office_table own tree)

-- ---- the table of a form

abbrev pub column_of : List ℕ × Kind × Bool → Column
column_of own = record {
  name = own.0;
  kind = own.1;
  is_strict = true;
  not_null = own.2;
  default = Null;
  collation = Binary;
}

abbrev pub reference_of : List ℕ × List ℕ × ℕ → Reference
reference_of own = refers_to own.0 own.1 own.2

abbrev pub checks_of : Checks → List Term
checks_of Free = []
checks_of (Flag place) = is_flag place ∷ []
checks_of (Digit place) = is_digit place ∷ []
checks_of One = equals 0 1 ∷ []

-- the table of the form, in this tree
abbrev pub table_in : Form → ℕ → Table
table_in own tree =
    table_of own.name.now tree (map column_of (map (λ o. (o.0.now, o.1, o.2)) own.columns.now)) own.key own.primary.now
    (map (λ o. o.now) own.uniques.now) (checks_of own.checks)
    (map reference_of (map (λ o. (o.0.now, o.1.now, o.2)) own.references.now))

-- ---- the tests

abbrev pub kind_code : Kind → ℕ
kind_code kind.Integer = 0
kind_code kind.Real = 1
kind_code kind.Text = 2
kind_code kind.Blob = 3
kind_code kind.Any = 4

abbrev pub is_null : Value → Bool
is_null Null = true
is_null (Int n) = false
is_null (Real x) = false
is_null (Text text) = false
is_null (Blob blob) = false

abbrev pub is_binary : Collation → Bool
is_binary Binary = true
is_binary NoCase = false
is_binary RTrim = false

abbrev pub takes_no_action : Action → Bool
takes_no_action action.NoAction = true
takes_no_action action.Restrict = false
takes_no_action action.Cascade = false
takes_no_action action.SetNull = false
takes_no_action action.SetDefault = false

abbrev pub same_bool : Bool → Bool → Bool
same_bool true b = b
same_bool false b = not b

abbrev pub same_key : Option ℕ → Option ℕ → Bool
same_key None None = true
same_key None (Some at) = false
same_key (Some own) None = false
same_key (Some own) (Some at) = at == own

abbrev pub is_column : List ℕ × Kind × Bool → Column → Bool
is_column own column =
    bytes_eq column.name own.0 && (kind_code column.kind == kind_code own.1) && column.is_strict
    && same_bool own.2 column.not_null && is_null column.default && is_binary column.collation

abbrev pub are_places : List ℕ → List ℕ → Bool
are_places own places = bytes_eq places own

abbrev pub is_plain : List ℕ → Order → Bool
is_plain own order = order.digits == 0

-- the only place in the list is this one
abbrev pub is_only_place : ℕ → List ℕ → Bool
is_only_place own [] = false
is_only_place own (place ∷ []) = place == own
is_only_place own (place ∷ more ∷ places) = false

-- the only name in the list is this one
abbrev pub is_only_name : List ℕ → List (List ℕ) → Bool
is_only_name own [] = false
is_only_name own (name ∷ []) = bytes_eq name own
is_only_name own (name ∷ more ∷ names) = false

abbrev pub is_reference : List ℕ × List ℕ × ℕ → Reference → Bool
is_reference own reference =
    bytes_eq reference.parent own.0 && is_only_name own.1 reference.parent_columns
    && is_only_place own.2 reference.columns && takes_no_action reference.on_delete
    && takes_no_action reference.on_update && not reference.is_deferred

abbrev pub is_unstamped : Stamps → Bool
is_unstamped stamps = (length stamps.places == 0) && (length stamps.terms == 0) && (length stamps.formats == 0)

-- The table has the names, the columns and the keys of the form.
abbrev pub has_columns : Form → Table → Bool
has_columns own table =
    bytes_eq table.name own.name.now
    && pass_all is_column (map (λ o. (o.0.now, o.1, o.2)) own.columns.now) table.columns
    && same_key own.key table.key && bytes_eq table.primary own.primary.now

-- The table has the unique keys and the references of the form, and nothing that an office's table lacks.
abbrev pub has_rules : Form → Table → Bool
has_rules own table =
    pass_all are_places (map (λ o. o.now) own.uniques.now) table.uniques
    && pass_all is_plain (map (λ o. o.now) own.uniques.now) table.orders
    && pass_all is_reference (map (λ o. (o.0.now, o.1.now, o.2)) own.references.now) table.references
    && (length table.computed == 0) && is_unstamped table.stamps && not table.is_counted
