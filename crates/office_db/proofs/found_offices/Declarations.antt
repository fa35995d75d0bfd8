-- The tests of a declaration decide whether a table is declared as an office's.
use Rattle.std.proofs.Common.{◌≡◌, ℕ, zero, suc, Bool, true, false, ◌&&◌, ◌==◌, List, [], ◌∷◌, length, map, Option}
use Rattle.std.proofs.Common.{Some, None, Decides, refl, sym, ap, ◌∙◌, arith}
use Rattle.std.proofs.lemmas.Bool.Decides.{Decides-and, Decides-eqb, Decides-like, not_from_Decides}
use Rattle.std.proofs.lemmas.Slice.Eq.{bytes_eq-Decides}
use Rattle.sqlite_value.specs.Keys.{plain}
use Rattle.sqlite_value.specs.declared.keys.Collation.{Collation}
use Rattle.sqlite_value.specs.declared.keys.Collation.TheVariants.{Binary, NoCase, RTrim}
use Rattle.sqlite_value.specs.declared.keys.Order.{Order}
use Rattle.sqlite_value.specs.declared.value.Value.{Value}
use Rattle.sqlite_value.specs.declared.value.Value.TheVariants.{Null, Int, Real, Text, Blob}
use Rattle.sqlite_schema.specs.declared.schema.Action.{Action}
use Rattle.sqlite_schema.specs.declared.schema.Action.TheVariants as action
use Rattle.sqlite_schema.specs.declared.schema.Column.{Column}
use Rattle.sqlite_schema.specs.declared.schema.Kind.{Kind}
use Rattle.sqlite_schema.specs.declared.schema.Kind.TheVariants as kind
use Rattle.sqlite_schema.specs.declared.schema.Reference.{Reference}
use Rattle.sqlite_schema.specs.declared.schema.Stamps.{Stamps}
use Rattle.sqlite_schema.specs.declared.schema.Table.{Table}
use Rattle.office_db.specs.declared.loading.declared.forms.Form.{Form}
use Rattle.office_db.specs.loading.Inner.Declared.{are_places, checks_of, column_of, has_columns, has_rules, is_binary}
use Rattle.office_db.specs.loading.Inner.Declared.{is_column, is_null, is_only_name, is_only_place, is_plain}
use Rattle.office_db.specs.loading.Inner.Declared.{is_reference, is_unstamped, kind_code, reference_of, same_bool}
use Rattle.office_db.specs.loading.Inner.Declared.{same_key, table_in, takes_no_action}
use Rattle.office_db.specs.loading.Inner.Lists.{pass_all}
use Rattle.office_db.proofs.found_offices.Deciding.{bool-Decides, empty-Decides, heads, never, not-Decides}
use Rattle.office_db.proofs.found_offices.Deciding.{pass_all-Decides, same_map}

-- ---- values of few kinds

same_bool-Decides : (own b : Bool) → Decides (same_bool own b) (b ≡ own)
same_bool-Decides true b = bool-Decides b
same_bool-Decides false b = not-Decides b

kind_at : ℕ → Kind
kind_at zero = kind.Integer
kind_at (suc zero) = kind.Real
kind_at (suc (suc zero)) = kind.Text
kind_at (suc (suc (suc zero))) = kind.Blob
kind_at (suc (suc (suc (suc n)))) = kind.Any

kind_back : (k : Kind) → kind_at (kind_code k) ≡ k
unfolding kind_at
kind_back kind.Integer = refl
kind_back kind.Real = refl
kind_back kind.Text = refl
kind_back kind.Blob = refl
kind_back kind.Any = refl

kind-Decides : (k own : Kind) → Decides (kind_code k == kind_code own) (k ≡ own)
kind-Decides k own = (
  λ e. sym (kind_back k) ∙ ap kind_at ((Decides-eqb (kind_code k) (kind_code own)).0 e) ∙ kind_back own,
  λ p. (Decides-eqb (kind_code k) (kind_code own)).1 (ap kind_code p),
)

null-Decides : (v : Value) → Decides (is_null v) (v ≡ Null)
null-Decides Null = (λ _. refl, λ _. refl)
null-Decides (Int n) = never (λ p. cc)
null-Decides (Real x) = never (λ p. cc)
null-Decides (Text text) = never (λ p. cc)
null-Decides (Blob blob) = never (λ p. cc)

binary-Decides : (c : Collation) → Decides (is_binary c) (c ≡ Binary)
binary-Decides Binary = (λ _. refl, λ _. refl)
binary-Decides NoCase = never (λ p. cc)
binary-Decides RTrim = never (λ p. cc)

action-Decides : (a : Action) → Decides (takes_no_action a) (a ≡ action.NoAction)
action-Decides action.NoAction = (λ _. refl, λ _. refl)
action-Decides action.Restrict = never (λ p. cc)
action-Decides action.Cascade = never (λ p. cc)
action-Decides action.SetNull = never (λ p. cc)
action-Decides action.SetDefault = never (λ p. cc)

key-Decides : (own key : Option ℕ) → Decides (same_key own key) (key ≡ own)
key-Decides None None = (λ _. refl, λ _. refl)
key-Decides None (Some at) = never (λ p. cc)
key-Decides (Some own) None = never (λ p. cc)
key-Decides (Some own) (Some at) = Decides-like (at == own) (λ e. ap Some e) (λ p. cc) (Decides-eqb at own)

-- ---- the parts of a declaration

column-Decides : (own : List ℕ × Kind × Bool) (column : Column) → Decides (is_column own column)
    (column ≡ column_of own)
column-Decides own column =
    Decides-like (is_column own column)
    (λ h i. record {
      name = h.0.0.0.0.0 i;
      kind = h.0.0.0.0.1 i;
      is_strict = h.0.0.0.1 i;
      not_null = h.0.0.1 i;
      default = h.0.1 i;
      collation = h.1 i;
    })
    (λ p. (
      (
        (
          ((ap (λ (c : Column). c.name) p, ap (λ (c : Column). c.kind) p), ap (λ (c : Column). c.is_strict) p),
          ap (λ (c : Column). c.not_null) p,
        ),
        ap (λ (c : Column). c.default) p,
      ),
      ap (λ (c : Column). c.collation) p,
    ))
    (Decides-and _ _ (Decides-and _ _ (Decides-and _ _ (Decides-and _ _
    (Decides-and _ _ (bytes_eq-Decides column.name own.0) (kind-Decides column.kind own.1))
    (bool-Decides column.is_strict))
    (same_bool-Decides own.2 column.not_null)) (null-Decides column.default)) (binary-Decides column.collation))

places-Decides : (own places : List ℕ) → Decides (are_places own places) (places ≡ own)
places-Decides own places = bytes_eq-Decides places own

plain-Decides : (own : List ℕ) (order : Order) → Decides (is_plain own order) (order ≡ plain)
plain-Decides own order =
    Decides-like (order.digits == 0) (λ e i. record { digits = e i }) (λ p. ap (λ (o : Order). o.digits) p)
    (Decides-eqb order.digits 0)

only_place-Decides : (own : ℕ) (places : List ℕ) → Decides (is_only_place own places) (places ≡ own ∷ [])
only_place-Decides own [] = never (λ p. omega (arith, ap length p))
only_place-Decides own (place ∷ []) =
    Decides-like (place == own) (λ e. ap (λ n. n ∷ []) e) (λ p. heads place own [] [] p) (Decides-eqb place own)
only_place-Decides own (place ∷ more ∷ places) = never (λ p. omega (arith, ap length p))

only_name-Decides : (own : List ℕ) (names : List (List ℕ)) → Decides (is_only_name own names) (names ≡ own ∷ [])
only_name-Decides own [] = never (λ p. omega (arith, ap length p))
only_name-Decides own (name ∷ []) =
    Decides-like _ (λ e. ap (λ n. n ∷ []) e) (λ p. heads name own [] [] p) (bytes_eq-Decides name own)
only_name-Decides own (name ∷ more ∷ names) = never (λ p. omega (arith, ap length p))

reference-Decides : (own : List ℕ × List ℕ × ℕ) (reference : Reference) → Decides (is_reference own reference)
    (reference ≡ reference_of own)
reference-Decides own reference =
    Decides-like (is_reference own reference)
    (λ h i. record {
      columns = h.0.0.0.1 i;
      parent = h.0.0.0.0.0 i;
      parent_columns = h.0.0.0.0.1 i;
      on_delete = h.0.0.1 i;
      on_update = h.0.1 i;
      is_deferred = h.1 i;
    })
    (λ p. (
      (
        (
          (
            (ap (λ (r : Reference). r.parent) p, ap (λ (r : Reference). r.parent_columns) p),
            ap (λ (r : Reference). r.columns) p,
          ),
          ap (λ (r : Reference). r.on_delete) p,
        ),
        ap (λ (r : Reference). r.on_update) p,
      ),
      ap (λ (r : Reference). r.is_deferred) p,
    ))
    (Decides-and _ _ (Decides-and _ _ (Decides-and _ _ (Decides-and _ _
    (Decides-and _ _ (bytes_eq-Decides reference.parent own.0) (only_name-Decides own.1 reference.parent_columns))
    (only_place-Decides own.2 reference.columns)) (action-Decides reference.on_delete))
    (action-Decides reference.on_update))
    (not-Decides reference.is_deferred))

abbrev no_stamps : Stamps
no_stamps = record { places = []; terms = []; formats = [] }

unstamped-Decides : (stamps : Stamps) → Decides (is_unstamped stamps) (stamps ≡ no_stamps)
unstamped-Decides stamps =
    Decides-like (is_unstamped stamps) (λ h i. record { places = h.0.0 i; terms = h.0.1 i; formats = h.1 i })
    (λ p. ((ap (λ (s : Stamps). s.places) p, ap (λ (s : Stamps). s.terms) p), ap (λ (s : Stamps). s.formats) p))
    (Decides-and _ _ (Decides-and _ _ (empty-Decides stamps.places) (empty-Decides stamps.terms))
    (empty-Decides stamps.formats))

-- ---- a table and a form

module _ (own : Form) (table : Table) where
  abbrev columns_in : List (List ℕ × Kind × Bool)
  columns_in = map (λ o. (o.0.now, o.1, o.2)) own.columns.now

  abbrev uniques_in : List (List ℕ)
  uniques_in = map (λ o. o.now) own.uniques.now

  abbrev references_in : List (List ℕ × List ℕ × ℕ)
  references_in = map (λ o. (o.0.now, o.1.now, o.2)) own.references.now

  record AreColumns : Type 0 where
    name : table.name ≡ own.name.now
    columns : table.columns ≡ map column_of columns_in
    key : table.key ≡ own.key
    primary : table.primary ≡ own.primary.now

  record AreRules : Type 0 where
    uniques : table.uniques ≡ uniques_in
    orders : table.orders ≡ map (λ _. plain) uniques_in
    references : table.references ≡ map reference_of references_in
    computed : table.computed ≡ []
    stamps : table.stamps ≡ no_stamps
    is_counted : table.is_counted ≡ false

  columns-Decides : Decides (has_columns own table) AreColumns
  columns-Decides =
      Decides-like (has_columns own table)
      (λ h. record { name = h.0.0.0; columns = h.0.0.1; key = h.0.1; primary = h.1 })
      (λ p. (((p.name, p.columns), p.key), p.primary))
      (Decides-and _ _ (Decides-and _ _ (Decides-and _ _ (bytes_eq-Decides table.name own.name.now)
      (pass_all-Decides is_column column_of column-Decides columns_in table.columns)) (key-Decides own.key table.key))
      (bytes_eq-Decides table.primary own.primary.now))

  uniques-Decides : Decides (pass_all are_places uniques_in table.uniques) (table.uniques ≡ uniques_in)
  uniques-Decides =
      Decides-like _ (λ e. e ∙ same_map uniques_in) (λ p. p ∙ sym (same_map uniques_in))
      (pass_all-Decides are_places (λ x. x) places-Decides uniques_in table.uniques)

  rules-Decides : Decides (has_rules own table) AreRules
  rules-Decides =
      Decides-like (has_rules own table)
      (λ h. record {
        uniques = h.0.0.0.0.0;
        orders = h.0.0.0.0.1;
        references = h.0.0.0.1;
        computed = h.0.0.1;
        stamps = h.0.1;
        is_counted = h.1;
      })
      (λ p. (((((p.uniques, p.orders), p.references), p.computed), p.stamps), p.is_counted))
      (Decides-and _ _ (Decides-and _ _ (Decides-and _ _ (Decides-and _ _ (Decides-and _ _ uniques-Decides
      (pass_all-Decides is_plain (λ _. plain) plain-Decides uniques_in table.orders))
      (pass_all-Decides is_reference reference_of reference-Decides references_in table.references))
      (empty-Decides table.computed)) (unstamped-Decides table.stamps)) (not-Decides table.is_counted))

  -- What a table that is that of the form has.
  columns_of : table ≡ table_in own table.tree → AreColumns
  columns_of p = record {
    name = ap (λ (t : Table). t.name) p;
    columns = ap (λ (t : Table). t.columns) p;
    key = ap (λ (t : Table). t.key) p;
    primary = ap (λ (t : Table). t.primary) p;
  }

  rules_of : table ≡ table_in own table.tree → AreRules
  rules_of p = record {
    uniques = ap (λ (t : Table). t.uniques) p;
    orders = ap (λ (t : Table). t.orders) p;
    references = ap (λ (t : Table). t.references) p;
    computed = ap (λ (t : Table). t.computed) p;
    stamps = ap (λ (t : Table). t.stamps) p;
    is_counted = ap (λ (t : Table). t.is_counted) p;
  }

  pub no_columns : has_columns own table ≡ false → Decides false (table ≡ table_in own table.tree)
  no_columns fails = never (λ p. not_from_Decides (has_columns own table) columns-Decides fails (columns_of p))

  pub no_rules : has_rules own table ≡ false → Decides false (table ≡ table_in own table.tree)
  no_rules fails = never (λ p. not_from_Decides (has_rules own table) rules-Decides fails (rules_of p))

  -- The table is that of the form if the three tests pass.
  pub form-Decides : (r : Bool) → Decides r (table.checks ≡ checks_of own.checks)
      → Decides (has_columns own table && has_rules own table && r) (table ≡ table_in own table.tree)
  form-Decides r checks =
      Decides-like _
      (λ h i. record {
        name = h.0.0.name i;
        tree = table.tree;
        columns = h.0.0.columns i;
        key = h.0.0.key i;
        primary = h.0.0.primary i;
        uniques = h.0.1.uniques i;
        orders = h.0.1.orders i;
        checks = h.1 i;
        references = h.0.1.references i;
        computed = h.0.1.computed i;
        stamps = h.0.1.stamps i;
        is_counted = h.0.1.is_counted i;
      })
      (λ p. ((columns_of p, rules_of p), ap (λ (t : Table). t.checks) p))
      (Decides-and _ _ (Decides-and _ _ columns-Decides rules-Decides) checks)
