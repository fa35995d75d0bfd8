-- Tables of an office among others.
use Rattle.std.proofs.Common.{◌≡◌, ◌≢◌, ◌⊎◌, ◌<◌, ◌≤◌, ◌+◌, ℕ, Bool, List, [], ◌∷◌, get_or, length, take, Decides, refl}
use Rattle.std.proofs.Common.{sym, ap, ◌∙◌, subst, inl, inr, arith}
use Rattle.std.specs.List.{AllByRecursion}
use Rattle.std.proofs.lemmas.Bool.Decides.{eqb_tells}
use Rattle.sqlite_schema.specs.declared.schema.Table.{Table}
use Rattle.sqlite_schema.specs.declared.schema.Schema.{Schema}
use Rattle.office_schema.specs.tables.Layouts.{documented_order, table_count}
use Rattle.office_schema.specs.declared.tables.layouts.Layout.{Layout}
use Rattle.office_schema.specs.declared.tables.layouts.Layout.TheVariants.{Own, Documented, DocumentedSecond}
use Rattle.office_schema.specs.declared.tables.layouts.Layout.TheVariants.{DocumentedFirst, EarlierFirst}
use Rattle.office_schema.specs.declared.tables.names.TableName.{TableName}
use Rattle.office_schema.specs.declared.tables.names.TableName.TheVariants.{Rooms, People, Rounds, Choices, Words}
use Rattle.office_schema.specs.declared.tables.names.TableName.TheVariants.{Results, Moves, Lists, Grades, Going}
use Rattle.office_db.specs.loading.Finding.{DeclaresTables}
use Rattle.office_schema.specs.tables.Schema.{office_table}
use Rattle.office_db.specs.loading.Inner.Declared.{IsAmong}
use Rattle.office_db.proofs.found_offices.Deciding.{same_default}

-- ---- tables among others

tree_of_table : (own : TableName) (tree : ℕ) → (office_table own tree).tree ≡ tree
tree_of_table Rooms tree = refl
tree_of_table People tree = refl
tree_of_table Rounds tree = refl
tree_of_table Choices tree = refl
tree_of_table Words tree = refl
tree_of_table Results tree = refl
tree_of_table Moves tree = refl
tree_of_table Lists tree = refl
tree_of_table Grades tree = refl
tree_of_table Going tree = refl

module _ (own : TableName) (table : Table) where
  -- The table is in the tree that it names.
  pub in_own_tree : (tree : ℕ) → table ≡ office_table own tree → table ≡ office_table own table.tree
  in_own_tree tree e = e ∙ ap (office_table own) (sym (ap (λ (t : Table). t.tree) e ∙ tree_of_table own tree))

  pub in_tree : (tree : ℕ) → table.tree ≡ tree → table ≡ office_table own table.tree → table ≡ office_table own tree
  in_tree tree e p = p ∙ ap (office_table own) e

  pub tree_is : (tree : ℕ) → table ≡ office_table own tree → table.tree ≡ tree
  tree_is tree e = ap (λ (t : Table). t.tree) e ∙ tree_of_table own tree

apart_or_equal : (a b : ℕ) → (a ≡ b) ⊎ (a ≢ b)
apart_or_equal a b = elim (eqb_tells a b) [
  | inl e ↦ inl e.1
  | inr e ↦ inr e.1
]

-- None of the tables before this place is this table of an office.
abbrev pub IsNotBefore : List Table → TableName → ℕ → Type 0
IsNotBefore tables own place =
    (k tree : ℕ) → k < place → get_or tables k (office_table own tree) ≡ office_table own tree → ⊥

module _ (tables : List Table) (own : TableName) (k : ℕ) (table : Table) (low : k < length tables)
    (here : table ≡ get_or tables k table) where
  -- The table at this place is.
  pub among_here : table ≡ office_table own table.tree → IsAmong tables own
  among_here is = (table.tree, (k, low, ap (get_or tables k) (sym is) ∙ sym here ∙ is))

  -- The table at this place is not, either.
  pub not_here : (table ≡ office_table own table.tree → ⊥) → IsNotBefore tables own k → IsNotBefore tables own (k + 1)
  not_here differs before j tree less is =
      elim (apart_or_equal j k) [
        | inl e ↦
            let there : get_or tables k (office_table own tree) ≡ office_table own tree =
            subst (λ n. get_or tables n (office_table own tree) ≡ office_table own tree) e is in
            differs (in_own_tree own table tree
            (here ∙ same_default tables k table (office_table own tree) low ∙ there))
        | inr apart ↦ before j tree (omega (arith, less, apart)) is
      ]

pub not_among : (tables : List Table) (own : TableName) (k : ℕ) → length tables ≤ k → IsNotBefore tables own k
    → IsAmong tables own → ⊥
not_among tables own k past before h = let below = h.1.1 in before h.1.0 h.0 (omega (arith, past, below)) h.1.2

-- ---- the tables of a layout

pub declares-Decides : (layout : Layout) (schema : Schema) (r : Bool)
    → Decides r (AllByRecursion (λ o. IsAmong schema.tables o.0) (take (table_count layout) documented_order))
    → Decides r (DeclaresTables layout schema)
declares-Decides Own schema r d = d
declares-Decides Documented schema r d = d
declares-Decides DocumentedSecond schema r d = d
declares-Decides DocumentedFirst schema r d = d
declares-Decides EarlierFirst schema r d = d

pub few_tables : (layout : Layout) → table_count layout ≤ 10
few_tables Own = omega arith
few_tables Documented = omega arith
few_tables DocumentedSecond = omega arith
few_tables DocumentedFirst = omega arith
few_tables EarlierFirst = omega arith
