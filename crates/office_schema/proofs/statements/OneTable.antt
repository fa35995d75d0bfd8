-- The other tables are unchanged if one of them is edited.
use Rattle.std.proofs.Common.{◌≡◌, ◌≢◌, ◌==◌, ℕ, cond, List, [], ◌∷◌, Some, refl, sym, ap, ◌∙◌, subst, slice_get}
use Rattle.sqlite_value.specs.Order.{Row}
use Rattle.sqlite_rules.specs.Edit.{Edit}
use Rattle.sqlite_trees.specs.Tree.{Trees}
use Rattle.sqlite_schema.specs.declared.schema.Table.{Table}
use Rattle.sqlite.specs.Effect.{Database}
use Rattle.sqlite_trees.proofs.ListLemmas.{all-slice_get}
use Rattle.office_schema.specs.rows.Tables.{Tables}
use Rattle.office_schema.specs.tables.Holds.{Holds}
use Rattle.office_schema.specs.declared.tables.names.TableName.{TableName}
use Rattle.office_schema.specs.tables.ByName.{RecordOf, records_of, with_records}
use Rattle.office_schema.specs.tables.ByName.{columns_of, place_of, table_named, HoldsRecords}
use Rattle.office_schema.specs.declared.tables.names.TableName.TheVariants.{Rooms, People, Rounds, Choices, Words}
use Rattle.office_schema.specs.declared.tables.names.TableName.TheVariants.{Results, Moves, Lists, Grades, Going}
use Rattle.office_schema.specs.tables.Schema.{office_schema, own_order}
use Rattle.office_schema.specs.tables.Tables.{AreHeld}
use Rattle.office_schema.proofs.statements.ByName.{each_name, each_table}
use Rattle.office_schema.proofs.statements.Rows.{Turned, IsTimeless}

pub is_found : (name : TableName) → slice_get office_schema.tables (place_of name) ≡ Some (table_named name)
is_found =
    each_name (λ n. slice_get office_schema.tables (place_of n) ≡ Some (table_named n))
    refl refl refl refl refl refl refl refl refl refl

pub is_timeless : (name : TableName) → IsTimeless (table_named name)
is_timeless =
    each_name (λ n. IsTimeless (table_named n)) (refl, refl) (refl, refl) (refl, refl) (refl, refl) (refl, refl)
    (refl, refl) (refl, refl) (refl, refl) (refl, refl) (refl, refl)

-- ---- the trees of two tables

-- the table in this tree, if one of these tables is
abbrev owner_among : List (TableName × ℕ) → ℕ → TableName
owner_among [] tree = Rooms
owner_among (o ∷ order) tree = cond (o.1 == tree) o.0 (owner_among order tree)

abbrev owner : ℕ → TableName
owner = owner_among own_order

owner_is : (name : TableName) → owner (table_named name).tree ≡ name
owner_is = each_name (λ n. owner (table_named n).tree ≡ n) refl refl refl refl refl refl refl refl refl refl

trees_apart : (n m : TableName) → n ≢ m → (table_named n).tree ≢ (table_named m).tree
trees_apart n m apart same = apart (sym (owner_is n) ∙ ap owner same ∙ owner_is m)

-- ---- the records of all tables

pub stays : {X : Type 0} (columns : X → Row) (xs : List X) (old new : List Row) → new ≡ old
    → Holds columns old xs → Holds columns new xs
stays columns xs old new same h = subst (λ l. Holds columns l xs) (sym same) h

-- What `AreHeld` says, by name.
pub held_of : (trees : Trees) (tables : Tables) → AreHeld trees tables
    → (name : TableName) → HoldsRecords trees name (records_of tables name)
held_of trees tables h =
    each_name (λ n. HoldsRecords trees n (records_of tables n))
    h.rooms h.people h.rounds h.choices h.words h.results h.moves h.lists h.grades h.going

pub all_held : (trees : Trees) (tables : Tables)
    → ((name : TableName) → HoldsRecords trees name (records_of tables name))
    → AreHeld trees tables
all_held trees tables each = record {
  rooms = each Rooms;
  people = each People;
  rounds = each Rounds;
  choices = each Choices;
  words = each Words;
  results = each Results;
  moves = each Moves;
  lists = each Lists;
  grades = each Grades;
  going = each Going;
}

-- Editing one table leaves the records of the others.
pub all_held_after : (name : TableName) (old new : Database) (edit : Edit) (tables : Tables) → AreHeld old.trees tables
    → Turned (table_named name) old new edit → (xs : List (RecordOf name)) → HoldsRecords new.trees name xs
    → AreHeld new.trees (with_records tables name xs)
all_held_after name old new edit tables held turned xs put =
    all_held new.trees (with_records tables name xs)
    (each_table (HoldsRecords new.trees) tables name xs put (λ n other. still n (unchanged n other)))
  where
    unchanged : (n : TableName) → n ≢ name → new.trees (table_named n).tree ≡ old.trees (table_named n).tree
    unchanged n other =
        all-slice_get (λ (t : Table). t.tree ≢ (table_named name).tree → new.trees t.tree ≡ old.trees t.tree)
        office_schema.tables (place_of n) (table_named n) (is_found n) turned.others (trees_apart n name other)

    still : (n : TableName) → new.trees (table_named n).tree ≡ old.trees (table_named n).tree
        → HoldsRecords new.trees n (records_of tables n)
    still n same = stays (columns_of n) (records_of tables n) _ _ same (held_of old.trees tables held n)
