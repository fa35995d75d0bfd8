-- Ten tables without rows, and then with the rows of the empty office.
use Rattle.std.proofs.Common.{◌≡◌, ℕ, Bool, [], ◌∷◌, List, refl, sym, subst, map as list_map}
use Rattle.std.specs.FinMap as map
use Rattle.std.specs.List.{flat_map}
use Rattle.std.specs.Cmp.{nat_cmp_total}
use Rattle.std.specs.Cmp.Lexicographic.{nat_list_cmp_total}
use Rattle.sqlite.specs.Effect.{Database}
use Rattle.room_types.specs.Texts.{Text, text_cmp}
use Rattle.room_types.proofs.maps.Trees.{entries-empty}
use Rattle.room_types.specs.declared.phase.Phase.TheVariants.{Idle}
use Rattle.office_state.specs.Office.{empty_office}
use Rattle.office_state.specs.declared.office.Assigned.{Assigned}
use Rattle.office_state.specs.declared.office.stored_import.StoredImport.{StoredImport}
use Rattle.office_state.specs.declared.office.moves.RoundMoves.{RoundMoves}
use Rattle.office_state.specs.declared.office.person.Person.{Person}
use Rattle.office_schema.specs.rows.Rows.{row_of_person, list_rows, round_rows}
use Rattle.office_schema.specs.rows.Tables.{Tables, rows_at, rows_of}
use Rattle.std.specs.List.{AllByRecursion}
use Rattle.sqlite.specs.State.{State, HasCleanDisk}
use Rattle.sqlite_schema.specs.declared.schema.Table.{Table}
use Rattle.office_schema.specs.tables.Declaring.{DeclaresFirst}
use Rattle.office_schema.specs.tables.Edits.{with_first_round}
use Rattle.office_schema.specs.tables.ByName.{HoldsRecords, columns_of, place_of, records_of, table_named}
use Rattle.office_schema.specs.tables.Schema.{no_schema, office_schema}
use Rattle.office_schema.specs.tables.Tables.{HasTables}
use Rattle.office_schema.specs.declared.tables.names.TableName.{TableName}
use Rattle.sqlite_trees.proofs.ListLemmas.{all-slice_get}
use Rattle.office_schema.proofs.statements.ByName.{each_name}
use Rattle.office_schema.proofs.statements.Held.{none_held}
use Rattle.office_schema.proofs.statements.OneTable.{all_held, is_found, stays}

abbrev pub no_rows : Tables
no_rows =
    record {
      rooms = [];
      people = [];
      rounds = [];
      choices = [];
      words = [];
      results = [];
      moves = [];
      lists = [];
      grades = [];
      going = [];
    }

no_records : (name : TableName) → records_of no_rows name ≡ []
no_records = each_name (λ n. records_of no_rows n ≡ []) refl refl refl refl refl refl refl refl refl refl

all_empty : (db : Database) → db.schema ≡ office_schema
    → AllByRecursion (λ t. db.trees t.tree ≡ []) office_schema.tables → HasTables db no_rows
all_empty db has none = record { schema = has; rows = all_held db.trees no_rows held }
  where
    empty : (name : TableName) → db.trees (table_named name).tree ≡ []
    empty name =
        all-slice_get (λ (t : Table). db.trees t.tree ≡ []) office_schema.tables (place_of name) (table_named name)
        (is_found name) none

    held : (name : TableName) → HoldsRecords db.trees name (records_of no_rows name)
    held name =
        subst (HoldsRecords db.trees name) (sym (no_records name))
        (stays (columns_of name) [] [] (db.trees (table_named name).tree) (empty name) (none_held (columns_of name)))

-- If nothing was declared, the tables are there now, without rows.
pub made_empty : (old new : State) → DeclaresFirst 0 10 0 old new → HasCleanDisk new → old.now.schema ≡ no_schema
    → HasTables new.now no_rows
made_empty old new made clean none =
    let all = made.shown clean none in
    all_empty new.now all.0 all.2

-- the rows of these entries, before the first round
abbrev rows_from : List (Text × Bool) → List (Text × Person) → List (Text × List Text) → List (Text × ℕ)
    → List (Text × Assigned) → List (ℕ × RoundMoves) → List (Text × StoredImport) → List (Text × ℕ)
    → List (Text × Unit {0}) → Tables
rows_from rooms people choices words results moves lists grades going = record {
  rooms = rooms;
  people = list_map (row_of_person map.empty) people;
  rounds = record { version = 3; number = 0; phase = Idle } ∷ [];
  choices = flat_map list_rows choices;
  words = words;
  results = results;
  moves = flat_map round_rows moves;
  lists = lists;
  grades = grades;
  going = list_map (λ e. e.0) going;
}

none_of : (rooms : List (Text × Bool)) (people : List (Text × Person)) (choices : List (Text × List Text))
    (words : List (Text × ℕ)) (results : List (Text × Assigned)) (moves : List (ℕ × RoundMoves))
    (lists : List (Text × StoredImport)) (grades : List (Text × ℕ)) (going : List (Text × Unit {0})) → rooms ≡ []
    → people ≡ [] → choices ≡ [] → words ≡ [] → results ≡ [] → moves ≡ [] → lists ≡ [] → grades ≡ [] → going ≡ []
    → rows_from [] [] [] [] [] [] [] [] [] ≡ rows_from rooms people choices words results moves lists grades going
none_of rooms people choices words results moves lists grades going a b c d e f g h i =
    rw (a, b, c, d, e, f, g, h, i) refl

no_entries : {X : Type 0} → map.entries (map.empty {X = X} {R = text_cmp}) ≡ []
no_entries = entries-empty nat_list_cmp_total

-- The empty office has no row but that of the round.
pub first_rows : with_first_round 0 Idle no_rows ≡ rows_of empty_office
unfolding with_first_round rows_at
first_rows =
    none_of (map.entries empty_office.rooms) (map.entries empty_office.people) (map.entries empty_office.choices)
    (map.entries empty_office.words) (map.entries empty_office.results)
    (map.entries empty_office.moves) (map.entries empty_office.lists) (map.entries empty_office.grades)
    (map.entries empty_office.going) no_entries no_entries no_entries no_entries no_entries
    (entries-empty nat_cmp_total) no_entries no_entries no_entries
