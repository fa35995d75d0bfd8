-- The ten tables of an office, the statements that create them, and the schema that results. The first three tables
-- have the same place in each layout (`Layouts.antt`), so that the version, which the third one keeps, is found in all.
use Rattle.std.specs.Prelude.{true, false, ℕ, ◌+◌, pos, List, [], ◌∷◌, ◌++◌, map, codes, take, slice_index_or}
use Rattle.std.specs.Prelude.{Option, Some, None}
use Rattle.sqlite_value.specs.declared.keys.Collation.TheVariants.{Binary}
use Rattle.sqlite_value.specs.declared.value.Value.TheVariants.{Null, Int}
use Rattle.sqlite_value.specs.Keys.{plain}
use Rattle.sqlite_sql.specs.declared.ops.BinaryOp.TheVariants.{Or, Compare}
use Rattle.sqlite_sql.specs.declared.ops.CompareOp.TheVariants.{Eq}
use Rattle.sqlite_sql.specs.Term.{Term, lit, col, op2}
use Rattle.sqlite_schema.specs.declared.schema.Table.{Table}
use Rattle.sqlite_schema.specs.declared.schema.Column.{Column}
use Rattle.sqlite_schema.specs.declared.schema.Index.{Index}
use Rattle.sqlite_schema.specs.declared.schema.Schema.{Schema}
use Rattle.sqlite_schema.specs.declared.schema.Reference.{Reference}
use Rattle.sqlite_schema.specs.declared.schema.Kind.{Kind}
use Rattle.sqlite_schema.specs.declared.schema.Kind.TheVariants.{Integer, Text, Blob}
use Rattle.sqlite_schema.specs.declared.schema.Action.TheVariants.{NoAction}
use Rattle.office_schema.specs.declared.tables.names.TableName.{TableName}
use Rattle.office_schema.specs.declared.tables.names.TableName.TheVariants.{Rooms, People, Rounds, Choices, Words}
use Rattle.office_schema.specs.declared.tables.names.TableName.TheVariants.{Results, Moves, Lists, Grades, Going}

-- ---- the texts

abbrev pub room_text : List ℕ
room_text =
    codes "CREATE TABLE room(code TEXT PRIMARY KEY NOT NULL,\n"
    ++ codes "  shut INTEGER NOT NULL CHECK(shut IN (0, 1))) STRICT"

abbrev pub person_text : List ℕ
person_text =
    codes "CREATE TABLE person(id TEXT PRIMARY KEY NOT NULL, name TEXT NOT NULL,\n"
    ++ codes "  passkey TEXT NOT NULL UNIQUE, home TEXT UNIQUE REFERENCES room(code),\n"
    ++ codes "  withdrawn INTEGER NOT NULL CHECK(withdrawn IN (0, 1))) STRICT"

abbrev pub round_text : List ℕ
round_text =
    codes "CREATE TABLE round(one INTEGER PRIMARY KEY CHECK(one = 1),\n"
    ++ codes "  version INTEGER NOT NULL, number INTEGER NOT NULL, phase TEXT NOT NULL) STRICT"

abbrev pub move_text : List ℕ
move_text =
    codes "CREATE TABLE move(round INTEGER NOT NULL, person TEXT NOT NULL,\n"
    ++ codes "  from_room TEXT, to_room TEXT, wave INTEGER, PRIMARY KEY(round, person)) STRICT"

abbrev pub list_text : List ℕ
list_text =
    codes "CREATE TABLE list(label TEXT PRIMARY KEY NOT NULL, kind TEXT NOT NULL,\n"
    ++ codes "  body BLOB NOT NULL, added INTEGER NOT NULL) STRICT"

abbrev pub grade_text : List ℕ
grade_text =
    codes "CREATE TABLE grade(person TEXT PRIMARY KEY NOT NULL REFERENCES person(id),\n"
    ++ codes "  value INTEGER NOT NULL CHECK(value IN (1,2,3,4,5,6,7,8,9))) STRICT"

abbrev pub word_text : List ℕ
word_text =
    codes "CREATE TABLE word(person TEXT PRIMARY KEY NOT NULL REFERENCES person(id),\n"
    ++ codes "  hex TEXT NOT NULL) STRICT"

abbrev pub result_text : List ℕ
result_text =
    codes "CREATE TABLE result(person TEXT PRIMARY KEY NOT NULL REFERENCES person(id),\n"
    ++ codes "  room TEXT UNIQUE REFERENCES room(code)) STRICT"

abbrev pub choice_text : List ℕ
choice_text =
    codes "CREATE TABLE choice(person TEXT NOT NULL REFERENCES person(id),\n"
    ++ codes "  place INTEGER NOT NULL, room TEXT NOT NULL REFERENCES room(code),\n"
    ++ codes "  PRIMARY KEY(person, place), UNIQUE(person, room)) STRICT"

abbrev pub going_text : List ℕ
going_text = codes "CREATE TABLE going(person TEXT PRIMARY KEY NOT NULL REFERENCES person(id)) STRICT"

-- The statement at this place, among the statements that create the tables, in the order in which this program runs
-- them. Each table comes after the tables that it refers to. The four tables of a round come last, because they are
-- dropped and created again.
abbrev pub table_text : ℕ → List ℕ
table_text place =
    slice_index_or
    (room_text ∷ person_text ∷ round_text ∷ move_text ∷ list_text ∷ grade_text ∷ word_text
    ∷ result_text ∷ choice_text ∷ going_text ∷ [])
    place []

-- ---- columns, references and checks

abbrev pub required : Kind → List ℕ → Column
required kind name = record {
  name = name;
  kind = kind;
  is_strict = true;
  not_null = true;
  default = Null;
  collation = Binary;
}

abbrev pub optional : Kind → List ℕ → Column
optional kind name = record {
  name = name;
  kind = kind;
  is_strict = true;
  not_null = false;
  default = Null;
  collation = Binary;
}

-- the column at this place refers to a column of another table
abbrev pub refers_to : List ℕ → List ℕ → ℕ → Reference
refers_to parent column place = record {
  columns = place ∷ [];
  parent = parent;
  parent_columns = column ∷ [];
  on_delete = NoAction;
  on_update = NoAction;
  is_deferred = false;
}

abbrev pub equals : ℕ → ℕ → Term
equals place n = op2 (Compare Eq Binary) (col 1 place) (lit (Int (pos n)))

-- At least one of the two tests passes.
abbrev pub either : Term → Term → Term
either = op2 Or

-- tests that the column is an integer from 1 to 9; the engine compiles the list after `IN` by splitting it into
-- halves
abbrev pub is_digit : ℕ → Term
is_digit place =
    either
    (either (either (equals place 1) (equals place 2)) (either (equals place 3) (equals place 4)))
    (either (either (equals place 5) (equals place 6))
    (either (equals place 7) (either (equals place 8) (equals place 9))))

abbrev pub is_flag : ℕ → Term
is_flag place = op2 Or (equals place 0) (equals place 1)

-- ---- the tables, each in its tree

abbrev pub table_of : List ℕ → ℕ → List Column → Option ℕ → List ℕ → List (List ℕ) → List Term
    → List Reference → Table
table_of name tree columns key primary uniques checks references = record {
  name = name;
  tree = tree;
  columns = columns;
  key = key;
  primary = primary;
  uniques = uniques;
  orders = map (λ _. plain) uniques;
  checks = checks;
  references = references;
  computed = [];
  stamps = record { places = []; terms = []; formats = [] };
  is_counted = false;
}

-- only the first column
abbrev pub first_column : List ℕ
first_column = 1 ∷ []

abbrev pub room : ℕ → Table
room tree =
    table_of (codes "room") tree
    (required Text (codes "code") ∷ required Integer (codes "shut") ∷ []) None first_column (first_column ∷ []) (is_flag 2 ∷ []) []

abbrev pub person : ℕ → Table
person tree =
    table_of (codes "person") tree
    (required Text (codes "id") ∷ required Text (codes "name") ∷ required Text (codes "passkey")
    ∷ optional Text (codes "home") ∷ required Integer (codes "withdrawn") ∷ [])
    None first_column (first_column ∷ (3 ∷ []) ∷ (4 ∷ []) ∷ []) (is_flag 5 ∷ [])
    (refers_to (codes "room") (codes "code") 4 ∷ [])

abbrev pub round : ℕ → Table
round tree =
    table_of (codes "round") tree
    (optional Integer (codes "one") ∷ required Integer (codes "version")
    ∷ required Integer (codes "number") ∷ required Text (codes "phase") ∷ [])
    (Some 0) (0 ∷ []) [] (equals 0 1 ∷ []) []

abbrev pub move : ℕ → Table
move tree =
    table_of (codes "move") tree
    (required Integer (codes "round") ∷ required Text (codes "person")
    ∷ optional Text (codes "from_room") ∷ optional Text (codes "to_room")
    ∷ optional Integer (codes "wave") ∷ [])
    None (1 ∷ 2 ∷ []) ((1 ∷ 2 ∷ []) ∷ []) [] []

abbrev pub list : ℕ → Table
list tree =
    table_of (codes "list") tree
    (required Text (codes "label") ∷ required Text (codes "kind") ∷ required Blob (codes "body")
    ∷ required Integer (codes "added") ∷ [])
    None first_column (first_column ∷ []) [] []

abbrev pub grade : ℕ → Table
grade tree =
    table_of (codes "grade") tree (required Text (codes "person") ∷ required Integer (codes "value") ∷ [])
    None first_column (first_column ∷ [])
    (is_digit 2 ∷ [])
    (refers_to (codes "person") (codes "id") 1 ∷ [])

abbrev pub word : ℕ → Table
word tree =
    table_of (codes "word") tree (required Text (codes "person") ∷ required Text (codes "hex") ∷ [])
    None first_column (first_column ∷ []) [] (refers_to (codes "person") (codes "id") 1 ∷ [])

abbrev pub result : ℕ → Table
result tree =
    table_of (codes "result") tree
    (required Text (codes "person") ∷ optional Text (codes "room") ∷ []) None first_column (first_column ∷ (2 ∷ []) ∷ []) []
    (refers_to (codes "person") (codes "id") 1 ∷ refers_to (codes "room") (codes "code") 2 ∷ [])

abbrev pub choice : ℕ → Table
choice tree =
    table_of (codes "choice") tree
    (required Text (codes "person") ∷ required Integer (codes "place")
    ∷ required Text (codes "room") ∷ [])
    None (1 ∷ 2 ∷ []) ((1 ∷ 2 ∷ []) ∷ (1 ∷ 3 ∷ []) ∷ []) []
    (refers_to (codes "person") (codes "id") 1 ∷ refers_to (codes "room") (codes "code") 3 ∷ [])

abbrev pub going_table : ℕ → Table
going_table tree =
    table_of (codes "going") tree (required Text (codes "person") ∷ []) None first_column (first_column ∷ []) []
    (refers_to (codes "person") (codes "id") 1 ∷ [])

-- the table of an office with this name, in this tree
abbrev pub office_table : TableName → ℕ → Table
office_table Rooms = room
office_table People = person
office_table Rounds = round
office_table Choices = choice
office_table Words = word
office_table Results = result
office_table Moves = move
office_table Lists = list
office_table Grades = grade
office_table Going = going_table

-- ---- the schema

-- the index that enforces a constraint of a table
abbrev pub index_of : List ℕ → ℕ → ℕ → List ℕ → Index
index_of name tree table columns = record {
  name = codes "sqlite_autoindex_" ++ name;
  tree = tree;
  table = table;
  columns = columns;
  order = plain;
  is_unique = true;
}

-- the indexes of the table of an office with this name, in this tree; each index is in the next tree
abbrev pub indexes_of : TableName → ℕ → List Index
indexes_of Rooms tree = index_of (codes "room_1") (tree + 1) tree first_column ∷ []
indexes_of People tree =
    index_of (codes "person_1") (tree + 1) tree first_column ∷ index_of (codes "person_2") (tree + 2) tree (3 ∷ [])
    ∷ index_of (codes "person_3") (tree + 3) tree (4 ∷ []) ∷ []
indexes_of Rounds tree = []
indexes_of Choices tree =
    index_of (codes "choice_1") (tree + 1) tree (1 ∷ 2 ∷ []) ∷ index_of (codes "choice_2") (tree + 2) tree (1 ∷ 3 ∷ [])
    ∷ []
indexes_of Words tree = index_of (codes "word_1") (tree + 1) tree first_column ∷ []
indexes_of Results tree =
    index_of (codes "result_1") (tree + 1) tree first_column ∷ index_of (codes "result_2") (tree + 2) tree (2 ∷ []) ∷ []
indexes_of Moves tree = index_of (codes "move_1") (tree + 1) tree (1 ∷ 2 ∷ []) ∷ []
indexes_of Lists tree = index_of (codes "list_1") (tree + 1) tree first_column ∷ []
indexes_of Grades tree = index_of (codes "grade_1") (tree + 1) tree first_column ∷ []
indexes_of Going tree = index_of (codes "going_1") (tree + 1) tree first_column ∷ []

-- the indexes of these tables, in the order of the tables
abbrev pub all_indexes : List (TableName × ℕ) → List Index
all_indexes [] = []
all_indexes (o ∷ order) = indexes_of o.0 o.1 ++ all_indexes order

-- the schema of the first `tables` tables in this order, with their indexes; a table stands with the number of its tree
abbrev pub first_in : List (TableName × ℕ) → ℕ → Schema
first_in order tables = record {
  tables = take tables (map (λ o. office_table o.0 o.1) order);
  indexes = all_indexes (take tables order);
  views = [];
}

-- the schema of all tables in this order
abbrev pub schema_in : List (TableName × ℕ) → Schema
schema_in order = record {
  tables = map (λ o. office_table o.0 o.1) order;
  indexes = all_indexes order;
  views = [];
}

abbrev pub no_schema : Schema
no_schema = record { tables = []; indexes = []; views = [] }

-- the tables in the order in which this program creates them
abbrev pub own_order : List (TableName × ℕ)
own_order =
    (Rooms, 0) ∷ (People, 2) ∷ (Rounds, 6) ∷ (Moves, 7) ∷ (Lists, 9) ∷ (Grades, 11) ∷ (Words, 13) ∷ (Results, 15)
    ∷ (Choices, 18) ∷ (Going, 21) ∷ []

-- the schema after the statements of `table_text` have run, one after another
abbrev pub office_schema : Schema
office_schema = schema_in own_order

-- the first `tables` tables of `office_schema`, with their indexes; the four tables of a round come after the first
-- six
abbrev pub first_tables : ℕ → Schema
first_tables = first_in own_order
