-- The query for all rows of each table, by the table's name. The queries have no ORDER BY clause.
use Rattle.std.specs.Prelude.{ℕ, Bool, true, List, [], ◌∷◌, codes}
use Rattle.sqlite_sql.specs.Term.{Term, col}
use Rattle.office_schema.specs.declared.tables.names.TableName.{TableName}
use Rattle.office_schema.specs.declared.tables.names.TableName.TheVariants.{Rooms, People, Rounds, Choices, Words}
use Rattle.office_schema.specs.declared.tables.names.TableName.TheVariants.{Results, Moves, Lists, Grades, Going}
use Rattle.office_schema.specs.tables.Layouts.{has_grades, has_leavers, trees_of}
use Rattle.office_schema.specs.declared.tables.layouts.Layout.{Layout}

-- whether the layout has the table
abbrev pub has_table : Layout → TableName → Bool
has_table layout Rooms = true
has_table layout People = true
has_table layout Rounds = true
has_table layout Choices = true
has_table layout Words = true
has_table layout Results = true
has_table layout Moves = true
has_table layout Lists = true
has_table layout Grades = has_grades layout
has_table layout Going = has_leavers layout

-- the number of the tree that stores the table; if the layout lacks the table, the number means nothing
abbrev pub tree_in : Layout → TableName → ℕ
tree_in layout Rooms = 0
tree_in layout People = 2
tree_in layout Rounds = 6
tree_in layout Choices = (trees_of layout).choices
tree_in layout Words = (trees_of layout).words
tree_in layout Results = (trees_of layout).results
tree_in layout Moves = (trees_of layout).moves
tree_in layout Lists = (trees_of layout).lists
tree_in layout Grades = (trees_of layout).grades
tree_in layout Going = (trees_of layout).going

-- the text of the query
abbrev pub query_text : TableName → List ℕ
query_text Rooms = codes "SELECT code, shut FROM room"
query_text People = codes "SELECT id, name, passkey, home, withdrawn FROM person"
query_text Rounds = codes "SELECT version, number, phase FROM round"
query_text Choices = codes "SELECT person, place, room FROM choice"
query_text Words = codes "SELECT person, hex FROM word"
query_text Results = codes "SELECT person, room FROM result"
query_text Moves = codes "SELECT round, person, from_room, to_room, wave FROM move"
query_text Lists = codes "SELECT label, kind, body, added FROM list"
query_text Grades = codes "SELECT person, value FROM grade"
query_text Going = codes "SELECT person FROM going"

-- the columns of the table that the query lists
abbrev pub query_columns : TableName → List Term
query_columns Rooms = col 1 1 ∷ col 1 2 ∷ []
query_columns People = col 1 1 ∷ col 1 2 ∷ col 1 3 ∷ col 1 4 ∷ col 1 5 ∷ []
query_columns Rounds = col 1 2 ∷ col 1 3 ∷ col 1 4 ∷ []
query_columns Choices = col 1 1 ∷ col 1 2 ∷ col 1 3 ∷ []
query_columns Words = col 1 1 ∷ col 1 2 ∷ []
query_columns Results = col 1 1 ∷ col 1 2 ∷ []
query_columns Moves = col 1 1 ∷ col 1 2 ∷ col 1 3 ∷ col 1 4 ∷ col 1 5 ∷ []
query_columns Lists = col 1 1 ∷ col 1 2 ∷ col 1 3 ∷ col 1 4 ∷ []
query_columns Grades = col 1 1 ∷ col 1 2 ∷ []
query_columns Going = col 1 1 ∷ []

-- the names of these columns
abbrev pub query_names : TableName → List (List ℕ)
query_names Rooms = codes "code" ∷ codes "shut" ∷ []
query_names People = codes "id" ∷ codes "name" ∷ codes "passkey" ∷ codes "home" ∷ codes "withdrawn" ∷ []
query_names Rounds = codes "version" ∷ codes "number" ∷ codes "phase" ∷ []
query_names Choices = codes "person" ∷ codes "place" ∷ codes "room" ∷ []
query_names Words = codes "person" ∷ codes "hex" ∷ []
query_names Results = codes "person" ∷ codes "room" ∷ []
query_names Moves = codes "round" ∷ codes "person" ∷ codes "from_room" ∷ codes "to_room" ∷ codes "wave" ∷ []
query_names Lists = codes "label" ∷ codes "kind" ∷ codes "body" ∷ codes "added" ∷ []
query_names Grades = codes "person" ∷ codes "value" ∷ []
query_names Going = codes "person" ∷ []
