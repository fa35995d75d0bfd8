-- The names of the ten tables of an office.
use Rattle.std.specs.Prelude.{ℕ, Bool, List, [], ◌∷◌, codes, IsTrue}
use Rattle.std.specs.List.{list_any}
use Rattle.sqlite_schema.specs.declared.schema.Schema.{Schema}
use Rattle.sqlite_catalog.specs.Change.{is_used}
use Rattle.sqlite.specs.Effect.{Database}

abbrev pub table_names : List (List ℕ)
table_names =
    codes "room" ∷ codes "person" ∷ codes "round" ∷ codes "choice" ∷ codes "word" ∷ codes "result"
    ∷ codes "move" ∷ codes "list" ∷ codes "grade" ∷ codes "going" ∷ []

-- A table, an index or a view has the name of one of the ten tables of an office, in upper or lower case.
abbrev pub is_taken : Schema → Bool
is_taken schema = list_any (λ name. is_used schema name) table_names

abbrev pub NameIsTaken : Database → Type 0
NameIsTaken db = IsTrue (is_taken db.schema)
