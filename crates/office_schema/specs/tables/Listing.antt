-- Listing the rows of a table.
use Rattle.std.specs.Prelude.{◌≡◌, ℕ, ℤ, false, List, [], ◌∷◌, map}
use Rattle.std.specs.List.{All}
use Rattle.std.specs.List.Sorted.{IsPermutation}
use Rattle.sqlite_value.specs.Order.{Row}
use Rattle.sqlite_value.specs.declared.keys.Key.{Key}
use Rattle.sqlite_sql.specs.Term.{Term, eval_all}
use Rattle.sqlite_schema.specs.declared.schema.Schema.{Schema}
use Rattle.sqlite_schema.specs.declared.command.Command.TheVariants.{Select}
use Rattle.sqlite.specs.Given.{IsPlain}
use Rattle.sqlite.specs.Listing.{understood, reads_listing}
use Rattle.sqlite.proofs.Callers.{command_of}
use Rattle.office_schema.specs.tables.Holds.{stored}
use Rattle.office_schema.specs.tables.Queries.{over, alone}

-- these columns of a stored row
abbrev pub listed : List Term → Row → Row
listed project row = eval_all project ([] ∷ row ∷ [])

-- Under this schema, the text is a query that lists these columns of all rows of the table in `tree`. The rows may be
-- in any order.
pub record ListsTable (schema : Schema) (text : List ℕ) (tree : ℕ) (project : List Term)
    (names : List (List ℕ)) : Type 0 where
  pub order : List (Term × Key)
  pub is : command_of (understood schema text)
      ≡ Select (alone (over tree [] project order)) names
  pub plain : IsPlain (understood schema text)
  pub unlisted : reads_listing schema text ≡ false

-- The listed columns of a stored record determine the record.
pub record DeterminesRecords {X : Type 0} (kept shown : X → Row) (IsForm : Row → Type 0)
    (front : Row → Row) (project : List Term) : Type 0 where
  pub projected : (e : ℤ × X) → listed project (stored kept e) ≡ shown e.1
  pub shown_whole : (x : X) → front (shown x) ≡ shown x
  pub whole : (row : Row) → front (listed project row) ≡ listed project row
  pub keeps_form : (row : Row) → IsForm row → IsForm (front row)
  pub apart : (x y : X) → IsForm (shown x) → shown x ≡ shown y → x ≡ y

-- The listed columns of the rows are the columns of the records, in some order. Each record has the form `IsForm`.
pub record ShowRecords {X : Type 0} (shown : X → Row) (IsForm : Row → Type 0) (project : List Term)
    (rows : List Row) (records : List X) : Type 0 where
  pub same : IsPermutation (map (listed project) rows) (map shown records)
  pub formed : All IsForm (map shown records)
