-- Queries of a single table.
use Rattle.std.specs.Prelude.{ℕ, List, [], None, false, pos, negsuc}
use Rattle.sqlite_sql.specs.Term.{Term, lit}
use Rattle.sqlite_sql.specs.Query.{Query, inner, end}
use Rattle.sqlite_value.specs.declared.keys.Key.{Key}
use Rattle.sqlite_value.specs.declared.value.Value.TheVariants.{Int}
use Rattle.sqlite_schema.specs.declared.program.Program.{Program}

-- selects the rows of the table in `tree` that pass the tests in `filter`; returns the columns `project`, sorted by
-- `order`
abbrev pub over : ℕ → List Term → List Term → List (Term × Key) → Query
over tree filter project order = record {
  from = inner tree end;
  filter = filter;
  group = None;
  project = project;
  distinct = false;
  collations = [];
  order = order;
  limit = lit (Int (negsuc 0));
  offset = lit (Int (pos 0));
}

abbrev pub alone : Query → Program
alone q = record { lets = []; body = q }
