use Rattle.std.proofs.Common.{drop, take, []}
use Rattle.office_schema.specs.tables.Layouts.{schema_of}
use Rattle.office_schema.specs.tables.Schema.{first_tables, office_schema}
use Rattle.office_schema.proofs.statements.Cleared.{and_then, first_three, rebuilds}
use Rattle.office_schema.proofs.statements.Runs.{some_then}
use Rattle.office_schema.proofs.tables.refilling.rebuild_tables.Goals as goal

pub returns : goal.returns
returns g c =
    some_then c.in_ok-drop_tables_to.ensures.runs c.create_tables_from.ensures.runs
    (λ early dropped made. rebuilds c.args.layout _ _
    (and_then _ _ _ early
    (schema_of c.args.layout) (first_tables 3) (first_tables 10) (take 3 office_schema.tables)
    (take 3 office_schema.tables) [] (drop 3 (take 10 office_schema.tables))
    (λ x y h. h) (first_three c.args.layout _ _ dropped) made))
