-- What the query for all rows of a table means among the tables of an office, in each layout.
use Rattle.std.proofs.Common.{◌≡◌, ℕ, true, List, [], refl, sym, subst, true≢false}
use Rattle.sqlite_sql.specs.Term.{Term}
use Rattle.sqlite_schema.specs.declared.schema.Index.{Index}
use Rattle.sqlite_schema.specs.declared.schema.Schema.{Schema}
use Rattle.sqlite_schema.specs.declared.schema.Table.{Table}
use Rattle.sqlite.specs.Listing.{understood}
use Rattle.sqlite_tied.specs.Compute.{everything}
use Rattle.office_schema.specs.tables.Asking.{OnlyAsks}
use Rattle.office_schema.specs.tables.FirstTables.{Begins, followed_by}
use Rattle.office_schema.specs.declared.tables.names.TableName.{TableName}
use Rattle.office_schema.specs.declared.tables.names.TableName.TheVariants.{Rooms, People, Rounds, Choices, Words}
use Rattle.office_schema.specs.declared.tables.names.TableName.TheVariants.{Results, Moves, Lists, Grades, Going}
use Rattle.office_schema.specs.tables.Listing.{ListsTable}
use Rattle.office_schema.specs.tables.TableQueries.{has_table, query_columns, query_names, query_text, tree_in}
use Rattle.office_schema.specs.declared.tables.layouts.Layout.{Layout}
use Rattle.office_schema.specs.declared.tables.layouts.Layout.TheVariants.{Own, Documented, DocumentedSecond}
use Rattle.office_schema.specs.declared.tables.layouts.Layout.TheVariants.{DocumentedFirst, EarlierFirst}
use Rattle.office_schema.proofs.asking.Selects.{selects_only_ask}

-- What holds with any tables and indexes after those of the layout holds for each schema that begins with the layout.
pub listed_first : (text : List ℕ) (tree : ℕ) (project : List Term) (names : List (List ℕ)) (layout : Layout)
    → ((tables : List Table) (indexes : List Index) → ListsTable (followed_by layout tables indexes) text tree
    project names)
    → (schema : Schema) → Begins layout schema → ListsTable schema text tree project names
listed_first text tree project names layout behind schema begins =
    subst (λ (s : Schema). ListsTable s text tree project names) (sym begins.is) (behind begins.tables begins.indexes)

followed : (name : TableName) (layout : Layout) → has_table layout name ≡ true → (tables : List Table) (indexes : List Index)
    → ListsTable (followed_by layout tables indexes) (query_text name) (tree_in layout name) (query_columns name)
    (query_names name)
unfolding understood everything
followed Rooms Own there tables indexes = record { order = []; is = refl; plain = (refl, refl); unlisted = refl }
followed Rooms Documented there tables indexes = record { order = []; is = refl; plain = (refl, refl); unlisted = refl }
followed Rooms DocumentedSecond there tables indexes =
    record { order = []; is = refl; plain = (refl, refl); unlisted = refl }
followed Rooms DocumentedFirst there tables indexes =
    record { order = []; is = refl; plain = (refl, refl); unlisted = refl }
followed Rooms EarlierFirst there tables indexes =
    record { order = []; is = refl; plain = (refl, refl); unlisted = refl }
followed People Own there tables indexes = record { order = []; is = refl; plain = (refl, refl); unlisted = refl }
followed People Documented there tables indexes =
    record { order = []; is = refl; plain = (refl, refl); unlisted = refl }
followed People DocumentedSecond there tables indexes =
    record { order = []; is = refl; plain = (refl, refl); unlisted = refl }
followed People DocumentedFirst there tables indexes =
    record { order = []; is = refl; plain = (refl, refl); unlisted = refl }
followed People EarlierFirst there tables indexes =
    record { order = []; is = refl; plain = (refl, refl); unlisted = refl }
followed Rounds Own there tables indexes = record { order = []; is = refl; plain = (refl, refl); unlisted = refl }
followed Rounds Documented there tables indexes =
    record { order = []; is = refl; plain = (refl, refl); unlisted = refl }
followed Rounds DocumentedSecond there tables indexes =
    record { order = []; is = refl; plain = (refl, refl); unlisted = refl }
followed Rounds DocumentedFirst there tables indexes =
    record { order = []; is = refl; plain = (refl, refl); unlisted = refl }
followed Rounds EarlierFirst there tables indexes =
    record { order = []; is = refl; plain = (refl, refl); unlisted = refl }
followed Choices Own there tables indexes = record { order = []; is = refl; plain = (refl, refl); unlisted = refl }
followed Choices Documented there tables indexes =
    record { order = []; is = refl; plain = (refl, refl); unlisted = refl }
followed Choices DocumentedSecond there tables indexes =
    record { order = []; is = refl; plain = (refl, refl); unlisted = refl }
followed Choices DocumentedFirst there tables indexes =
    record { order = []; is = refl; plain = (refl, refl); unlisted = refl }
followed Choices EarlierFirst there tables indexes =
    record { order = []; is = refl; plain = (refl, refl); unlisted = refl }
followed Words Own there tables indexes = record { order = []; is = refl; plain = (refl, refl); unlisted = refl }
followed Words Documented there tables indexes = record { order = []; is = refl; plain = (refl, refl); unlisted = refl }
followed Words DocumentedSecond there tables indexes =
    record { order = []; is = refl; plain = (refl, refl); unlisted = refl }
followed Words DocumentedFirst there tables indexes =
    record { order = []; is = refl; plain = (refl, refl); unlisted = refl }
followed Words EarlierFirst there tables indexes =
    record { order = []; is = refl; plain = (refl, refl); unlisted = refl }
followed Results Own there tables indexes = record { order = []; is = refl; plain = (refl, refl); unlisted = refl }
followed Results Documented there tables indexes =
    record { order = []; is = refl; plain = (refl, refl); unlisted = refl }
followed Results DocumentedSecond there tables indexes =
    record { order = []; is = refl; plain = (refl, refl); unlisted = refl }
followed Results DocumentedFirst there tables indexes =
    record { order = []; is = refl; plain = (refl, refl); unlisted = refl }
followed Results EarlierFirst there tables indexes =
    record { order = []; is = refl; plain = (refl, refl); unlisted = refl }
followed Moves Own there tables indexes = record { order = []; is = refl; plain = (refl, refl); unlisted = refl }
followed Moves Documented there tables indexes = record { order = []; is = refl; plain = (refl, refl); unlisted = refl }
followed Moves DocumentedSecond there tables indexes =
    record { order = []; is = refl; plain = (refl, refl); unlisted = refl }
followed Moves DocumentedFirst there tables indexes =
    record { order = []; is = refl; plain = (refl, refl); unlisted = refl }
followed Moves EarlierFirst there tables indexes =
    record { order = []; is = refl; plain = (refl, refl); unlisted = refl }
followed Lists Own there tables indexes = record { order = []; is = refl; plain = (refl, refl); unlisted = refl }
followed Lists Documented there tables indexes = record { order = []; is = refl; plain = (refl, refl); unlisted = refl }
followed Lists DocumentedSecond there tables indexes =
    record { order = []; is = refl; plain = (refl, refl); unlisted = refl }
followed Lists DocumentedFirst there tables indexes =
    record { order = []; is = refl; plain = (refl, refl); unlisted = refl }
followed Lists EarlierFirst there tables indexes =
    record { order = []; is = refl; plain = (refl, refl); unlisted = refl }
followed Grades Own there tables indexes = record { order = []; is = refl; plain = (refl, refl); unlisted = refl }
followed Grades Documented there tables indexes =
    record { order = []; is = refl; plain = (refl, refl); unlisted = refl }
followed Grades DocumentedSecond there tables indexes =
    record { order = []; is = refl; plain = (refl, refl); unlisted = refl }
followed Grades DocumentedFirst there tables indexes = absurd (true≢false (sym there))
followed Grades EarlierFirst there tables indexes = absurd (true≢false (sym there))
followed Going Own there tables indexes = record { order = []; is = refl; plain = (refl, refl); unlisted = refl }
followed Going Documented there tables indexes = record { order = []; is = refl; plain = (refl, refl); unlisted = refl }
followed Going DocumentedSecond there tables indexes = absurd (true≢false (sym there))
followed Going DocumentedFirst there tables indexes = absurd (true≢false (sym there))
followed Going EarlierFirst there tables indexes = absurd (true≢false (sym there))

pub listed : (name : TableName) (layout : Layout) → has_table layout name ≡ true → (schema : Schema) → Begins layout schema
    → ListsTable schema (query_text name) (tree_in layout name) (query_columns name) (query_names name)
listed name layout there = listed_first _ _ _ _ layout (followed name layout there)

pub asked : (name : TableName) → OnlyAsks (query_text name)
unfolding everything
asked Rooms = selects_only_ask (query_text Rooms) tt
asked People = selects_only_ask (query_text People) tt
asked Rounds = selects_only_ask (query_text Rounds) tt
asked Choices = selects_only_ask (query_text Choices) tt
asked Words = selects_only_ask (query_text Words) tt
asked Results = selects_only_ask (query_text Results) tt
asked Moves = selects_only_ask (query_text Moves) tt
asked Lists = selects_only_ask (query_text Lists) tt
asked Grades = selects_only_ask (query_text Grades) tt
asked Going = selects_only_ask (query_text Going) tt
