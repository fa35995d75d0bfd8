-- A query whose answer is an export.
use Rattle.std.specs.Prelude.{◌≡◌, ℕ, false, List, [], ◌∷◌, map}
use Rattle.sqlite_value.specs.Order.{Row}
use Rattle.sqlite_sql.specs.Query.{Query}
use Rattle.sqlite_schema.specs.declared.command.Command.TheVariants.{Select}
use Rattle.sqlite.specs.Effect.{Answers, Database}
use Rattle.sqlite.specs.Given.{IsPlain}
use Rattle.sqlite.specs.Listing.{reads_listing, understood}
use Rattle.sqlite.proofs.Callers.{command_of}
use Rattle.office_state.specs.Office.Invariants.{IsLawful}
use Rattle.office_state.specs.declared.office.Office.{Office}
use Rattle.office_lists.specs.Exports.{header_of}
use Rattle.office_lists.specs.Records.{Record}
use Rattle.office_lists.specs.declared.exports.ExportKind.{ExportKind}
use Rattle.office_schema.specs.tables.Asking.{OnlyAsks}
use Rattle.office_schema.specs.tables.Schema.{office_schema}
use Rattle.office_schema.specs.tables.Tables.{HoldsOffice}
use Rattle.office_schema.specs.tables.Queries.{alone}
use Rattle.office_store.specs.exports.Exports.{exported}

-- Under the schema of an office, the text is a query that changes nothing. Over the rows of a lawful office, it
-- returns one row for each record of the export after the header, in the order of the export.
pub record AsksForExport (kind : ExportKind) (text : List ℕ) (fields : Row → Record) : Type 0 where
  pub query : Query
  pub names : List (List ℕ)
  pub is : command_of (understood office_schema text) ≡ Select (alone query) names
  pub plain : IsPlain (understood office_schema text)
  pub unlisted : reads_listing office_schema text ≡ false
  pub asks : OnlyAsks text
  pub answers : (db : Database) (office : Office) (rows : List Row) → HoldsOffice db office → IsLawful office
      → Answers db (alone query) [] rows → header_of kind ∷ map fields rows ≡ exported kind office
