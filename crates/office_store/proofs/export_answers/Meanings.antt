-- What the queries mean among the tables of an office.
use Rattle.std.proofs.Common.{◌≡◌, false, List, ℕ, [], ◌∷◌, codes, refl}
use Rattle.sqlite_sql.specs.Query.{Query}
use Rattle.sqlite_schema.specs.declared.command.Command.TheVariants.{Select}
use Rattle.sqlite.specs.Given.{IsPlain}
use Rattle.sqlite.specs.Listing.{understood, reads_listing}
use Rattle.sqlite.proofs.Callers.{command_of}
use Rattle.sqlite_tied.specs.Compute.{everything}
use Rattle.office_schema.proofs.asking.Selects.{selects_only_ask}
use Rattle.office_schema.specs.tables.Asking.{OnlyAsks}
use Rattle.office_schema.specs.tables.Schema.{office_schema}
use Rattle.office_schema.specs.tables.Queries.{alone}
use Rattle.office_store.specs.exports.Queries as queries

-- The text means this query.
pub record Means (text : List ℕ) (query : Query) (names : List (List ℕ)) : Type 0 where
  pub is : command_of (understood office_schema text) ≡ Select (alone query) names
  pub plain : IsPlain (understood office_schema text)
  pub unlisted : reads_listing office_schema text ≡ false
  pub asks : OnlyAsks text

abbrev pub room_names : List (List ℕ)
room_names = codes "code" ∷ codes "shut" ∷ codes "id" ∷ []

pub rooms_meant : Means queries.rooms_text queries.rooms_query room_names
unfolding understood everything
rooms_meant = record { is = refl; plain = (refl, refl); unlisted = refl; asks = selects_only_ask queries.rooms_text tt }

abbrev pub person_names : List (List ℕ)
person_names = codes "id" ∷ codes "name" ∷ codes "home" ∷ []

pub people_meant : Means queries.people_text queries.people_query person_names
unfolding understood everything
people_meant =
    record { is = refl; plain = (refl, refl); unlisted = refl; asks = selects_only_ask queries.people_text tt }

abbrev pub move_names : List (List ℕ)
move_names = codes "round" ∷ codes "person" ∷ codes "from_room" ∷ codes "to_room" ∷ codes "wave" ∷ []

pub moves_meant : Means queries.moves_text queries.moves_query move_names
unfolding understood everything
moves_meant = record { is = refl; plain = (refl, refl); unlisted = refl; asks = selects_only_ask queries.moves_text tt }

abbrev pub grade_names : List (List ℕ)
grade_names = codes "id" ∷ codes "value" ∷ []

pub grades_meant : Means queries.grades_text queries.grades_query grade_names
unfolding understood everything
grades_meant =
    record { is = refl; plain = (refl, refl); unlisted = refl; asks = selects_only_ask queries.grades_text tt }
