-- Tables that differ in the order of one of them.
use Rattle.std.proofs.Common.{List, IsPermutation}
use Rattle.std.proofs.lemmas.List.Sorted.{IsPermutation-refl, IsPermutation-trans}
use Rattle.office_schema.specs.rows.Tables.{Tables}
use Rattle.office_schema.specs.rows.SameRows.{AreSameRows}
use Rattle.office_schema.specs.declared.tables.names.TableName.{TableName}
use Rattle.office_schema.specs.declared.tables.names.TableName.TheVariants.{Rooms, People, Rounds, Choices, Words}
use Rattle.office_schema.specs.declared.tables.names.TableName.TheVariants.{Results, Moves, Lists, Grades, Going}
use Rattle.office_schema.specs.tables.ByName.{RecordOf, records_of, with_records}
use Rattle.office_schema.proofs.statements.ByName.{at_name}

-- What `AreSameRows` says, by name.
from_names : (a b : Tables) → ((n : TableName) → IsPermutation (records_of a n) (records_of b n)) → AreSameRows a b
from_names a b same = record {
  rooms = same Rooms;
  people = same People;
  rounds = same Rounds;
  choices = same Choices;
  words = same Words;
  results = same Results;
  moves = same Moves;
  lists = same Lists;
  grades = same Grades;
  going = same Going;
}

pub alike_at : (a b : Tables) → AreSameRows a b → (n : TableName) → IsPermutation (records_of a n) (records_of b n)
alike_at a b h Rooms = h.rooms
alike_at a b h People = h.people
alike_at a b h Rounds = h.rounds
alike_at a b h Choices = h.choices
alike_at a b h Words = h.words
alike_at a b h Results = h.results
alike_at a b h Moves = h.moves
alike_at a b h Lists = h.lists
alike_at a b h Grades = h.grades
alike_at a b h Going = h.going

pub alike-refl : (tables : Tables) → AreSameRows tables tables
alike-refl t = from_names t t (λ n. IsPermutation-refl (records_of t n))

pub alike-trans : (a b c : Tables) → AreSameRows a b → AreSameRows b c → AreSameRows a c
alike-trans a b c h k = from_names a c (λ n. IsPermutation-trans _ _ _ (alike_at a b h n) (alike_at b c k n))

-- The order of the records of one table does not matter.
pub one_alike : (t : Tables) (name : TableName) (xs ys : List (RecordOf name)) → IsPermutation xs ys
    → AreSameRows (with_records t name xs) (with_records t name ys)
one_alike t name xs ys same = from_names (with_records t name xs) (with_records t name ys)
    (at_name (λ n. IsPermutation) t name xs ys same (λ n. IsPermutation-refl (records_of t n)))
