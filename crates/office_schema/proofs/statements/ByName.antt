-- Laws of the tables by their names.
use Rattle.std.proofs.Common.{◌≡◌, ◌≢◌, List, refl}
use Rattle.office_schema.specs.rows.Tables.{Tables}
use Rattle.office_schema.specs.declared.tables.names.TableName.{TableName}
use Rattle.office_schema.specs.tables.ByName.{RecordOf, records_of, with_records}
use Rattle.office_schema.specs.declared.tables.names.TableName.TheVariants.{Rooms, People, Rounds, Choices, Words}
use Rattle.office_schema.specs.declared.tables.names.TableName.TheVariants.{Results, Moves, Lists, Grades, Going}

-- What is proved of each of the ten tables holds of a table with any name.
pub each_name : (Fact : TableName → Type 0) → Fact Rooms → Fact People → Fact Rounds → Fact Choices → Fact Words
    → Fact Results → Fact Moves → Fact Lists → Fact Grades → Fact Going → (name : TableName) → Fact name
each_name Fact a b c d e f g h i j Rooms = a
each_name Fact a b c d e f g h i j People = b
each_name Fact a b c d e f g h i j Rounds = c
each_name Fact a b c d e f g h i j Choices = d
each_name Fact a b c d e f g h i j Words = e
each_name Fact a b c d e f g h i j Results = f
each_name Fact a b c d e f g h i j Moves = g
each_name Fact a b c d e f g h i j Lists = h
each_name Fact a b c d e f g h i j Grades = i
each_name Fact a b c d e f g h i j Going = j

-- If a fact holds of the records that replace those of one table, and of each other table, it holds of each table.
pub each_pair : (Fact : (n : TableName) → List (RecordOf n) → List (RecordOf n) → Type 0) (t u : Tables)
    (name : TableName)
    (xs ys : List (RecordOf name)) → Fact name xs ys
    → ((n : TableName) → n ≢ name → Fact n (records_of t n) (records_of u n))
    → (n : TableName) → Fact n (records_of (with_records t name xs) n) (records_of (with_records u name ys) n)
each_pair Fact t u Rooms xs ys here others Rooms = here
each_pair Fact t u Rooms xs ys here others n = others n (λ e. absurd (cc))
each_pair Fact t u People xs ys here others People = here
each_pair Fact t u People xs ys here others n = others n (λ e. absurd (cc))
each_pair Fact t u Rounds xs ys here others Rounds = here
each_pair Fact t u Rounds xs ys here others n = others n (λ e. absurd (cc))
each_pair Fact t u Choices xs ys here others Choices = here
each_pair Fact t u Choices xs ys here others n = others n (λ e. absurd (cc))
each_pair Fact t u Words xs ys here others Words = here
each_pair Fact t u Words xs ys here others n = others n (λ e. absurd (cc))
each_pair Fact t u Results xs ys here others Results = here
each_pair Fact t u Results xs ys here others n = others n (λ e. absurd (cc))
each_pair Fact t u Moves xs ys here others Moves = here
each_pair Fact t u Moves xs ys here others n = others n (λ e. absurd (cc))
each_pair Fact t u Lists xs ys here others Lists = here
each_pair Fact t u Lists xs ys here others n = others n (λ e. absurd (cc))
each_pair Fact t u Grades xs ys here others Grades = here
each_pair Fact t u Grades xs ys here others n = others n (λ e. absurd (cc))
each_pair Fact t u Going xs ys here others Going = here
each_pair Fact t u Going xs ys here others n = others n (λ e. absurd (cc))

-- the same for a fact of one list of records
pub each_table : (Fact : (n : TableName) → List (RecordOf n) → Type 0) (t : Tables) (name : TableName)
    (xs : List (RecordOf name)) → Fact name xs → ((n : TableName) → n ≢ name → Fact n (records_of t n))
    → (n : TableName) → Fact n (records_of (with_records t name xs) n)
each_table Fact t name xs = each_pair (λ n ys _. Fact n ys) t t name xs xs

-- the same for two replacements in the same tables
pub at_name : (Fact : (n : TableName) → List (RecordOf n) → List (RecordOf n) → Type 0) (t : Tables) (name : TableName)
    (xs ys : List (RecordOf name)) → Fact name xs ys → ((n : TableName) → Fact n (records_of t n) (records_of t n))
    → (n : TableName) → Fact n (records_of (with_records t name xs) n) (records_of (with_records t name ys) n)
at_name Fact t name xs ys here others = each_pair Fact t t name xs ys here (λ n _. others n)

-- ---- the records of one table

pub records_put : (name : TableName) (t : Tables) (xs : List (RecordOf name))
    → records_of (with_records t name xs) name ≡ xs
records_put =
    each_name (λ n. (t : Tables) (xs : List (RecordOf n)) → records_of (with_records t n xs) n ≡ xs)
    (λ t xs. refl) (λ t xs. refl) (λ t xs. refl) (λ t xs. refl) (λ t xs. refl)
    (λ t xs. refl) (λ t xs. refl) (λ t xs. refl) (λ t xs. refl) (λ t xs. refl)

pub records_kept : (name : TableName) (t : Tables) → with_records t name (records_of t name) ≡ t
records_kept =
    each_name (λ n. (t : Tables) → with_records t n (records_of t n) ≡ t)
    (λ t. refl) (λ t. refl) (λ t. refl) (λ t. refl) (λ t. refl)
    (λ t. refl) (λ t. refl) (λ t. refl) (λ t. refl) (λ t. refl)

pub records_replaced : (name : TableName) (t : Tables) (xs ys : List (RecordOf name))
    → with_records (with_records t name xs) name ys ≡ with_records t name ys
records_replaced =
    each_name
    (λ n. (t : Tables) (xs ys : List (RecordOf n)) → with_records (with_records t n xs) n ys ≡ with_records t n ys)
    (λ t xs ys. refl) (λ t xs ys. refl) (λ t xs ys. refl) (λ t xs ys. refl) (λ t xs ys. refl)
    (λ t xs ys. refl) (λ t xs ys. refl) (λ t xs ys. refl) (λ t xs ys. refl) (λ t xs ys. refl)
