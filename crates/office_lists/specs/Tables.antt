-- The text tables of rooms, people and results.
use Rattle.std.specs.Prelude.{ℕ, ◌-◌, List, [], ◌∷◌, ◌++◌, replicate, codes, Option, unwrap_or}
use Rattle.std.specs.List.{flat_map}
use Rattle.std.specs.Fmt.{char_count}
use Rattle.room_types.specs.Texts.{Text}
use Rattle.room_types.specs.Rows.{state_text}
use Rattle.room_types.specs.declared.rows.ResultRow.{ResultRow}
use Rattle.room_types.specs.declared.rows.RoomRow.{RoomRow}
use Rattle.room_types.specs.declared.rows.PersonRow.{PersonRow}

-- the text, padded on the right with spaces to `width` characters
abbrev pub left_aligned : ℕ → Text → Text
left_aligned width text = text ++ replicate (width - char_count text) 32

-- a line of a table: each cell but the last is padded to the width of its column, and two spaces stand between two
-- columns
abbrev pub line : List ℕ → List Text → Text
line (width ∷ widths) (cell ∷ cells) = left_aligned width cell ++ (codes "  " ++ line widths cells)
line [] (cell ∷ cells) = cell ++ codes "\n"
line widths [] = codes "\n"

-- a table: a line of headings, and a line for each row
abbrev pub table : {Row : Type 0} → List ℕ → List Text → (Row → List Text) → List Row → Text
table widths headings cells rows = line widths headings
    ++ flat_map (λ row. line widths (cells row)) rows

-- the text, or the word `none` if there is no text
abbrev pub or_none : Option Text → Text
or_none text = unwrap_or text (codes "none")

-- the table of rooms: each room has a line with its code, state and tenant
abbrev pub rooms_table : List RoomRow → Text
rooms_table =
    table (8 ∷ 8 ∷ []) (codes "room" ∷ codes "state" ∷ codes "tenant" ∷ [])
    (λ row. row.room ∷ state_text row.state ∷ or_none row.tenant ∷ [])

-- the table of people: each person has a line with their identifier, home and name
abbrev pub people_table : List PersonRow → Text
people_table =
    table (12 ∷ 8 ∷ []) (codes "person" ∷ codes "home" ∷ codes "name" ∷ [])
    (λ row. row.person ∷ or_none row.home ∷ row.name ∷ [])

-- the table of results: a line for each participant, with the room that they get
abbrev pub results_table : List ResultRow → Text
results_table = table (12 ∷ []) (codes "person" ∷ codes "room" ∷ []) (λ row. row.person ∷ or_none row.room ∷ [])
