-- Gathering lists from rows in order.
use Rattle.std.specs.Prelude.{◌++◌, List, [], ◌∷◌, length, eqb, Option, Some, None, unwrap_or}
use Rattle.std.specs.Prelude.{if◌then◌else◌}
use Rattle.std.specs.declared.cmp.Ordering.{Ordering}
use Rattle.std.specs.Ordering.{nat_cmp, ordering_then}
use Rattle.std.specs.FinMap as map
use Rattle.room_types.specs.Texts.{Text, TextMap, text_cmp}
use Rattle.office_state.specs.Inner.Soundness.{is_choices}
use Rattle.office_schema.specs.declared.rows.records.ChoiceRecord.{ChoiceRecord}

-- compares rows by person, then place, then room
abbrev pub row_cmp : ChoiceRecord → ChoiceRecord → Ordering
row_cmp a b =
    ordering_then (text_cmp a.person b.person)
    (ordering_then (nat_cmp a.place b.place) (text_cmp a.room b.room))

-- the list of a person, or the empty list if the person has none
abbrev pub list_at : TextMap (List Text) → Text → List Text
list_at lists person = unwrap_or (map.get lists person) []

-- Appends the room of each row to the list of the row's person. The result is `None` if the place of a row is not the
-- length of this list so far.
abbrev pub gathered : TextMap (List Text) → List ChoiceRecord → Option (TextMap (List Text))
gathered lists [] = Some lists
gathered lists (row ∷ rows) =
    if eqb row.place (length (list_at lists row.person))
    then gathered (map.insert lists row.person (list_at lists row.person ++ row.room ∷ [])) rows
    else None

-- Inserts the entries into the map. The result is `None` if the list of an entry is not a valid list of choices.
abbrev pub chosen_from : TextMap (List Text) → List (Text × List Text)
    → Option (TextMap (List Text))
chosen_from made [] = Some made
chosen_from made (e ∷ es) =
    if is_choices e.1 then chosen_from (map.insert made e.0 e.1) es else None
