-- The bodies of responses contain no float, so their text is determined.
use Rattle.std.proofs.Common.{◌≡◌, false, List, [], ◌∷◌, map, refl, Option, Some, None}
use Rattle.serde_json.specs.Data.{string}
use Rattle.serde_json.specs.View.{items_of}
use Rattle.serde_json.specs.Written.{has_float, items_have_float}
use Rattle.room_types.specs.Texts.{Text}
use Rattle.room_types.specs.declared.rows.RoomRow.{RoomRow}
use Rattle.office_core.specs.declared.reply.Standing.{Standing}
use Rattle.resident_requests.specs.Bodies.{choices_data, room_data, rooms_data, standing_data, text_or_null}

texts : (all : List Text) → items_have_float (items_of (map string all)) ≡ false
texts [] = refl
texts (text ∷ all) = texts all

rooms : (rows : List RoomRow) → items_have_float (items_of (map room_data rows)) ≡ false
rooms [] = refl
rooms (row ∷ rows) = rooms rows

text_or : (text : Option Text) → has_float (text_or_null text) ≡ false
text_or None = refl
text_or (Some text) = refl

pub no_float_in_choices : (choices : List Text) → has_float (choices_data choices) ≡ false
no_float_in_choices choices = rw (texts choices) refl

pub no_float_in_standing : (standing : Standing) → has_float (standing_data standing) ≡ false
no_float_in_standing standing = rw (texts standing.choices, text_or standing.home, text_or standing.result) refl

pub no_float_in_rooms : (rows : List RoomRow) → has_float (rooms_data rows) ≡ false
no_float_in_rooms rows = rooms rows
