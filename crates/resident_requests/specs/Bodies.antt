-- The JSON values in requests and responses (RFC 8259). Each definition gives an object's members in the order in
-- which they are written.
use Rattle.std.specs.Prelude.{ℕ, true, List, [], ◌∷◌, map, codes, Option, Some, None, option_and_then, if◌then◌else◌}
use Rattle.std.specs.Prelude.{Result, Ok, Err}
use Rattle.std.specs.Option.{option_map}
use Rattle.std.specs.Str.{is_utf8}
use Rattle.serde_json.specs.Data.{Data, null, boolean, number, unsigned, string, array, object, Items, no_items}
use Rattle.serde_json.specs.Data.{item, member, no_members}
use Rattle.serde_json.specs.Find.{as_array, as_str}
use Rattle.serde_json.specs.Read.{read}
use Rattle.serde_json.specs.View.{items_of}
use Rattle.room_types.specs.Choices.{choices_fault}
use Rattle.room_types.specs.Grammars.{is_room_code}
use Rattle.room_types.specs.Phases.{phase_text}
use Rattle.room_types.specs.Rows.{state_text}
use Rattle.room_types.specs.Texts.{Text}
use Rattle.room_types.specs.declared.fault.TypeFault.{TypeFault}
use Rattle.room_types.specs.declared.fault.TypeFault.TheVariants.{BadValue}
use Rattle.room_types.specs.declared.rows.RoomRow.{RoomRow}
use Rattle.office_core.specs.declared.reply.Standing.{Standing}

-- ---- responses

abbrev pub text_array : List Text → Data
text_array texts = array (items_of (map string texts))

abbrev pub text_or_null : Option Text → Data
text_or_null None = null
text_or_null (Some text) = string text

-- the JSON value that confirms a recorded preference list
abbrev pub choices_data : List Text → Data
choices_data choices = object (member (codes "choices") (text_array choices) no_members)

-- the JSON value with a resident's own record
abbrev pub standing_data : Standing → Data
standing_data standing =
    object (member (codes "choices") (text_array standing.choices)
    (member (codes "going") (boolean standing.going)
    (member (codes "home") (text_or_null standing.home)
    (member (codes "name") (string standing.name)
    (member (codes "person") (string standing.person)
    (member (codes "phase") (string (phase_text standing.phase))
    (member (codes "result") (text_or_null standing.result)
    (member (codes "round") (number (unsigned standing.round))
    (member (codes "shown") (boolean standing.shown)
    (member (codes "withdrawn") (boolean standing.withdrawn) no_members))))))))))

-- the JSON value with a room's code and state, but without its occupant
abbrev pub room_data : RoomRow → Data
room_data row =
    object (member (codes "room") (string row.room) (member (codes "state") (string (state_text row.state)) no_members))

abbrev pub rooms_data : List RoomRow → Data
rooms_data rows = array (items_of (map room_data rows))

-- the JSON value that confirms a withdrawal
abbrev pub withdrawn_data : Data
withdrawn_data = object (member (codes "withdrawn") (boolean true) no_members)

-- the JSON value with the name of an error
abbrev pub fault_data : Text → Data
fault_data name = object (member (codes "error") (string name) no_members)

-- ---- requests

-- the JSON value that the bytes encode, or `None` if they are not UTF-8 or `serde_json` cannot read them
abbrev pub json_of : List ℕ → Option Data
json_of bytes = if is_utf8 bytes then read bytes else None

-- the room code in a JSON value, or `None` if the value is not a string with a room code
abbrev pub code_in : Data → Option Text
code_in value = option_and_then (λ text. if is_room_code text then Some text else None) (as_str value)

-- the list of `code` and then the codes in `others`, or `None` if `others` is `None`
abbrev pub code_before : Text → Option (List Text) → Option (List Text)
code_before code others = option_map (λ codes. code ∷ codes) others

-- the room codes in an array's items, or `None` if an item is not a room code
abbrev pub codes_in : Items → Option (List Text)
codes_in no_items = Some []
codes_in (item value items) = option_and_then (λ code. code_before code (codes_in items)) (code_in value)

-- the room codes in the body of a request, or `None` if the body is not a JSON array of room codes
abbrev pub codes_of_body : List ℕ → Option (List Text)
codes_of_body body = option_and_then codes_in (option_and_then as_array (json_of body))

-- the codes if there is no fault, and otherwise the fault
abbrev pub unless_fault : List Text → Option TypeFault → Result (List Text) TypeFault
unless_fault codes None = Ok codes
unless_fault codes (Some fault) = Err fault

-- the preference list with these codes, or the reason why they are not a preference list
abbrev pub choices_from : Option (List Text) → Result (List Text) TypeFault
choices_from None = Err BadValue
choices_from (Some codes) = unless_fault codes (choices_fault codes)

-- the preference list in the body of a request, or the reason why the body is not one
abbrev pub choices_of_body : List ℕ → Result (List Text) TypeFault
choices_of_body body = choices_from (codes_of_body body)
