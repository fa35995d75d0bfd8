-- How the words of a line are parsed into a request.
use Rattle.std.specs.Prelude.{ℕ, Bool, false, ◌&&◌, List, [], ◌∷◌, length, ◌==◌, nat_le, Option, Some, None, codes, if◌then◌else◌, is_some, option_and_then, option_map}
use Rattle.std.specs.Str.{bytes_eq}
use Rattle.room_types.specs.Grades.{grade_of}
use Rattle.room_types.specs.Grammars.{is_key, is_label, is_name, is_person_id, is_room_code}
use Rattle.room_types.specs.Texts.{Text}
use Rattle.room_types.specs.Words.{word_of}
use Rattle.office_core.specs.declared.command.Command.TheVariants.{AddPerson, AddRoom, Blank, Cancel, CloseRound, Draw, Going, Leave, OpenRound, Publish, Remove, Reopen, Run, SetChoices, SetGrade, SetHome, SetKey, SetName, Settle, Shut, Withdraw}
use Rattle.office_core.specs.declared.query.Query.TheVariants.{Me, Moves, Order, People, Results, Rooms, Round, WhatIf}
use Rattle.office_lines.specs.parse.Values.{all_of, choices_in, in_grammar, joined, only, round_number}
use Rattle.office_core.specs.declared.requests.Request.{Request}
use Rattle.office_core.specs.declared.requests.Request.TheVariants.{Office, Ask}

-- `room CODE`
abbrev pub add_room : List Text → Option Request
add_room words = option_map (λ room. Office (AddRoom room)) (only is_room_code words)

-- `person ID KEY NAME..`, without a home; the words after the key are the name
abbrev pub add_person : List Text → Option Request
add_person (person ∷ key ∷ name) =
    option_and_then (λ id. option_and_then (λ k.
    option_map (λ n. Office (AddPerson id n k None)) (in_grammar is_name (joined name)))
    (in_grammar is_key key)) (in_grammar is_person_id person)
add_person _ = None

-- the request that a person's identifier and one more value make
abbrev pub of_person : {X : Type 0} → (Text → X → Request) → Text → Option X → Option Request
of_person request person value =
    option_and_then (λ id. option_map (λ x. request id x) value) (in_grammar is_person_id person)

-- `home ID CODE`
abbrev pub set_home : List Text → Option Request
set_home (person ∷ room ∷ []) = of_person (λ id code. Office (SetHome id code)) person (in_grammar is_room_code room)
set_home _ = None

-- `leave ID`
abbrev pub leave : List Text → Option Request
leave words = option_map (λ person. Office (Leave person)) (only is_person_id words)

-- `remove ID`
abbrev pub remove : List Text → Option Request
remove words = option_map (λ person. Office (Remove person)) (only is_person_id words)

-- `grade ID G`, where G is one decimal digit
abbrev pub set_grade : List Text → Option Request
set_grade (person ∷ grade ∷ []) = of_person (λ id value. Office (SetGrade id value)) person (grade_of grade)
set_grade _ = None

-- `name ID NAME..`; the words after the identifier are the name
abbrev pub set_name : List Text → Option Request
set_name (person ∷ name) = of_person (λ id n. Office (SetName id n)) person (in_grammar is_name (joined name))
set_name [] = None

-- `key ID KEY`
abbrev pub set_key : List Text → Option Request
set_key (person ∷ key ∷ []) = of_person (λ id k. Office (SetKey id k)) person (in_grammar is_key key)
set_key _ = None

-- `blank LABEL`
abbrev pub blank : List Text → Option Request
blank words = option_map (λ label. Office (Blank label)) (only is_label words)

-- `shut CODE`
abbrev pub shut : List Text → Option Request
shut words = option_map (λ room. Office (Shut room)) (only is_room_code words)

-- `reopen CODE`
abbrev pub reopen : List Text → Option Request
reopen words = option_map (λ room. Office (Reopen room)) (only is_room_code words)

-- `choose ID CODE..`, with zero or more codes
abbrev pub set_choices : List Text → Option Request
set_choices (person ∷ rooms) = of_person (λ id choices. Office (SetChoices id choices)) person (choices_in rooms)
set_choices [] = None

-- `withdraw ID`
abbrev pub withdraw : List Text → Option Request
withdraw words = option_map (λ person. Office (Withdraw person)) (only is_person_id words)

-- `going ID`
abbrev pub going : List Text → Option Request
going words = option_map (λ person. Office (Going person)) (only is_person_id words)

-- `draw WORD..`, with zero or more lottery numbers
abbrev pub draw : List Text → Option Request
draw words = option_map (λ drawn. Office (Draw drawn)) (all_of word_of words)

-- `moves N`, where N is 1 to 4 decimal digits
abbrev pub ask_moves : List Text → Option Request
ask_moves (round ∷ []) = option_map (λ number. Ask (Moves number)) (round_number round)
ask_moves _ = None

-- `me KEY`
abbrev pub ask_me : List Text → Option Request
ask_me words = option_map (λ key. Ask (Me key)) (only is_key words)

-- `whatif ID CODE..`, with zero or more codes
abbrev pub ask_what_if : List Text → Option Request
ask_what_if (person ∷ rooms) = of_person (λ id choices. Ask (WhatIf id choices)) person (choices_in rooms)
ask_what_if [] = None

-- the request, if no words follow the first word of the line
abbrev pub without_arguments : Request → List Text → Option Request
without_arguments request [] = Some request
without_arguments request (word ∷ rest) = None

-- there is a first word, and it is in the grammar
abbrev pub first_in : (Text → Bool) → List Text → Bool
first_in is_text [] = false
first_in is_text (word ∷ rest) = is_text word

-- the word is a lottery number
abbrev pub is_drawn_word : Text → Bool
is_drawn_word word = is_some (word_of word)

-- there are two words, and the first is the identifier of a person
abbrev pub is_person_pair : List Text → Bool
is_person_pair words = length words == 2 && first_in is_person_id words

-- there are at least `least` words, and the first is the identifier of a person
abbrev pub begins_with_person : ℕ → List Text → Bool
begins_with_person least words = nat_le least (length words) && first_in is_person_id words

-- A form of requests. `request` is the request that the words after the first word make, if any. `copies` says whether
-- parsing these words, the values of the request, may run out of memory. It may if the number of values fits the form,
-- and the first value is in its grammar. It may not for a request without values, nor for a `moves` request.
pub record Form : Type 0 where
  pub request : List Text → Option Request
  pub copies : List Text → Bool

abbrev pub form : (List Text → Option Request) → (List Text → Bool) → Form
form request copies = record { request = request; copies = copies }

-- the form of requests whose only value is a text
abbrev pub one_value : (List Text → Option Request) → Form
one_value request = form request (λ rest. is_some (request rest))

-- the form of a request without values
abbrev pub bare : Request → Form
bare request = form (without_arguments request) (λ rest. false)

-- the form of requests that the word names as the first word of a line, if any
abbrev pub form_of : Text → Option Form
form_of word =
    if bytes_eq word (codes "room") then Some (one_value add_room)
    else if bytes_eq word (codes "person") then Some (form add_person (begins_with_person 3))
    else if bytes_eq word (codes "home") then Some (form set_home is_person_pair)
    else if bytes_eq word (codes "leave") then Some (one_value leave)
    else if bytes_eq word (codes "remove") then Some (one_value remove)
    else if bytes_eq word (codes "grade") then Some (form set_grade is_person_pair)
    else if bytes_eq word (codes "name") then Some (form set_name (begins_with_person 2))
    else if bytes_eq word (codes "key") then Some (form set_key is_person_pair)
    else if bytes_eq word (codes "blank") then Some (one_value blank)
    else if bytes_eq word (codes "shut") then Some (one_value shut)
    else if bytes_eq word (codes "reopen") then Some (one_value reopen)
    else if bytes_eq word (codes "open") then Some (bare (Office OpenRound))
    else if bytes_eq word (codes "close") then Some (bare (Office CloseRound))
    else if bytes_eq word (codes "run") then Some (bare (Office Run))
    else if bytes_eq word (codes "publish") then Some (bare (Office Publish))
    else if bytes_eq word (codes "settle") then Some (bare (Office Settle))
    else if bytes_eq word (codes "cancel") then Some (bare (Office Cancel))
    else if bytes_eq word (codes "choose") then Some (form set_choices (first_in is_person_id))
    else if bytes_eq word (codes "withdraw") then Some (one_value withdraw)
    else if bytes_eq word (codes "going") then Some (one_value going)
    else if bytes_eq word (codes "draw") then Some (form draw (first_in is_drawn_word))
    else if bytes_eq word (codes "rooms") then Some (bare (Ask Rooms))
    else if bytes_eq word (codes "people") then Some (bare (Ask People))
    else if bytes_eq word (codes "round") then Some (bare (Ask Round))
    else if bytes_eq word (codes "order") then Some (bare (Ask Order))
    else if bytes_eq word (codes "results") then Some (bare (Ask Results))
    else if bytes_eq word (codes "moves") then Some (form ask_moves (λ rest. false))
    else if bytes_eq word (codes "me") then Some (one_value ask_me)
    else if bytes_eq word (codes "whatif") then Some (form ask_what_if (first_in is_person_id))
    else None

-- the request that the words after the first word make, if any; never if the first word names no form
abbrev pub request_after : Option Form → List Text → Option Request
request_after None rest = None
request_after (Some form) rest = form.request rest

-- whether parsing the words after the first word may allocate; never if the first word names no form
abbrev pub allocates_after : Option Form → List Text → Bool
allocates_after None rest = false
allocates_after (Some form) rest = form.copies rest

-- whether parsing the words as a request may allocate
abbrev pub allocates : List Text → Bool
allocates [] = false
allocates (first ∷ rest) = allocates_after (form_of first) rest

-- the request that the words make, if any
abbrev pub request_of : List Text → Option Request
request_of [] = None
request_of (first ∷ rest) = request_after (form_of first) rest

-- there is a first word, and it names a form of requests
abbrev pub names_request : List Text → Bool
names_request [] = false
names_request (first ∷ rest) = is_some (form_of first)
