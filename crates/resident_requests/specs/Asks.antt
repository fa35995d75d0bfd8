-- How the bytes of a connection form a request: they start with a head (RFC 9112, sections 2 to 6), and the body
-- follows it.
use Rattle.std.specs.Prelude.{◌≡◌, ⊤, ℕ, ◌+◌, ◌<◌, ◌≤◌, ◌⊎◌, Bool, true, false, ◌==◌, List, [], ◌∷◌, ◌++◌, length, take}
use Rattle.std.specs.Prelude.{nat_lt, map, codes, if◌then◌else◌, Option, Some, None, Result, Ok, Err}
use Rattle.std.specs.Option.{option_map}
use Rattle.std.specs.List.{before_first, list_any}
use Rattle.httparse.specs.Grammar.{RequestHead, print_request, ReadsRequest, HasNoRequest, MayBecomeRequest}
use Rattle.httparse.specs.Spans.{name_and_value, RequestOverflows}
use Rattle.room_types.specs.Grammars.{is_key}
use Rattle.resident_requests.specs.Fields.{NamedValue, values_of, is_decimal, number_of}
use Rattle.resident_requests.specs.declared.ask.AskState.{AskState}
use Rattle.resident_requests.specs.declared.ask.AskState.TheVariants as state

-- The result of parsing a request, like `AskState`, but with lists of bytes in place of borrows. Either more bytes
-- are needed, or the request is complete, or there is a fault with the status of its response.
pub data Asked : Type 0 where
  more : Asked
  ask : (method path : List ℕ) (key : Option (List ℕ)) (body : List ℕ) (used : ℕ) → Asked
  fault : (status : ℕ) → Asked

abbrev pub seen : AskState → Asked
seen state.More = more
seen (state.Ask method path key body used) = ask method.now path.now (option_map (λ k. k.now) key) body.now used
seen (state.Fault status) = fault status

-- the greatest number of bytes of a head
abbrev pub head_limit : ℕ
head_limit = 8192

-- the greatest number of fields of a head
abbrev pub field_limit : ℕ
field_limit = 64

-- the greatest number of bytes of a body
abbrev pub body_limit : ℕ
body_limit = 1024

-- These values of the fields `Host` are a fault: there are several, or there is none and the version is HTTP/1.1.
-- `minor` is the minor version.
abbrev pub has_bad_host : ℕ → List (List ℕ) → Bool
has_bad_host minor [] = minor == 1
has_bad_host minor (host ∷ []) = false
has_bad_host minor (host ∷ other ∷ hosts) = true

-- there is at least one value
abbrev pub is_present : List (List ℕ) → Bool
is_present [] = false
is_present (value ∷ values) = true

-- the key that these values of the fields `Room-Key` give: the value, if there is exactly one and it is in the
-- grammar of keys
abbrev pub key_of : List (List ℕ) → Option (List ℕ)
key_of [] = None
key_of (value ∷ []) = if is_key value then Some value else None
key_of (value ∷ other ∷ values) = None

-- The length of the body that these values of the fields `Content-Length` give, or the status of their fault. Without
-- a value, the length is 0.
abbrev pub body_length : List (List ℕ) → Result ℕ ℕ
body_length [] = Ok 0
body_length (value ∷ []) =
    if is_decimal value then (if nat_lt body_limit (number_of value) then Err 413 else Ok (number_of value)) else Err 400
body_length (value ∷ other ∷ values) = Err 400

-- the part of the target before its first question mark
abbrev pub path_of : List ℕ → List ℕ
path_of target = before_first (λ byte. byte == 63) target

-- The result, given the body's length or the status of its fault. A fault of the length is the result. Otherwise the
-- result is `more` while `rest` is shorter than the body, and the request once the body is complete.
abbrev pub asked_with : List ℕ → List ℕ → Option (List ℕ) → ℕ → List ℕ → Result ℕ ℕ → Asked
asked_with method path key len rest (Err status) = fault status
asked_with method path key len rest (Ok n) =
    if nat_lt (length rest) n then more else ask method path key (take n rest) (len + n)

-- The result for a head with these parts and the length `len`, followed by the bytes `rest`. If several faults apply,
-- the result is the first of them in the order of this definition.
unfoldable pub asked_of : List ℕ → List ℕ → ℕ → List NamedValue → ℕ → List ℕ → Asked
asked_of method target minor fields len rest =
    if has_bad_host minor (values_of (codes "host") fields) then fault 400
    else if is_present (values_of (codes "expect") fields) then fault 417
    else if is_present (values_of (codes "transfer-encoding") fields) then fault 501
    else asked_with method (path_of target)
    (key_of (values_of (codes "room-key") fields)) len rest
    (body_length (values_of (codes "content-length") fields))

-- the result for this head, followed by the bytes `rest`
abbrev pub asked_by : RequestHead → List ℕ → Asked
asked_by head rest =
    asked_of head.method head.target head.minor (map name_and_value head.fields) (length (print_request head)) rest

-- the first 8,192 bytes, or all if there are fewer; a head must end within them
unfoldable pub window : List ℕ → List ℕ
window bytes = take head_limit bytes

-- The bytes are this head and then `rest`. The head is within the limits of length and number of fields.
pub record HasHead (bytes : List ℕ) (head : RequestHead) (rest : List ℕ) : Type 0 where
  pub reads : ReadsRequest bytes head rest
  pub short : length (print_request head) ≤ head_limit
  pub few_fields : length head.fields ≤ field_limit

-- The bytes are fewer than `head_limit` and do not start with a complete head. Either further bytes can complete a
-- head, or the bytes end within the request target.
pub record AwaitsHead (bytes : List ℕ) : Type 0 where
  pub few : length bytes < head_limit
  pub none : HasNoRequest bytes
  pub can_come : MayBecomeRequest bytes

-- One of two cases holds. In the first, every head that the first 8,192 bytes start with, or can become, has more
-- than 64 fields. This case includes bytes for which there is no such head. In the second, there are at least 8,192
-- bytes, and the first 8,192 do not start with a complete head.
abbrev pub LacksHead : List ℕ → Type 0
LacksHead bytes =
    RequestOverflows field_limit (window bytes) ⊎ ((head_limit ≤ length bytes) × HasNoRequest (window bytes))

-- `read_ask` may return `asked` for these bytes. If they start with a complete head within the limits, `asked` is the
-- result for this head and the bytes after it. `asked` may be `more` if `AwaitsHead` holds for the bytes, and the
-- fault 400 if `LacksHead` holds.
abbrev pub Asks : List ℕ → Asked → Type 0
Asks bytes asked =
    ((head : RequestHead) × (rest : List ℕ) × HasHead bytes head rest × (asked ≡ asked_by head rest))
    ⊎ (((asked ≡ more) × AwaitsHead bytes) ⊎ ((asked ≡ fault 400) × LacksHead bytes))

-- the result is that more bytes are needed
abbrev pub is_more : Asked → Bool
is_more more = true
is_more (ask method path key body used) = false
is_more (fault status) = false

-- the result is a request
abbrev pub is_request : Asked → Bool
is_request more = false
is_request (ask method path key body used) = true
is_request (fault status) = false

-- the status is one that a fault of `read_ask` may have
abbrev pub is_early_status : ℕ → Bool
is_early_status status = list_any (λ known. known == status) (400 ∷ 413 ∷ 417 ∷ 501 ∷ [])

abbrev pub HasEarlyStatus : Asked → Type 0
HasEarlyStatus more = ⊤
HasEarlyStatus (ask method path key body used) = ⊤
HasEarlyStatus (fault status) = is_early_status status ≡ true

-- The first 8,192 bytes start with a head, or further bytes can complete one. Every such head has more than 64
-- fields.
pub record BeginsTooManyFields (bytes : List ℕ) : Type 0 where
  pub too_many : RequestOverflows field_limit (window bytes)
  pub some : (more : List ℕ) × (head : RequestHead) × (rest : List ℕ) × ReadsRequest (window bytes ++ more) head rest
