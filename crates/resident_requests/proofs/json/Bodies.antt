-- Lemmas about the JSON of bodies.
use Rattle.std.proofs.Common.{◌≡◌, ℕ, ◌<◌, ◌⊎◌, Bool, true, false, cond, List, [], ◌∷◌, length, Option, Some, None}
use Rattle.std.proofs.Common.{Result, Ok, Err, refl, sym, ap, ◌∙◌, IsUtf8, IfErr, MatchResult, option_and_then, inl}
use Rattle.std.proofs.Common.{inr, arith}
use Rattle.std.proofs.lemmas.Str.{IsUtf8-from_is_utf8, is_utf8-from_IsUtf8}
use Rattle.std.specs.Str.{is_utf8}
use Rattle.serde_json.specs.Data.{Data, Items}
use Rattle.serde_json.specs.Find.{as_array}
use Rattle.serde_json.specs.Read.{read}
use Rattle.serde_json.proofs.OnLiterals.{serde_json_on_literals}
use Rattle.room_types.specs.Choices.{choices_fault, RepeatsRoom}
use Rattle.room_types.specs.Texts.{Text}
use Rattle.room_types.specs.declared.fault.TypeFault.{TypeFault}
use Rattle.room_types.specs.declared.fault.TypeFault.TheVariants.{OutOfMemory}
use Rattle.resident_requests.specs.Bodies.{json_of, codes_in, unless_fault, choices_from, choices_of_body}

pub json_of_text : (bytes : List ℕ) (value : Data) → IsUtf8 bytes → read bytes ≡ Some value → json_of bytes ≡ Some value
json_of_text bytes value text e = rw (is_utf8-from_IsUtf8 bytes text) e

no_json : (bytes : List ℕ) (test : Bool) → is_utf8 bytes ≡ test → (IsUtf8 bytes → read bytes ≡ None)
    → cond test (read bytes) None ≡ None
no_json bytes true e h = h (IsUtf8-from_is_utf8 bytes e)
no_json bytes false e h = refl

pub json_of_other : (bytes : List ℕ) → (IsUtf8 bytes → read bytes ≡ None) → json_of bytes ≡ None
json_of_other bytes h = no_json bytes (is_utf8 bytes) refl h

empty_is_none : json_of [] ≡ None
unfolding serde_json_on_literals
empty_is_none = no_json [] (is_utf8 []) refl (λ _. refl)

-- a JSON value has at least one byte
pub some_bytes : (bytes : List ℕ) (value : Data) → json_of bytes ≡ Some value → 0 < length bytes
some_bytes [] value e = absurd (let none = empty_is_none in cc)
some_bytes (b ∷ bytes) value e = omega arith

-- the choices of a body that is an array of these items
pub choices_of_items : (body : List ℕ) (value : Data) (items : Items) (codes : Option (List Text))
    → json_of body ≡ Some value → Some items ≡ as_array value → codes_in items ≡ codes
    → choices_of_body body ≡ choices_from codes
choices_of_items body value items codes returned array e =
    ap (λ d. choices_from (option_and_then codes_in (option_and_then as_array d))) returned
    ∙ ap (λ a. choices_from (option_and_then codes_in a)) (sym array) ∙ ap choices_from e

-- the error that `Choices::read` returns for these codes is the error of the body
pub refused_choices : (body : List ℕ) (codes : List Text) (r : Result (List Text) TypeFault)
    → choices_of_body body ≡ choices_from (Some codes) → 0 < length body
    → MatchResult r (λ value. (value ≡ codes) × (choices_fault codes ≡ None))
    (λ fault. ((fault ≡ OutOfMemory) × RepeatsRoom codes) ⊎ (choices_fault codes ≡ Some fault))
    → IfErr r (λ fault. ((fault ≡ OutOfMemory) × (0 < length body)) ⊎ (choices_of_body body ≡ Err fault))
refused_choices body codes (Ok value) returned some h = tt
refused_choices body codes (Err fault) returned some (inl memory) = inl (memory.0, some)
refused_choices body codes (Err fault) returned some (inr other) = inr (returned ∙ ap (unless_fault codes) other)
