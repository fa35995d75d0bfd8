-- Keys are valid UTF-8.
use Rattle.std.proofs.Common.{◌≡◌, ℕ, ◌<◌, Bool, true, false, cond, ◌&&◌, List, length, get_or, Some, None, refl, sym}
use Rattle.std.proofs.Common.{arith, lit<, inl, inr, IsUtf8}
use Rattle.std.proofs.lemmas.Bool.{cases_lt}
use Rattle.std.proofs.lemmas.Bool.Decides.{nat_tests}
use Rattle.std.proofs.lemmas.List.{get_or_past}
use Rattle.std.proofs.lemmas.List.Sums.{AllPass-from_list_all}
use Rattle.std.proofs.lemmas.Str.{IsUtf8-from_ascii}
use Rattle.std.specs.Int.{is_in_range}
use Rattle.std.specs.List.{list_all}
use Rattle.room_types.specs.Grammars.{is_key, is_key_byte}

is_ascii : (b : ℕ) → is_key_byte b ≡ true → b < 128
is_ascii b h = grind (arith, nat_tests)

bytes_are_text : (text : List ℕ) → list_all is_key_byte text ≡ true → IsUtf8 text
bytes_are_text text h =
    let each = AllPass-from_list_all is_key_byte text h in
    IsUtf8-from_ascii text (λ i. elim (cases_lt i (length text)) [
      | inl lt ↦ is_ascii (get_or text i 0) (each i 0 lt)
      | inr le ↦ rw (get_or_past text i 0 le) (lit< tt)
    ])

not_of_key : (text : List ℕ) (fits bytes : Bool) → bytes ≡ list_all is_key_byte text → ¬ (IsUtf8 text)
    → None ≡ cond (fits && bytes) (Some text) None
not_of_key text true true e h = absurd (h (bytes_are_text text (sym e)))
not_of_key text true false e h = refl
not_of_key text false bytes e h = refl

-- bytes that are not UTF-8 are not a key
pub no_key_of : (text : List ℕ) → ¬ (IsUtf8 text) → None ≡ cond (is_key text) (Some text) None
no_key_of text h = not_of_key text (is_in_range 16 64 (length text)) (list_all is_key_byte text) refl h
