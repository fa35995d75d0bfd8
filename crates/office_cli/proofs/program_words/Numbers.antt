-- The number of an argument, as `get_one` reads it.
use Rattle.std.proofs.Common.{◌≡◌, ◌∙◌, ◌<◌, ◌≤◌, ◌^◌, ◌-◌, ◌&&◌, ℕ, Bool, true, false, cond, Option, Some, None}
use Rattle.std.proofs.Common.{Result, Ok, Err, nat_le, nat_lt, le-leb, refl, sym, ap, arith}
use Rattle.std.proofs.lemmas.Bool.Decides.{nat_tests}
use Rattle.clap.specs.declared.parser.matches.Found.{Found}
use Rattle.std.specs.Option.{option_and_then}
use Rattle.std.specs.Str.Parse.{IsNumeral, ParsesUnsigned, digits_value, without_leading_plus}
use Rattle.clap.specs.Words.{ReadsOne, Text, one_text, rows_of}
use Rattle.clap.specs.ValueTests.{is_numeral, is_unsigned_in}
use Rattle.clap.specs.declared.builder.value_parser.ValueParser.TheVariants as parser
use Rattle.clap.proofs.ValueTestLemmas.{Accepts-accepts, accepts-Accepts}
use Rattle.clap.proofs.WalkLemmas.{both, one_text-rows}
use Rattle.office_cli.specs.Programs.{number_between, number_of}

abbrev pub kept : ℕ → ℕ → ℕ → Option ℕ
kept low high n = cond (nat_le low n && nat_le n high) (Some n) None

pub kept_in : (low high n : ℕ) → low ≤ n → n ≤ high → kept low high n ≡ Some n
kept_in low high n above below = rw (le-leb low n above, le-leb n high below) refl

pub kept_below : (low high n : ℕ) → n < low → kept low high n ≡ None
kept_below low high n below = grind (arith, nat_tests)

pub kept_above : (low high n : ℕ) → high < n → kept low high n ≡ None
kept_above low high n above = grind (arith, nat_tests)

abbrev value_in : Text → ℕ
value_in t = digits_value 10 (without_leading_plus t)

-- a 32-bit numeral gives its number if it is within the bounds
pub numeral_between : (low high : ℕ) (t : Text) → IsNumeral 10 (without_leading_plus t) → value_in t < 2 ^ 32
    → number_between low high t ≡ kept low high (value_in t)
numeral_between low high t num small =
    let all : is_unsigned_in 0 (2 ^ 64 - 1) t ≡ true =
    Accepts-accepts false (parser.Unsigned 0 (2 ^ 64 - 1)) t (num, omega arith, omega arith, omega arith) in
    let parts =
    both (is_numeral (without_leading_plus t))
    (nat_lt (value_in t) (2 ^ 64) && (nat_le 0 (value_in t) && nat_le (value_in t) (2 ^ 64 - 1))) all in
    let fits =
    both (nat_lt (value_in t) (2 ^ 64)) (nat_le 0 (value_in t) && nat_le (value_in t) (2 ^ 64 - 1)) parts.1 in
    ap (λ (b : Bool). cond
    (b && (nat_lt (value_in t) (2 ^ 64) && (nat_le low (value_in t) && nat_le (value_in t) high)))
    (Some (value_in t)) None) parts.0
    ∙ ap (λ (b : Bool). cond (b && (nat_le low (value_in t) && nat_le (value_in t) high)) (Some (value_in t)) None)
    fits.0

-- any other text gives no number
pub none_between : (low high : ℕ) (t : Text) → high < 2 ^ 32
    → ¬ (IsNumeral 10 (without_leading_plus t) × (value_in t < 2 ^ 32)) → number_between low high t ≡ None
none_between low high t bound refuted = go (is_unsigned_in low high t) refl
  where
    go : (b : Bool) → is_unsigned_in low high t ≡ b → number_between low high t ≡ None
    go true e =
        let h = accepts-Accepts false (parser.Unsigned low high) t e in
        absurd (refuted (h.0, omega (arith, h.3)))
    go false e = ap (λ (b : Bool). cond b (Some (value_in t)) None) e

-- what `get_one` reads, if it is within the bounds, is the number within them
pub number_read : {E : Type 0} (G : Text → Result ℕ E → Type 0)
    → ((u : Text) (x : Result ℕ E) → G u x → ParsesUnsigned 32 10 u x)
    → (low high : ℕ) → high < 2 ^ 32 → (o : Option Text) (r : Option ℕ) → (o ≡ None → r ≡ None)
    → ((t : Text) → o ≡ Some t → ReadsOne G t r)
    → option_and_then (kept low high) r ≡ option_and_then (number_between low high) o
number_read G only low high bound None r none value = ap (option_and_then (kept low high)) (none refl)
number_read {E} G only low high bound (Some t) r none value = go r (value t refl)
  where
    go : (x : Option ℕ) → ReadsOne G t x → option_and_then (kept low high) x ≡ number_between low high t
    go (Some v) h =
        let parsed = only t (Ok v) h in
        ap (kept low high) parsed.1 ∙ sym (numeral_between low high t parsed.0.0 parsed.0.1)
    go None h = sym (none_between low high t bound (only t (Err h.0) h.1))

-- the same for the argument with an id
pub number_given : {E : Type 0} (G : Text → Result ℕ E → Type 0)
    → ((u : Text) (x : Result ℕ E) → G u x → ParsesUnsigned 32 10 u x)
    → (low high : ℕ) → high < 2 ^ 32 → (f : Found) (id : Text) (r : Option ℕ) → (one_text f id ≡ None → r ≡ None)
    → ((t : Text) → one_text f id ≡ Some t → ReadsOne G t r)
    → option_and_then (kept low high) r ≡ number_of low high id (rows_of f)
number_given G only low high bound f id r none value =
    number_read G only low high bound (one_text f id) r none value ∙ ap (option_and_then (number_between low high))
    (one_text-rows f id)
