-- The number of a round, as `parse` returns it.
use Rattle.std.proofs.Common.{rules, tests, ◌≡◌, ℕ, ◌≤◌, ◌^◌, true, length, refl, arith, Result, Ok}
use Rattle.std.specs.Char.{is_ascii_digit}
use Rattle.std.specs.Int.{is_in_range, IsInRange}
use Rattle.std.specs.List.{list_all}
use Rattle.std.specs.Str.Parse.{ParsesUnsigned, digits_value}
use Rattle.std.proofs.lemmas.Int.Digits.{digits_value-lt}
use Rattle.std.proofs.lemmas.Str.Parse.{IsDigitsTest, IsNumeralModel, numerals_by_value, parse_gives}
use Rattle.std.proofs.Math.Nat.{pow-le-pow_right}
use Rattle.std.proofs.lemmas.Bool.{and_parts, and_from}
use Rattle.room_types.specs.Texts.{Text}
use Rattle.office_lines.specs.parse.Values.{is_round_number}

in_range : (low high n : ℕ) → is_in_range low high n ≡ true → IsInRange low high n
in_range low high n h = search (rules, tests)

is_in : (low high n : ℕ) → IsInRange low high n → is_in_range low high n ≡ true
is_in low high n h = search (rules, tests)

abbrev HasDigits : Text → Type 0
HasDigits text = list_all is_ascii_digit text ≡ true

digits_test : IsDigitsTest HasDigits
digits_test = record {
  empty = refl;
  parts = λ c cs h. let p = and_parts (is_ascii_digit c) (list_all is_ascii_digit cs) h in (in_range 48 57 c p.0, p.1);
  more = λ c cs r h. and_from (is_ascii_digit c) (list_all is_ascii_digit cs) (is_in 48 57 c r) h;
}

digits_model : IsNumeralModel HasDigits (digits_value 10)
digits_model = numerals_by_value HasDigits digits_test

-- `parse` of a word of 1 to 4 digits returns the number that they write
pub round_read : {E : Type 0} (word : Text) (r : Result ℕ E) → ParsesUnsigned 16 10 word r → is_round_number word ≡ true
    → r ≡ Ok (digits_value 10 word)
round_read word r parses is =
    let p = and_parts (is_in_range 1 4 (length word)) (list_all is_ascii_digit word) is in
    let long = in_range 1 4 (length word) p.0 in
    let small = digits_value-lt 10 word (digits_model.to word p.1) in
    let bound : 10 ^ length word ≤ 10 ^ 4 = pow-le-pow_right (omega arith) long.1 in
    let limit : 10 ^ 4 ≤ 10000 = omega arith in
    parse_gives digits_model 16 word r parses p.1 long.0 (omega (arith, small, bound, limit))
