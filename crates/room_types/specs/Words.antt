-- Words: 64-bit lottery numbers, written as sixteen hexadecimal digits.
use Rattle.std.specs.Prelude.{ℕ, ◌+◌, ◌*◌, ◌-◌, ◌++◌, eqb, false, List, [], ◌∷◌, length, replicate}
use Rattle.std.specs.Prelude.{Option, None, Some, if◌then◌else◌}
use Rattle.std.specs.Int.{is_in_range}
use Rattle.std.specs.Fmt.{digits}

-- the number of digits of a word
abbrev pub word_digits : ℕ
word_digits = 16

-- the value of a hexadecimal digit, in either case, or `None` for any other byte
abbrev pub hex_digit : ℕ → Option ℕ
hex_digit byte =
    if is_in_range 48 57 byte then Some (byte - 48)
    else (if is_in_range 97 102 byte then Some (byte - 87)
    else (if is_in_range 65 70 byte then Some (byte - 55) else None))

-- the number whose hexadecimal digits are those of `value`, followed by these digits; `None` if a byte is not a
-- hexadecimal digit
abbrev pub hex_value : ℕ → List ℕ → Option ℕ
hex_value value [] = Some value
hex_value value (byte ∷ bytes) =
    elim (hex_digit byte) [ None ↦ None | Some digit ↦ hex_value (value * 16 + digit) bytes ]

-- the word of a text of exactly sixteen hexadecimal digits, or `None` for any other text
abbrev pub word_of : List ℕ → Option ℕ
word_of text = if eqb (length text) word_digits then hex_value 0 text else None

-- the printed form of a word: sixteen hexadecimal digits in lower case, padded with zeros
abbrev pub word_text : ℕ → List ℕ
word_text word = replicate (word_digits - length (digits 16 false word)) 48 ++ digits 16 false word
