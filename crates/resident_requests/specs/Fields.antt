-- The fields of a request's head, as names and values (RFC 9110, section 5).
use Rattle.std.specs.Prelude.{ℕ, Bool, ◌&&◌, List, length, nat_lt, map, filter}
use Rattle.std.specs.List.{list_all}
use Rattle.std.specs.Char.{is_ascii_digit}
use Rattle.std.specs.Str.{str_eq_ignore_ascii_case}
use Rattle.std.specs.Str.Parse.{digits_value}

-- a field's name, and its value without the white space around it
abbrev pub NamedValue : Type 0
NamedValue = List ℕ × List ℕ

-- the values of the fields with this name, where names match in any ASCII case
abbrev pub values_of : List ℕ → List NamedValue → List (List ℕ)
values_of name fields = map (λ field. field.1) (filter (λ field. str_eq_ignore_ascii_case field.0 name) fields)

-- the text is one or more decimal digits
abbrev pub is_decimal : List ℕ → Bool
is_decimal text = nat_lt 0 (length text) && list_all is_ascii_digit text

-- the number that the decimal digits denote
abbrev pub number_of : List ℕ → ℕ
number_of text = digits_value 10 text
