-- Lemmas about the fields of a head.
use Rattle.std.proofs.Common.{◌≡◌, ℕ, ◌+◌, ◌-◌, ◌*◌, ◌<◌, Bool, true, false, cond, List, [], ◌∷◌, ◌++◌, length, take}
use Rattle.std.proofs.Common.{get_or, map, filter, refl, ap, ◌∙◌, arith, min}
use Rattle.std.proofs.lemmas.Bool.Decides.{nat_tests}
use Rattle.std.proofs.lemmas.Int.Digits.{digits_value_more}
use Rattle.std.proofs.lemmas.List.{take_more, map-append}
use Rattle.std.proofs.lemmas.List.Elements.{filter-append}
use Rattle.std.proofs.lemmas.List.Sums.{AllPass-from_list_all}
use Rattle.std.specs.Char.{digit_value, is_ascii_digit}
use Rattle.std.specs.List.{list_all}
use Rattle.std.specs.Str.{str_eq_ignore_ascii_case}
use Rattle.httparse.specs.declared.spans.HeaderSpan.{HeaderSpan}
use Rattle.httparse.specs.Spans.{header_bytes, span_bytes}
use Rattle.resident_requests.specs.Fields.{NamedValue, values_of, number_of}

values_of-append : (name : List ℕ) (xs ys : List NamedValue) → values_of name (xs ++ ys) ≡ values_of name xs
    ++ values_of name ys
values_of-append name xs ys =
    let named : NamedValue → Bool = λ field. str_eq_ignore_ascii_case field.0 name in
    ap (map (λ (field : NamedValue). field.1)) (filter-append named xs ys)
    ∙ map-append (λ (field : NamedValue). field.1) (filter named xs) (filter named ys)

one_value : (same : Bool) (field : NamedValue) → map (λ (f : NamedValue). f.1) (cond same (field ∷ []) []) ≡ cond same
    (field.1 ∷ []) []
one_value true field = refl
one_value false field = refl

-- the values with one more field
pub values_of-more : (name buf : List ℕ) (headers : List HeaderSpan) (i : ℕ) (d : HeaderSpan) → i < length headers
    → values_of name (map (header_bytes buf) (take (i + 1) headers)) ≡ values_of name
    (map (header_bytes buf) (take i headers))
    ++ cond (str_eq_ignore_ascii_case (span_bytes buf (get_or headers i d).name) name)
    (span_bytes buf (get_or headers i d).value ∷ []) []
values_of-more name buf headers i d lt =
    let field = header_bytes buf (get_or headers i d) in
    ap (λ l. values_of name (map (header_bytes buf) l)) (take_more headers i d lt)
    ∙ ap (values_of name) (map-append (header_bytes buf) (take i headers) (get_or headers i d ∷ []))
    ∙ values_of-append name (map (header_bytes buf) (take i headers)) (field ∷ [])
    ∙ ap (λ l. values_of name (map (header_bytes buf) (take i headers)) ++ l)
    (one_value (str_eq_ignore_ascii_case field.0 name) field)

digit : (b : ℕ) → is_ascii_digit b ≡ true → digit_value b ≡ b - 48
digit b h = grind (arith, nat_tests)

-- one more digit, up to a limit
pub number_of-more : (text : List ℕ) (i most : ℕ) → i < length text → is_ascii_digit (get_or text i 0) ≡ true
    → min (min (number_of (take i text)) most * 10 + (get_or text i 0 - 48)) most ≡ min
    (number_of (take (i + 1) text)) most
number_of-more text i most lt h =
    let e = digits_value_more 10 text i lt in
    let d = digit (get_or text i 0) h in
    omega (arith, e, d)

-- each byte of a text of digits is a digit
pub digit_at : (text : List ℕ) (i : ℕ) → list_all is_ascii_digit text ≡ true → i < length text
    → is_ascii_digit (get_or text i 0) ≡ true
digit_at text i h lt = AllPass-from_list_all is_ascii_digit text h i 0 lt
