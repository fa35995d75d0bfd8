-- The text of a word is ASCII, and parsing it gives the word back.
use Rattle.std.proofs.Common.{◌≡◌, ◌≢◌, ℕ, ◌+◌, ◌-◌, ◌*◌, ◌/◌, ◌%◌, ◌^◌, ◌<◌, ◌≤◌, zero, suc, Bool, true, false, cond}
use Rattle.std.proofs.Common.{List, [], ◌∷◌, ◌++◌, length, replicate, Option, Some, None, refl, sym, ap, ◌∙◌, subst}
use Rattle.std.proofs.Common.{inl, inr, eqb, arith, length-append}
use Rattle.std.proofs.lemmas.Bool.Decides.{nat_tests, eqb_tells}
use Rattle.std.proofs.lemmas.Bool.{eq-eqb}
use Rattle.std.proofs.lemmas.List.Elements.{All-append, All-cons, All-nil, All-replicate}
use Rattle.std.proofs.lemmas.Str.{IsUtf8-from_ascii}
use Rattle.std.proofs.lemmas.Str.Ascii.{IsAscii-from_all}
use Rattle.std.specs.List.{All}
use Rattle.std.specs.Str.{IsUtf8}
use Rattle.std.specs.Fmt.{digits, digits_onto, digit_glyph}
use Rattle.room_types.specs.Words.{hex_digit, hex_value, word_of, word_text}

glyph_read : (d : ℕ) → d < 16 → hex_digit (digit_glyph false d) ≡ Some d
glyph_read d h = grind (arith, nat_tests)

next : (v byte d : ℕ) (bytes : List ℕ) → hex_digit byte ≡ Some d → hex_value v (byte ∷ bytes) ≡ hex_value
    (v * 16 + d) bytes
next v byte d bytes e =
    ap (λ o. elim o as (λ _. Option ℕ) [ None ↦ None | Some digit ↦ hex_value (v * 16 + digit) bytes ]) e

onto_read : (k n : ℕ) (acc : List ℕ) → n < 16 ^ k → hex_value 0 (digits_onto k 16 false n acc) ≡ hex_value n acc
onto_read zero n acc h = let none : 0 ≡ n = omega (arith, h) in ap (λ m. hex_value m acc) none
onto_read (suc k) n acc h =
    let low : n % 16 < 16 = omega arith in
    let whole : (n / 16) * 16 + n % 16 ≡ n = omega arith in
    elim (eqb_tells (n / 16) 0) as
    (λ _. hex_value 0
    (cond (eqb (n / 16) 0) (digit_glyph false (n % 16) ∷ acc)
    (digits_onto k 16 false (n / 16) (digit_glyph false (n % 16) ∷ acc))) ≡ hex_value n acc) [
      | inl same ↦
          let small : 0 * 16 + n % 16 ≡ n = omega (arith, same.1, whole) in
          ap (λ b. hex_value 0
          (cond b (digit_glyph false (n % 16) ∷ acc)
          (digits_onto k 16 false (n / 16) (digit_glyph false (n % 16) ∷ acc)))) same.0
          ∙ next 0 (digit_glyph false (n % 16)) (n % 16) acc (glyph_read (n % 16) low) ∙ ap (λ m. hex_value m acc) small
      | inr other ↦
          let above : n < 16 * 16 ^ k = omega (arith, h, power k) in
          let less : n / 16 < 16 ^ k = omega (arith, above, whole) in
          ap (λ b. hex_value 0
          (cond b (digit_glyph false (n % 16) ∷ acc)
          (digits_onto k 16 false (n / 16) (digit_glyph false (n % 16) ∷ acc)))) other.0
          ∙ onto_read k (n / 16) (digit_glyph false (n % 16) ∷ acc) less
          ∙ next (n / 16) (digit_glyph false (n % 16)) (n % 16) acc (glyph_read (n % 16) low)
          ∙ ap (λ m. hex_value m acc) whole
    ]
  where
    power : (j : ℕ) → 16 ^ suc j ≡ 16 * 16 ^ j
    power j = grind arith

zeros_read : (m : ℕ) (bytes : List ℕ) → hex_value 0 (replicate m 48 ++ bytes) ≡ hex_value 0 bytes
zeros_read zero bytes = refl
zeros_read (suc m) bytes = zeros_read m bytes

-- bounds on the number of digits
more_digits : (n : ℕ) (more : List ℕ) (acc : List ℕ) → n / 16 ≢ 0
    → ((j : ℕ) → n / 16 < 16 ^ suc j → length more ≤ suc j + suc (length acc)) → (m : ℕ) → n < 16 ^ suc m
    → length more ≤ suc m + length acc
more_digits n more acc some short zero h = absurd (some (omega (arith, h)))
more_digits n more acc some short (suc j) h =
    let above : 16 ^ suc (suc j) ≡ 16 * 16 ^ suc j = grind arith in
    let whole : (n / 16) * 16 + n % 16 ≡ n = omega arith in
    let less : n / 16 < 16 ^ suc j = omega (arith, h, above, whole) in
    let few = short j less in
    omega (arith, few)

onto_length : (k m n : ℕ) (acc : List ℕ) → n < 16 ^ suc m → length (digits_onto k 16 false n acc) ≤ suc m + length acc
onto_length zero m n acc h = omega arith
onto_length (suc k) m n acc h =
    elim (eqb_tells (n / 16) 0) as
    (λ _. length
    (cond (eqb (n / 16) 0) (digit_glyph false (n % 16) ∷ acc)
    (digits_onto k 16 false (n / 16) (digit_glyph false (n % 16) ∷ acc))) ≤ suc m + length acc) [
      | inl same ↦ subst
          (λ b. length
          (cond b (digit_glyph false (n % 16) ∷ acc)
          (digits_onto k 16 false (n / 16) (digit_glyph false (n % 16) ∷ acc)))
          ≤ suc m + length acc) (sym same.0) (omega arith)
      | inr other ↦ subst
          (λ b. length
          (cond b (digit_glyph false (n % 16) ∷ acc)
          (digits_onto k 16 false (n / 16) (digit_glyph false (n % 16) ∷ acc)))
          ≤ suc m + length acc) (sym other.0)
          (more_digits n (digits_onto k 16 false (n / 16) (digit_glyph false (n % 16) ∷ acc)) acc other.1
          (λ j less. onto_length k j (n / 16) (digit_glyph false (n % 16) ∷ acc) less) m h)
    ]

length-replicate : (m x : ℕ) → length (replicate m x) ≡ m
length-replicate zero x = refl
length-replicate (suc m) x = omega (arith, length-replicate m x)

pub word_length : (w : ℕ) → w < 2 ^ 64 → length (word_text w) ≡ 16
unfolding digits
word_length w h =
    let count : length (digits 16 false w) ≤ 16 = omega (arith, onto_length 64 15 w [] (omega (arith, h))) in
    length-append (replicate (16 - length (digits 16 false w)) 48) (digits 16 false w)
    ∙ omega (arith, length-replicate (16 - length (digits 16 false w)) 48)

pub word_read : (w : ℕ) → w < 2 ^ 64 → word_of (word_text w) ≡ Some w
unfolding digits
word_read w h =
    ap (λ b. cond b (hex_value 0 (word_text w)) None) (eq-eqb (length (word_text w)) 16 (word_length w h))
    ∙ zeros_read (16 - length (digits 16 false w)) (digits 16 false w)
    ∙ onto_read 64 w [] (omega (arith, h))

-- ---- a number that takes at most sixteen digits is a 64-bit word

onto_longer : (k n : ℕ) (acc : List ℕ) → length acc ≤ length (digits_onto k 16 false n acc)
onto_longer zero n acc = omega arith
onto_longer (suc k) n acc =
    let longer = onto_longer k (n / 16) (digit_glyph false (n % 16) ∷ acc) in
    elim (eqb (n / 16) 0) as
    (λ b. length acc ≤ length
    (cond b (digit_glyph false (n % 16) ∷ acc)
    (digits_onto k 16 false (n / 16) (digit_glyph false (n % 16) ∷ acc)))) [
      | true ↦ omega arith
      | false ↦ omega (arith, longer)
    ]

power_above : (m : ℕ) → 0 < 16 ^ m
power_above zero = omega arith
power_above (suc m) = let above : 16 ^ suc m ≡ 16 * 16 ^ m = grind arith in omega (arith, above, power_above m)

-- one more digit multiplies the bound by sixteen
next_low : (k m n : ℕ) (acc : List ℕ)
    → (length (digits_onto k 16 false (n / 16) (digit_glyph false (n % 16) ∷ acc)) ≤ m + suc (length acc)
    → n / 16 < 16 ^ m)
    → (b : Bool) → (true ≡ b → n / 16 ≡ 0)
    → length (cond b (digit_glyph false (n % 16) ∷ acc)
    (digits_onto k 16 false (n / 16) (digit_glyph false (n % 16) ∷ acc))) ≤ suc m + length acc
    → n < 16 ^ suc m
next_low k m n acc more true small h =
    let none = small refl in
    let some = power_above m in
    let above : 16 ^ suc m ≡ 16 * 16 ^ m = grind arith in
    let whole : (n / 16) * 16 + n % 16 ≡ n = omega arith in
    let low : n % 16 < 16 = omega arith in
    omega (arith, none, some, above, whole, low)
next_low k m n acc more false small h =
    let less = more (omega (arith, h)) in
    let above : 16 ^ suc m ≡ 16 * 16 ^ m = grind arith in
    let whole : (n / 16) * 16 + n % 16 ≡ n = omega arith in
    let low : n % 16 < 16 = omega arith in
    omega (arith, less, above, whole, low)

onto_low : (k m n : ℕ) (acc : List ℕ) → m < k → length (digits_onto k 16 false n acc) ≤ m + length acc → n < 16 ^ m
onto_low zero m n acc few h = absurd (omega (arith, few))
onto_low (suc k) zero n acc few h =
    let longer = onto_longer k (n / 16) (digit_glyph false (n % 16) ∷ acc) in
    absurd (elim (eqb (n / 16) 0) as
    (λ b. length
    (cond b (digit_glyph false (n % 16) ∷ acc) (digits_onto k 16 false (n / 16) (digit_glyph false (n % 16) ∷ acc)))
    ≤ 0 + length acc → ⊥) [
      | true ↦ λ short. omega (arith, short)
      | false ↦ λ short. omega (arith, short, longer)
    ] h)
onto_low (suc k) (suc m) n acc few h =
    next_low k m n acc (onto_low k m (n / 16) (digit_glyph false (n % 16) ∷ acc) (omega (arith, few))) (eqb (n / 16) 0)
    (λ e. grind (arith, nat_tests, e)) h

pub word_low : (w : ℕ) → length (word_text w) ≡ 16 → w < 2 ^ 64
unfolding digits
word_low w h =
    let whole = length-append (replicate (16 - length (digits 16 false w)) 48) (digits 16 false w) in
    let few : length (digits 16 false w) ≤ 16 = omega (arith, h, whole) in
    let low = onto_low 64 16 w [] (omega arith) (omega (arith, few)) in
    omega (arith, low)

-- ---- the bytes of a word's text are ASCII

abbrev is_small : ℕ → Type 0
is_small byte = byte < 128

glyph_small : (d : ℕ) → d < 16 → digit_glyph false d < 128
glyph_small d h = grind (arith, nat_tests)

onto_small : (k n : ℕ) (acc : List ℕ) → All is_small acc → All is_small (digits_onto k 16 false n acc)
onto_small zero n acc h = h
onto_small (suc k) n acc h =
    let low : n % 16 < 16 = omega arith in
    let longer = All-cons is_small (digit_glyph false (n % 16)) acc (glyph_small (n % 16) low) h in
    elim (eqb (n / 16) 0) as
    (λ b. All is_small
    (cond b (digit_glyph false (n % 16) ∷ acc)
    (digits_onto k 16 false (n / 16) (digit_glyph false (n % 16) ∷ acc)))) [
      | true ↦ longer
      | false ↦ onto_small k (n / 16) (digit_glyph false (n % 16) ∷ acc) longer
    ]

pub word_utf8 : (w : ℕ) → IsUtf8 (word_text w)
unfolding digits
word_utf8 w =
    IsUtf8-from_ascii (word_text w) (IsAscii-from_all (word_text w)
    (All-append is_small (replicate (16 - length (digits 16 false w)) 48) (digits 16 false w)
    (All-replicate is_small (16 - length (digits 16 false w)) 48 (omega arith))
    (onto_small 64 w [] (All-nil is_small))))
