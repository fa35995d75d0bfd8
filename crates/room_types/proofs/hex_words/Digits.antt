-- What `{:016x}` writes.
use Rattle.std.proofs.Common.{◌≡◌, ℕ, ◌-◌, ◌^◌, false, [], ◌++◌, length, replicate, ap, ◌∙◌, arith}
use Rattle.std.specs.Fmt.{digits, padded_integral, format_spec, char_count}
use Rattle.std.proofs.lemmas.List.{append-nil}
use Rattle.room_types.specs.Words.{word_text}

pub sixteen_digits : (word : ℕ) → padded_integral (format_spec 32 0 4 16 (2 ^ 64 - 1)) false []
    (digits 16 false word) ≡ word_text word
unfolding padded_integral char_count
sixteen_digits word =
    let width : 16 - length (digits 16 false word) - 0 - 0 ≡ 16 - length (digits 16 false word) = omega arith in
    ap (λ n. replicate n 48 ++ (digits 16 false word ++ [])) width
    ∙ ap (λ t. replicate (16 - length (digits 16 false word)) 48 ++ t) (append-nil (digits 16 false word))
