-- What `{:<8}` and the like print.
use Rattle.std.proofs.Common.{◌≡◌, ℕ, zero, suc, ◌-◌, ◌^◌, ◌<◌, [], ◌∷◌, ◌++◌, length, replicate, refl, ap, arith}
use Rattle.std.specs.List.{repeat}
use Rattle.std.specs.Fmt.{padded, format_spec, char_count}
use Rattle.std.proofs.Math.Utf8.{encode}
use Rattle.std.proofs.Padding.{take_chars_all}
use Rattle.room_types.specs.Texts.{Text}
use Rattle.office_lists.specs.Tables.{left_aligned}

repeat_space : (n : ℕ) → repeat {A = ℕ} n (32 ∷ []) ≡ replicate n 32
repeat_space zero = refl
repeat_space (suc n) = ap (λ (t : Text). 32 ∷ t) (repeat_space n)

-- a text padded to a column of this width
pub padded-left : (width : ℕ) (text : Text) → length text < 2 ^ 64
    → padded (format_spec 32 1 0 width (2 ^ 64 - 1)) text ≡ left_aligned width text
unfolding padded encode
padded-left width text short =
    let whole = take_chars_all (2 ^ 64 - 1) text (omega arith) in
    let all_after : width - char_count text - 0 ≡ width - char_count text = omega arith in
    rw (whole, all_after) (ap (λ (t : Text). text ++ t) (repeat_space (width - char_count text)))
