-- The search for a repeated code, one code at a time.
use Rattle.std.proofs.Common.{◌≡◌, ℕ, ◌+◌, ◌<◌, Bool, List, [], length, take, drop, get_or, Some, cond, ap, ◌∙◌, sym}
use Rattle.std.proofs.Common.{nat_eq}
use Rattle.std.proofs.lemmas.List.{take_more, drop_more}
use Rattle.std.specs.Cmp.Lexicographic.{pointwise}
use Rattle.std.specs.List.{list_any}
use Rattle.room_types.specs.Repeats.{first_repeated}

pub first_repeated-more : (codes : List (List ℕ)) (i : ℕ) (d : List ℕ) → i < length codes
    → first_repeated (take i codes) (drop i codes)
    ≡ cond (list_any (λ other. pointwise nat_eq other (get_or codes i d)) (take i codes)) (Some (get_or codes i d))
    (first_repeated (take (i + 1) codes) (drop (i + 1) codes))
first_repeated-more codes i d h =
    ap (first_repeated (take i codes)) (drop_more codes i d h)
    ∙ ap (λ seen. cond (list_any (λ other. pointwise nat_eq other (get_or codes i d)) (take i codes))
    (Some (get_or codes i d)) (first_repeated seen (drop (i + 1) codes))) (sym (take_more codes i d h))

pub first_repeated-found : (codes : List (List ℕ)) (i : ℕ) (code : List ℕ) (found : Bool) → i < length codes
    → code ≡ get_or codes i code
    → first_repeated [] codes ≡ first_repeated (take i codes) (drop i codes)
    → found ≡ list_any (λ other. pointwise nat_eq other code) (take i codes)
    → first_repeated [] codes ≡ cond found (Some code) (first_repeated (take (i + 1) codes) (drop (i + 1) codes))
first_repeated-found codes i code found h at_i so_far e =
    so_far ∙ first_repeated-more codes i code h
    ∙ ap (λ c. cond (list_any (λ other. pointwise nat_eq other c) (take i codes)) (Some c)
    (first_repeated (take (i + 1) codes) (drop (i + 1) codes))) (sym at_i)
    ∙ ap (λ b. cond b (Some code) (first_repeated (take (i + 1) codes) (drop (i + 1) codes))) (sym e)
