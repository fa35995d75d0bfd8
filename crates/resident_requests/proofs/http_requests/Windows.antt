-- Lemmas about the bytes within which a head must end.
use Rattle.std.proofs.Common.{◌≡◌, ℕ, ◌+◌, ◌-◌, ◌<◌, ◌≤◌, List, ◌++◌, length, take, drop, refl, sym, ap, ◌∙◌, arith}
use Rattle.std.proofs.lemmas.List.{take_all, take-append-drop, length-take-le}
use Rattle.std.proofs.Math.Seq.{take-append-add}
use Rattle.httparse.specs.Grammar.{RequestHead, print_request, ReadsRequest}
use Rattle.resident_requests.specs.Asks.{window, head_limit}

-- taking more bytes than there are takes all of them
short : (n : ℕ) (xs : List ℕ) → length xs < n → take n xs ≡ xs
short n xs h = take_all n xs (omega arith)

pub window-few : (xs : List ℕ) → length xs < head_limit → window xs ≡ xs
unfolding window
window-few xs h = short head_limit xs h

pub window-is : (xs : List ℕ) → take head_limit xs ≡ window xs
unfolding window
window-is xs = refl

cut : (n : ℕ) (xs : List ℕ) → n ≤ length xs → xs ≡ take n xs ++ drop (length (take n xs)) xs
cut n xs h = sym (take-append-drop n xs) ∙ ap (λ k. take n xs ++ drop k xs) (sym (length-take-le n xs h))

pub first_cut : (xs : List ℕ) → head_limit ≤ length xs → xs ≡ take head_limit xs
    ++ drop (length (take head_limit xs)) xs
first_cut xs h = cut head_limit xs h

-- the window and the bytes after it are all bytes
pub window-rest : (xs : List ℕ) → window xs ++ drop head_limit xs ≡ xs
unfolding window
window-rest xs = take-append-drop head_limit xs

take-append-rest : (n : ℕ) (p q : List ℕ) → length p ≤ n → take n (p ++ q) ≡ p ++ take (n - length p) q
take-append-rest n p q h = let e : n ≡ length p + (n - length p) = omega arith in
    ap (λ k. take k (p ++ q)) e ∙ take-append-add p q (n - length p)

-- a head within the limit is a head of the window
pub in_window : (bytes rest : List ℕ) (h : RequestHead) → ReadsRequest bytes h rest
    → length (print_request h) ≤ head_limit
    → ReadsRequest (window bytes) h (take (head_limit - length (print_request h)) rest)
unfolding window
in_window bytes rest h r fits =
    (r.0, ap (take head_limit) r.1 ∙ take-append-rest head_limit (print_request h) rest fits)
