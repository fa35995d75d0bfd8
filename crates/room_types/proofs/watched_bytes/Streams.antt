-- Bytes that are written in several calls.
use Rattle.std.specs.Prelude.{◌||◌, ◌&&◌, ◌==◌}
use Rattle.std.proofs.Common.{◌≡◌, Bool, true, false, ℕ, zero, suc, ◌+◌, ◌<◌, ◌^◌, ◌-◌, List, [], ◌++◌, length, take}
use Rattle.std.proofs.Common.{drop, refl, sym, ap, ◌∙◌, arith, rules, tests, append-nil, length-append}
use Rattle.std.specs.Io.KnownBytes.{Keeps, Appends}
use Rattle.std.proofs.KnownBytes.{Appends-trans, Appends-nil, Appends-kept}
use Rattle.std.proofs.lemmas.List.{take_all, length-drop}
use Rattle.std.proofs.Math.Bool.{or-false}
use Rattle.room_types.specs.Watched.{counted, is_empty_buffer}
use Rattle.room_types.specs.Streams.{Output, Puts, count_after}

-- counting m bytes and then n more counts m + n
pub count_after-counted : (t m n : ℕ) → 0 < n → counted (count_after t m) n ≡ count_after t (m + n)
count_after-counted t zero zero h = absurd (omega arith)
count_after-counted t zero (suc n) h = let same : suc n ≡ zero + suc n = omega arith in ap (count_after t) same
count_after-counted t (suc m) zero h = absurd (omega arith)
count_after-counted t (suc m) (suc n) h =
    let more : suc (m + suc n) ≡ suc m + suc n = omega arith in
    let sum : counted (counted t (suc m)) (suc n) ≡ counted t (suc (m + suc n)) = omega arith in
    sum ∙ ap (count_after t) more

-- counting 0 more bytes changes nothing, if the count fits in 64 bits
pub count_after-none : (t m : ℕ) → t < 2 ^ 64 → counted (count_after t m) 0 ≡ count_after t m
count_after-none t zero h = omega arith
count_after-none t (suc m) h = omega arith

pub count_after-add : (t m n : ℕ) → count_after (count_after t m) n ≡ count_after t (m + n)
count_after-add t m zero = let same : m ≡ m + zero = omega arith in ap (count_after t) same
count_after-add t m (suc n) = count_after-counted t m (suc n) (omega arith)

-- writing no bytes
pub Puts-nil : (o : Output) → Puts o o []
Puts-nil o = record { written = Appends-nil o.contents; taken = refl }

-- writing xs and then ys writes xs ++ ys
pub Puts-trans : (a b c : Output) (xs ys : List ℕ) → Puts a b xs → Puts b c ys → Puts a c (xs ++ ys)
Puts-trans a b c xs ys p q = record {
  written = Appends-trans a.contents b.contents c.contents _ _ p.written q.written;
  taken = q.taken ∙ ap (λ t. count_after t (length ys)) p.taken ∙ count_after-add a.taken (length xs) (length ys)
      ∙ ap (count_after a.taken) (sym (length-append xs ys));
}

-- a step that appends nothing and leaves the count keeps what is written
pub Puts-kept : (a b c : Output) (xs : List ℕ) → Puts a b xs → Keeps b.contents c.contents → c.taken ≡ b.taken
    → Puts a c xs
Puts-kept a b c xs p k t = record {
  written = Appends-kept a.contents b.contents c.contents _ p.written k;
  taken = t ∙ p.taken;
}

-- taking as many bytes as there are after the first i takes all of them
pub take_rest : (i : ℕ) (xs : List ℕ) → take (length xs - i) (drop i xs) ≡ drop i xs
take_rest i xs = take_all (length xs - i) (drop i xs) (omega (arith, length-drop i xs))

-- a write of no bytes keeps what is written, if the count fits in 64 bits
pub Puts-none : (a b c : Output) (xs ys : List ℕ) (n : ℕ) → Puts a b xs → a.taken < 2 ^ 64
    → Appends b.contents c.contents (take n ys) → c.taken ≡ counted b.taken n → n ≡ 0 → Puts a c xs
Puts-none a b c xs ys n p fits k t none =
    let no_bytes : take n ys ≡ [] = ap (λ m. take m ys) none in
    record {
      written = rw append-nil at (Appends-trans a.contents b.contents c.contents xs [] p.written (rw no_bytes at k));
      taken = t ∙ ap (counted b.taken) none ∙ ap (λ m. counted m 0) p.taken ∙ count_after-none a.taken (length xs) fits;
    }

-- a disjunction with a false part
pub or_known : (a b : Bool) → b ≡ false → (a || b) ≡ a
or_known a b e = ap (λ c. a || c) e ∙ or-false a

-- a buffer that is not empty has room
pub nonempty_buffer : (xs : List ℕ) → 0 < length xs → is_empty_buffer xs ≡ false
nonempty_buffer xs h = search (rules, tests)

and_or_false : (b c : Bool) → (b || (c && false)) ≡ b
and_or_false true c = refl
and_or_false false true = refl
and_or_false false false = refl

-- a write that takes some bytes has not failed
pub kept_by_write : (b c : Bool) (n : ℕ) → 0 < n → (b || (c && n == 0)) ≡ b
kept_by_write b c n h = let some : (n == 0) ≡ false = search (rules, tests) in
    ap (λ d. b || (c && d)) some ∙ and_or_false b c

-- counting one read more, while the count is small
pub counted_one : (t : ℕ) → t < 2 ^ 63 → counted t 1 ≡ t + 1
counted_one t h = omega arith
