-- A line of all people, linked by numbers.
use Rattle.std.proofs.Common.{◌≡◌, ℕ, zero, suc, ◌+◌, ◌<◌, ◌≤◌, Bool, true, false, List, [], ◌∷◌, ◌++◌}
use Rattle.std.proofs.Common.{length, replicate, zero-add, get_or, sym, ap, ◌∙◌, subst, inl, inr, arith}
use Rattle.std.proofs.Common.{length-append}
use Rattle.std.specs.List.{range_with_len}
use Rattle.std.proofs.lemmas.Bool.{false_from_ne_true, cases_lt}
use Rattle.trade_line.specs.Member.{among}
use Rattle.trade_line.specs.Inner.Links.{Links, IsLinkedRing}
use Rattle.trade_line.proofs.turns.Whole.{range_has, range_within, range_once}
use Rattle.std.proofs.Math.ListN.{get_or-append}
use Rattle.std.proofs.Math.Seq.{get_or-append_seam}
use Rattle.std.proofs.lemmas.List.{get_or_past, get_or-replicate, length-replicate}
use Rattle.std.proofs.lemmas.List.FromFn.{length-range_with_len, get_or-range_with_len}

links_up : (next previous : List ℕ) (n k a u : ℕ) → a + k ≡ n → get_or next u 0 ≡ a → get_or previous a 0 ≡ u
    → ((i : ℕ) → i < n → get_or next i 0 ≡ i + 1) → ((i : ℕ) → i < n → get_or previous (i + 1) 0 ≡ i)
    → Links next previous u (range_with_len a k) n
links_up next previous n zero a u e en ep hn hp = let z : a ≡ n = omega arith in
    (en ∙ z, subst (λ y. get_or previous y 0 ≡ u) z ep)
links_up next previous n (suc k) a u e en ep hn hp =
    (en, ep, links_up next previous n k (a + 1) a (omega arith) (hn a (omega arith)) (hp a (omega arith)) hn hp)

pub whole_ring : (n : ℕ) (next previous : List ℕ) (waits : List Bool) → next ≡ range_with_len 1 n ++ 0 ∷ []
    → previous ≡ n ∷ range_with_len 0 n → waits ≡ replicate n true
    → IsLinkedRing next previous waits (range_with_len 0 n)
whole_ring n next previous waits en ep ew = record {
  next_len = ap length en ∙ length-append (range_with_len 1 n) (0 ∷ [])
      ∙ (let a : length (range_with_len 1 n) ≡ n = length-range_with_len 1 n in omega (arith, len));
  previous_len = ap length ep ∙ (let a : length (range_with_len 0 n) ≡ n = length-range_with_len 0 n in
      omega (arith, len));
  links = subst (λ z. Links next previous z (range_with_len 0 n) z) (sym len)
      (links_up next previous n n 0 n (omega arith) next_end (ap (λ z. get_or z 0 0) ep) next_at previous_at);
  once = range_once 0 n;
  known = λ p h. (let r : (0 ≤ p) × (p < 0 + n) = range_within 0 n p h in omega (arith, r.1, len));
  waits_are = λ p. ap (λ z. get_or z p false) ew ∙ same p;
}
  where
    len : length waits ≡ n
    len = ap length ew ∙ length-replicate n true

    ups : length (range_with_len 1 n) ≡ n
    ups = length-range_with_len 1 n

    next_end : get_or next n 0 ≡ 0
    next_end = ap (λ z. get_or z n 0) en ∙ ap (λ k. get_or (range_with_len 1 n ++ 0 ∷ []) k 0) (sym ups)
        ∙ get_or-append_seam (range_with_len 1 n) 0 [] 0

    next_at : (i : ℕ) → i < n → get_or next i 0 ≡ i + 1
    next_at i l = ap (λ z. get_or z i 0) en ∙ get_or-append (range_with_len 1 n) (0 ∷ []) 0 i (omega (arith, ups))
        ∙ get_or-range_with_len 1 n i 0 l ∙ (let z : 1 + i ≡ i + 1 = omega arith in z)

    previous_at : (i : ℕ) → i < n → get_or previous (i + 1) 0 ≡ i
    previous_at i l = ap (λ z. get_or z (i + 1) 0) ep ∙ ap (λ k. get_or (n ∷ range_with_len 0 n) k 0)
        (let z : i + 1 ≡ suc i = omega arith in z) ∙ get_or-range_with_len 0 n i 0 l ∙ zero-add i

    same : (p : ℕ) → get_or (replicate n true) p false ≡ among (range_with_len 0 n) p
    same p =
        elim (cases_lt p n) [
          | inl l ↦ get_or-replicate n p true false l ∙ sym (range_has 0 n p (omega arith) (omega arith))
          | inr l ↦ get_or_past (replicate n true) p false (let e : length (replicate n true) ≡ n =
              length-replicate n true in omega arith)
              ∙ sym (false_from_ne_true (among (range_with_len 0 n) p)
              (λ h. let r : (0 ≤ p) × (p < 0 + n) = range_within 0 n p h in absurd (omega (arith, r.1))))
        ]
