-- The number of people in line who have asked.
use Rattle.std.proofs.Common.{◌≡◌, ℕ, ◌+◌, Bool, true, false, cond, ◌==◌, List, [], ◌∷◌, ◌++◌, length, get_or, set}
use Rattle.std.proofs.Common.{refl, sym, ap, ap₂, subst, arith, get_or-set_other, zero-add}
use Rattle.std.proofs.lemmas.Bool.{both_ways, cond-true, cond-false, or_parts}
use Rattle.trade_line.specs.Member.{among}
use Rattle.trade_line.specs.Inner.Turn.{asked_in}
use Rattle.trade_line.proofs.askers.Lines.{among_self, among_more}

pub asked_all : (asked : List Bool) (ps : List ℕ) → ((p : ℕ) → among ps p ≡ true → get_or asked p false ≡ true)
    → asked_in asked ps ≡ length ps
asked_all asked [] h = refl
asked_all asked (p ∷ ps) h =
    let e : cond {A = ℕ} (get_or asked p false) 1 0 ≡ 1 =
    cond-true {A = ℕ} (get_or asked p false) 1 0 (h p (among_self p ps)) in
    let ih : asked_in asked ps ≡ length ps = asked_all asked ps (λ q i. h q (among_more p ps q i)) in
    omega arith

pub asked_none : (asked : List Bool) (ps : List ℕ) → ((p : ℕ) → among ps p ≡ true → get_or asked p false ≡ false)
    → asked_in asked ps ≡ 0
asked_none asked [] h = refl
asked_none asked (p ∷ ps) h =
    let e : cond {A = ℕ} (get_or asked p false) 1 0 ≡ 0 =
    cond-false {A = ℕ} (get_or asked p false) 1 0 (h p (among_self p ps)) in
    let ih : asked_in asked ps ≡ 0 = asked_none asked ps (λ q i. h q (among_more p ps q i)) in
    omega arith

asked_in-append : (asked : List Bool) (xs ys : List ℕ)
    → asked_in asked (xs ++ ys) ≡ asked_in asked xs + asked_in asked ys
asked_in-append asked [] ys = sym (zero-add (asked_in asked ys))
asked_in-append asked (x ∷ xs) ys = let ih : asked_in asked (xs ++ ys) ≡ asked_in asked xs + asked_in asked ys =
    asked_in-append asked xs ys in omega arith

-- the number for a line in two parts, of which the first has asked
pub asked_split : (asked : List Bool) (line waiting fresh : List ℕ) → line ≡ waiting ++ fresh
    → ((p : ℕ) → among waiting p ≡ true → get_or asked p false ≡ true)
    → ((p : ℕ) → among fresh p ≡ true → get_or asked p false ≡ false) → asked_in asked line ≡ length waiting
asked_split asked line waiting fresh e all none =
    let a : asked_in asked line ≡ asked_in asked (waiting ++ fresh) = ap (asked_in asked) e in
    omega (arith, asked_in-append asked waiting fresh, asked_all asked waiting all, asked_none asked fresh none)

pub asked_other : (asked : List Bool) (a : ℕ) (ps : List ℕ) → among ps a ≡ false
    → asked_in (set asked a true) ps ≡ asked_in asked ps
asked_other asked a [] h = refl
asked_other asked a (p ∷ ps) h =
    ap₂ (λ (b : Bool) (n : ℕ). cond b 1 0 + n)
    (get_or-set_other asked a p true false
    (λ e. both_ways (among (p ∷ ps) a) h (subst (λ z. among (p ∷ ps) z ≡ true) e (among_self p ps))))
    (asked_other asked a ps (false_tail p ps h))
  where
    false_tail : (p : ℕ) (ps : List ℕ) → among (p ∷ ps) a ≡ false → among ps a ≡ false
    false_tail p ps h = (or_parts (p == a) (among ps a) h).1
