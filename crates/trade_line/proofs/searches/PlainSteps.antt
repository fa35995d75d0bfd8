-- The slow program, step by step.
use Rattle.std.proofs.Common.{◌≡◌, ℕ, suc, ◌+◌, ◌<◌, ◌≤◌, Bool, true, false, not, ◌&&◌, ◌==◌, cond, List, length}
use Rattle.std.proofs.Common.{replicate, Option, Some, None, get_or, set, refl, sym, ap, ◌∙◌, subst, inl, inr, arith}
use Rattle.std.proofs.Common.{add-one, eq-eqb, length-set, get_or-set_same, get_or-set_other, lt-ltb, le-ltb, ltb}
use Rattle.std.specs.Option.{unwrap_or}
use Rattle.std.proofs.lemmas.Bool.{cases_Bool, cases_lt, cases_eq, both_ways, cond-true, cond-false, and_from}
use Rattle.std.proofs.lemmas.Bool.{and_parts, not-true}
use Rattle.std.proofs.lemmas.List.{get_or_past, get_or-replicate, length-replicate}
use Rattle.std.proofs.lemmas.List.FromFn.{fill_by_all}
use Rattle.std.specs.Fn.{iterate}
use Rattle.std.proofs.Math.Bool.{and-true, or-false, and-false}
use Rattle.trade_line.specs.Below.{first_below, some_below}
use Rattle.trade_line.specs.Cycles.{IsStageOf}
use Rattle.trade_line.specs.Market.{Market, is_room, tenant_of}
use Rattle.trade_line.specs.TopTradingCycles.{Stage, start, wish, first, tenant_or_first, points_to, target, successor}
use Rattle.trade_line.specs.TopTradingCycles.{remaining_count, is_on_cycle, taken, removed, step, gets_within}
use Rattle.trade_line.specs.TopTradingCycles.{gets, ttc}
use Rattle.trade_line.specs.Inner.Queue.{close}
use Rattle.trade_line.specs.Inner.Plain.{remains, AreMarks, Gives, Stepping, Stepped, marked_stage}
use Rattle.trade_line.specs.declared.plain.Remaining.{Remaining}
use Rattle.trade_line.proofs.counts.Count.{times_after}
use Rattle.trade_line.proofs.askers.Lines.{remaining_after, length-close}
use Rattle.trade_line.proofs.searches.Search.{and_nots, first_finds, first_passes, first_is_least, some_from}
use Rattle.trade_line.proofs.turns.States.{read_same}
use Rattle.trade_line.proofs.cycles.Unique.{same_stage}

pub read_mark : (xs : List Bool) (i : ℕ) (r : Bool) → i < length xs → r ≡ get_or xs i r → get_or xs i false ≡ r
read_mark xs i r l e = read_same xs i false r l ∙ sym e

-- the first number that passes
pub first_at : (n i : ℕ) (q : ℕ → Bool) → i < n → first_below i q ≡ None → q i ≡ true → first_below n q ≡ Some i
first_at n i q l none ok =
    let found : (y : ℕ) × (first_below n q ≡ Some y) = first_finds n q i l ok in
    let least : found.0 ≤ i = first_is_least n q found.0 i found.1 l ok in
    elim (cases_lt found.0 i) [
      | inl before ↦
          let other : (z : ℕ) × (first_below i q ≡ Some z) =
          first_finds i q found.0 before (first_passes n q found.0 found.1).0 in
          let clash : None ≡ Some other.0 = sym none ∙ other.1 in
          absurd (cc)
      | inr after ↦ let at : found.0 ≡ i = omega arith in found.1 ∙ ap Some at
    ]

pub some_more : (n : ℕ) (q : ℕ → Bool) → some_below n q ≡ false → q n ≡ false → some_below (n + 1) q ≡ false
some_more n q none not_here = rw (add-one, none, not_here) refl

module _ (m : Market) where
  pub known_marks : (s : Remaining) → AreMarks m s → IsStageOf m (remains s)
  known_marks s marks p h =
      elim (cases_lt p m.people) [
        | inl l ↦ l
        | inr n ↦ absurd
            (both_ways (get_or s.people.items p false)
            (get_or_past s.people.items p false (omega (arith, marks.people_len))) h)
      ]

  pub first_is : (s : Stage) (i : ℕ) → i < m.people → first_below i s.people ≡ None → s.people i ≡ true → i ≡ first m s
  unfolding first
  first_is s i l none ok = sym (ap (λ o. unwrap_or o 0) (first_at m.people i s.people l none ok))

  pub first_none : (s : Stage) → first_below m.people s.people ≡ None → 0 ≡ first m s
  unfolding first
  first_none s none = sym (ap (λ o. unwrap_or o 0) none)

  pub points_none : (s : Stage) (p : ℕ) → wish m s p ≡ None → p ≡ successor m s p
  unfolding successor
  points_none s p e = sym (ap (target m s p) e)

  pub points_tenant : (s : Stage) (p r t : ℕ) → wish m s p ≡ Some r → tenant_of m r ≡ Some t → s.people t ≡ true
      → t ≡ successor m s p
  unfolding successor points_to
  points_tenant s p r t e ht here =
      sym (ap (target m s p) e ∙ ap (tenant_or_first m s) ht ∙ cond-true (s.people t) t (first m s) here)

  pub points_served : (s : Stage) (p r t : ℕ) → wish m s p ≡ Some r → tenant_of m r ≡ Some t → s.people t ≡ false
      → first m s ≡ successor m s p
  unfolding successor points_to
  points_served s p r t e ht gone =
      sym (ap (target m s p) e ∙ ap (tenant_or_first m s) ht ∙ cond-false (s.people t) t (first m s) gone)

  pub points_vacant : (s : Stage) (p r : ℕ) → wish m s p ≡ Some r → tenant_of m r ≡ None → first m s ≡ successor m s p
  unfolding successor points_to
  points_vacant s p r e none = sym (ap (target m s p) e ∙ ap (tenant_or_first m s) none)

  pub cycle_gone : (s : Stage) (p : ℕ) → s.people p ≡ false → is_on_cycle m s p ≡ false
  unfolding is_on_cycle
  cycle_gone s p gone =
      ap (λ b. b && some_below (remaining_count m s) (λ k. iterate (successor m s) (suc k) p == p)) gone

  pub cycle_none : (s : Stage) (p : ℕ) → s.people p ≡ true → some_below (remaining_count m s)
      (λ k. iterate (successor m s) (suc k) p == p) ≡ false → is_on_cycle m s p ≡ false
  unfolding is_on_cycle
  cycle_none s p here none =
      ap (λ b. b && some_below (remaining_count m s) (λ k. iterate (successor m s) (suc k) p == p)) here ∙ none

  pub cycle_found : (s : Stage) (p k : ℕ) → s.people p ≡ true → k < remaining_count m s
      → successor m s (iterate (successor m s) k p) ≡ p → is_on_cycle m s p ≡ true
  unfolding is_on_cycle
  cycle_found s p k here l back =
      and_from (s.people p) (some_below (remaining_count m s) (λ k. iterate (successor m s) (suc k) p == p)) here
      (some_from (remaining_count m s) (λ k. iterate (successor m s) (suc k) p == p) k l
      (eq-eqb (iterate (successor m s) (suc k) p) p (times_after (successor m s) k p ∙ back)))

module _ (m : Market) (s : Stage) (old : List (Option ℕ)) where
  module _ (given : List (Option ℕ)) (people rooms : List Bool) (n : ℕ)
      (t : Stepping m s old given people rooms n) where
    pub stepping_stays : is_on_cycle m s n ≡ false → Stepping m s old given people rooms (n + 1)
    stepping_stays off = record {
      people_len = t.people_len;
      rooms_len = t.rooms_len;
      given_len = t.given_len;
      stayed = λ p l. elim (cases_lt p n) [
        | inl b ↦ t.stayed p b
        | inr a ↦ let at : n ≡ p = omega arith in
            subst (λ z. get_or people z false ≡ (s.people z && not (is_on_cycle m s z))) at (t.waiting n (omega arith)
            ∙ sym (rw off (and-true (s.people n))))
      ];
      waiting = λ p l. t.waiting p (omega arith);
      rooms_left =
          λ r. t.rooms_left r
          ∙ ap (λ b. s.rooms r && not b)
          (sym (rw (add-one, off) (or-false (some_below n (λ p. is_on_cycle m s p && is_room r (wish m s p))))));
      gave = λ p l. elim (cases_lt p n) [
        | inl b ↦ t.gave p b
        | inr a ↦ let at : n ≡ p = omega arith in
            subst (λ z. get_or given z None ≡ cond (is_on_cycle m s z) (wish m s z) (get_or old z None))
            at (t.kept n (omega arith) ∙ sym (cond-false (is_on_cycle m s n) (wish m s n) (get_or old n None) off))
      ];
      kept = λ p l. t.kept p (omega arith);
    }

    pub stepping_leaves : n < m.people → is_on_cycle m s n ≡ true → ((x : ℕ) → wish m s n ≡ Some x → x < m.rooms)
        → Stepping m s old (set given n (wish m s n)) (set people n false) (close rooms (wish m s n)) (n + 1)
    stepping_leaves nl on known = record {
      people_len = length-set people n false ∙ t.people_len;
      rooms_len = length-close rooms (wish m s n) ∙ t.rooms_len;
      given_len = length-set given n (wish m s n) ∙ t.given_len;
      stayed = λ p l. elim (cases_eq p n) [
        | inl e ↦ subst (λ z. get_or (set people n false) z false ≡ (s.people z && not (is_on_cycle m s z))) (sym e)
            (get_or-set_same people n false false (omega (arith, t.people_len)) ∙ sym (rw on (and-false (s.people n))))
        | inr d ↦ get_or-set_other people n p false false d ∙ t.stayed p (omega arith)
      ];
      waiting = λ p l. let d : p ≡ n → ⊥ = λ e. omega arith in
          get_or-set_other people n p false false d ∙ t.waiting p (omega arith);
      rooms_left = λ r. remaining_after rooms (wish m s n) r (λ x e. let k : x < m.rooms = known x e in
          omega (arith, t.rooms_len))
          ∙ ap (λ b. b && not (is_room r (wish m s n))) (t.rooms_left r)
          ∙ and_nots (s.rooms r) (some_below n (λ p. is_on_cycle m s p && is_room r (wish m s p)))
          (is_room r (wish m s n))
          ∙ ap (λ b. s.rooms r && not b) (sym (rw (add-one, on) refl));
      gave = λ p l. elim (cases_eq p n) [
        | inl e ↦ subst (λ z. get_or (set given n (wish m s n)) z None ≡ cond (is_on_cycle m s z) (wish m s z)
            (get_or old z None)) (sym e) (get_or-set_same given n (wish m s n) None (omega (arith, t.given_len))
            ∙ sym (cond-true (is_on_cycle m s n) (wish m s n) (get_or old n None) on))
        | inr d ↦ get_or-set_other given n p (wish m s n) None d ∙ t.gave p (omega arith)
      ];
      kept = λ p l. let d : p ≡ n → ⊥ = λ e. omega arith in
          get_or-set_other given n p (wish m s n) None d ∙ t.kept p (omega arith);
    }

  pub stepping_end : (given : List (Option ℕ)) (people rooms : List Bool) → Stepping m s old given people rooms m.people
      → marked_stage people rooms ≡ step m s
  unfolding removed taken
  stepping_end given people rooms t = same_stage (marked_stage people rooms) (step m s) by_people t.rooms_left
    where
      by_people : (p : ℕ) → get_or people p false ≡ (s.people p && not (is_on_cycle m s p))
      by_people p =
          elim (cases_lt p m.people) [
            | inl l ↦ t.stayed p l
            | inr n ↦
                let past : get_or people p false ≡ false = get_or_past people p false (omega (arith, t.people_len)) in
                let gone : s.people p ≡ false = sym (t.waiting p n) ∙ past in
                past ∙ sym (ap (λ b. b && not (is_on_cycle m s p)) gone)
          ]

marks : (n k : ℕ) → n ≡ k → (i : ℕ) → get_or (replicate n true) i false ≡ ltb i k
marks n k e i =
    elim (cases_lt i k) [
      | inl l ↦ get_or-replicate n i true false (omega arith) ∙ sym (lt-ltb i k l)
      | inr ge ↦ get_or_past (replicate n true) i false (let z : length (replicate n true) ≡ n =
          length-replicate n true in omega arith) ∙ sym (le-ltb i k ge)
    ]

module _ (m : Market) where
  pub stepped_start : (n rooms : ℕ) → n ≡ m.people → rooms ≡ m.rooms
      → Stepped m (marked_stage (replicate n true) (replicate rooms true)) (replicate n None) m.people
  unfolding gets start
  stepped_start n rooms e f = record {
    gone = λ p l h. absurd
        (both_ways (get_or (replicate n true) p false) h (get_or-replicate n p true false (omega arith)));
    there = λ p l h. ap (λ z. gets_within m m.people z p) (sym same);
    nothing = λ p l h. get_or-replicate n p None None (omega arith);
  }
    where
      same : marked_stage (replicate n true) (replicate rooms true) ≡ start m
      same = same_stage (marked_stage (replicate n true) (replicate rooms true)) (start m) (λ p. marks n m.people e p)
          (λ r. marks rooms m.rooms f r)

  pub stepped_more : (s : Stage) (given new : List (Option ℕ)) (k : ℕ) → Stepped m s given (suc k) → Gives m s given new
      → Stepped m (step m s) new k
  unfolding gets_within removed
  stepped_more s given new k t gives = record {
    gone = λ p l h. elim (cases_Bool (s.people p)) [
      | inl here ↦ elim (cases_Bool (is_on_cycle m s p)) [
        | inl on ↦ t.there p l here ∙ cond-true (is_on_cycle m s p) (wish m s p) (gets_within m k (step m s) p) on
            ∙ sym (gives p l ∙ cond-true (is_on_cycle m s p) (wish m s p) (get_or given p None) on)
        | inr off ↦ absurd (both_ways (s.people p && not (is_on_cycle m s p)) h (rw (here, off) refl))
      ]
      | inr away ↦ t.gone p l away
          ∙ sym (gives p l ∙ cond-false (is_on_cycle m s p) (wish m s p) (get_or given p None) (cycle_gone m s p away))
    ];
    there = λ p l h. t.there p l (here p h) ∙ cond-false (is_on_cycle m s p) (wish m s p)
        (gets_within m k (step m s) p) (off p h);
    nothing = λ p l h. gives p l ∙ cond-false (is_on_cycle m s p) (wish m s p) (get_or given p None) (off p h)
        ∙ t.nothing p l (here p h);
  }
    where
      here : (p : ℕ) → (s.people p && not (is_on_cycle m s p)) ≡ true → s.people p ≡ true
      here p h = (and_parts (s.people p) (not (is_on_cycle m s p)) h).0

      off : (p : ℕ) → (s.people p && not (is_on_cycle m s p)) ≡ true → is_on_cycle m s p ≡ false
      off p h = not-true (is_on_cycle m s p) (and_parts (s.people p) (not (is_on_cycle m s p)) h).1

  pub stepped_end : (s : Stage) (given : List (Option ℕ)) → Stepped m s given 0 → length given ≡ m.people
      → given ≡ ttc m
  unfolding ttc gets_within
  stepped_end s given t l = fill_by_all (gets m) given m.people None l (λ p pl. elim (cases_Bool (s.people p)) [
    | inl here ↦ t.nothing p pl here ∙ sym (t.there p pl here)
    | inr away ↦ sym (t.gone p pl away)
  ])
