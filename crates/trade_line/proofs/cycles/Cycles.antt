-- Whole cycles that leave keep the other cycles of their stage as they are, and people who wish for one
-- another's homes are whole cycles.
use Rattle.std.proofs.Common.{◌≡◌, ◌⊎◌, ℕ, zero, suc, ◌+◌, ◌<◌, Bool, true, false, not, ◌==◌, List, [], ◌∷◌, Option}
use Rattle.std.proofs.Common.{Some, None, refl, sym, ap, ◌∙◌, subst, inl, inr, arith, eqb-true, eq-eqb, le_refl}
use Rattle.std.proofs.lemmas.Bool.{and_from, cond-false, or_cases, or_left, or_right, both_ways, not_from_false}
use Rattle.std.specs.Fn.{iterate}
use Rattle.trade_line.proofs.askers.Lines.{among_self}
use Rattle.trade_line.specs.Below.{some_below}
use Rattle.trade_line.specs.Cycles.{AreCycles, IsStageOf, LeavesOtherCycles, WishesForHomeOf, WishOnTo, AllRemain}
use Rattle.trade_line.specs.Cycles.{IsLoop, IsChain}
use Rattle.trade_line.specs.Inner.Removal.{Reach, IsTrade}
use Rattle.trade_line.specs.Inner.Removal.Reach.{here, there}
use Rattle.trade_line.specs.Market.{Market, IsMarket, tenant_of}
use Rattle.trade_line.specs.Member.{among}
use Rattle.trade_line.specs.TopTradingCycles.{Stage, first, tenant_or_first, points_to, successor, remaining_count}
use Rattle.trade_line.specs.TopTradingCycles.{is_on_cycle, removed}
use Rattle.trade_line.proofs.cycles.Chain.{reach_trans, home_points_to}
use Rattle.trade_line.proofs.counts.Count.{pigeonhole, reach_times, times_after, times_stays, times_sum}
use Rattle.trade_line.proofs.cycles.Exchange.{minus, trade_left_over, successor_at, successor_keeps, wish_keeps}
use Rattle.trade_line.proofs.searches.Search.{some_from}
use Rattle.trade_line.proofs.cycles.Steps.{cycles_trade, removed_known, successor_remains}

-- ---- how soon somebody comes back

module _ (g : ℕ → ℕ) where
  module _ (n p : ℕ) (back : iterate g (suc n) p ≡ p) where
    all_back : (i : ℕ) → iterate g (suc n) (iterate g i p) ≡ iterate g i p
    all_back i =
        let swapped : i + suc n ≡ suc n + i = omega arith in
        times_sum g i (suc n) p ∙ ap (λ k. iterate g k p) swapped ∙ sym (times_sum g (suc n) i p)
        ∙ ap (iterate g i) back

    -- if two of the turns lead to the same person, as many turns as lie between them come back
    back_between : (i j : ℕ) → i < j → iterate g i p ≡ iterate g j p → (k : ℕ) × (k < j) × (iterate g (suc k) p ≡ p)
    back_between i zero l e = absurd (omega (arith, l))
    back_between zero (suc j) l e = (j, omega arith, sym e)
    back_between (suc i) (suc j) l e =
        let same : g (iterate g i p) ≡ g (iterate g j p) = sym (times_after g i p) ∙ e ∙ times_after g j p in
        let r : (k : ℕ) × (k < j) × (iterate g (suc k) p ≡ p) =
        back_between i j (omega (arith, l)) (sym (all_back i) ∙ ap (iterate g n) same ∙ all_back j) in
        (r.0, omega (arith, r.1), r.2)

module _ (m : Market) (s : Stage) (known : IsStageOf m s) where
  pub cycle_from : (p : ℕ) → s.people p ≡ true → Reach (successor m s) (successor m s p) p → is_on_cycle m s p ≡ true
  unfolding is_on_cycle
  cycle_from p h r =
      let t : (k : ℕ) × (iterate (successor m s) k (successor m s p) ≡ p) = reach_times (successor m s) r in
      let inside : (i : ℕ) → s.people (iterate (successor m s) i p) ≡ true =
      λ i. times_stays (successor m s) s.people (successor_remains m s known) i p h in
      let two : (i : ℕ) × (j : ℕ) × (i < j) × (j < suc (remaining_count m s))
      × (iterate (successor m s) i p ≡ iterate (successor m s) j p) =
      pigeonhole (remaining_count m s) m.people s.people (λ i. iterate (successor m s) i p)
      (λ i l. (known (iterate (successor m s) i p) (inside i), inside i)) (le_refl (remaining_count m s)) in
      let b : (k : ℕ) × (k < two.1) × (iterate (successor m s) (suc k) p ≡ p) =
      back_between (successor m s) t.0 p t.1 two.0 two.1 two.2 two.4 in
      and_from (s.people p) (some_below (remaining_count m s) (λ k. iterate (successor m s) (suc k) p == p)) h
      (some_from (remaining_count m s) (λ k. iterate (successor m s) (suc k) p == p) b.0 (omega (arith, b.1, two.3))
      (eq-eqb (iterate (successor m s) (suc b.0) p) p b.2))

-- ---- whole cycles

pub cycles_leave : (m : Market) (s : Stage) → IsStageOf m s → (group : ℕ → Bool) → AreCycles m s group
    → IsTrade m s group
cycles_leave m s known group c =
    let all : IsTrade m s (is_on_cycle m s) = cycles_trade m s known in
    record {
      known = λ p h. all.known p (c.each p h);
      remain = λ p h. all.remain p (c.each p h);
      closed = c.closed;
      cycle = λ p h. all.cycle p (c.each p h);
    }

pub others_stay : (m : Market) (s : Stage) (group : ℕ → Bool) → IsStageOf m s → AreCycles m s group
    → LeavesOtherCycles m s group
others_stay m s group known c =
    let gone : IsTrade m s group = cycles_leave m s known group c in
    let all : IsTrade m s (is_on_cycle m s) = cycles_trade m s known in
    record {
      wishes = wish_keeps m s group (is_on_cycle m s) gone all;
      pointing = successor_keeps m s group (is_on_cycle m s) gone all;
      cycles = λ p o n.
          let left : IsTrade m (removed m s group) (minus group (is_on_cycle m s)) =
          trade_left_over m s group (is_on_cycle m s) gone all in
          let is_left : minus group (is_on_cycle m s) p ≡ true =
          and_from (is_on_cycle m s p) (not (group p)) o (not_from_false (group p) n) in
          cycle_from m (removed m s group) (removed_known m s group known) p (left.remain p is_left)
          (left.cycle p is_left);
    }

-- ---- loops and chains

module _ (m : Market) (ok : IsMarket m) (s : Stage) (known : IsStageOf m s) where
  points_home : (p q : ℕ) → s.people q ≡ true → WishesForHomeOf m s p q → successor m s p ≡ q
  points_home p q h w = successor_at m s p (Some w.0) w.2 ∙ home_points_to m ok s q w.0 (known q h) w.1 h

  -- the first of a row reaches each of them, and each of them reaches the person to whom the room points
  along : (p : ℕ) (xs : List ℕ) (room q : ℕ) → points_to m s room ≡ q → AllRemain s (p ∷ xs) → WishOnTo m s p xs room
      → (y : ℕ) → among (p ∷ xs) y ≡ true → Reach (successor m s) p y × Reach (successor m s) (successor m s y) q
  along p [] room q to remain w y h =
      elim (or_cases (p == y) false h) [
        | inl e ↦ subst (λ z. Reach (successor m s) p z × Reach (successor m s) (successor m s z) q) (eqb-true p y e)
            (here, subst (λ z. Reach (successor m s) z q) (sym (successor_at m s p (Some room) w ∙ to)) here)
        | inr f ↦ absurd (both_ways false refl f)
      ]
  along p (x ∷ xs) room q to remain w y h =
      let self : among (x ∷ xs) x ≡ true = or_left (x == x) (among xs x) (eq-eqb x x refl) in
      let next : successor m s p ≡ x = points_home p x (remain x (or_right (p == x) (among (x ∷ xs) x) self)) w.0 in
      let rest : (z : ℕ) → among (x ∷ xs) z ≡ true → Reach (successor m s) x z × Reach (successor m s)
      (successor m s z) q =
      along x xs room q to (λ z hz. remain z (or_right (p == z) (among (x ∷ xs) z) hz)) w.1 in
      elim (or_cases (p == y) (among (x ∷ xs) y) h) [
        | inl e ↦ subst (λ z. Reach (successor m s) p z × Reach (successor m s) (successor m s z) q) (eqb-true p y e)
            (here, subst (λ z. Reach (successor m s) z q) (sym next) (there (rest x self).1))
        | inr f ↦ (there (subst (λ z. Reach (successor m s) z y) (sym next) (rest y f).0), (rest y f).1)
      ]

  -- each of them points to another in the row, or to the person to whom the room points
  onward : (p : ℕ) (xs : List ℕ) (room q : ℕ) → points_to m s room ≡ q → AllRemain s (p ∷ xs) → WishOnTo m s p xs room
      → (y : ℕ) → among (p ∷ xs) y ≡ true → (among xs (successor m s y) ≡ true) ⊎ (successor m s y ≡ q)
  onward p [] room q to remain w y h =
      elim (or_cases (p == y) false h) [
        | inl e ↦ inr (ap (successor m s) (sym (eqb-true p y e)) ∙ successor_at m s p (Some room) w ∙ to)
        | inr f ↦ absurd (both_ways false refl f)
      ]
  onward p (x ∷ xs) room q to remain w y h =
      let self : among (x ∷ xs) x ≡ true = or_left (x == x) (among xs x) (eq-eqb x x refl) in
      let next : successor m s p ≡ x = points_home p x (remain x (or_right (p == x) (among (x ∷ xs) x) self)) w.0 in
      elim (or_cases (p == y) (among (x ∷ xs) y) h) [
        | inl e ↦ inl (subst (λ z. among (x ∷ xs) z ≡ true) (sym next ∙ ap (successor m s) (eqb-true p y e)) self)
        | inr f ↦ elim (onward x xs room q to (λ z hz. remain z (or_right (p == z) (among (x ∷ xs) z) hz)) w.1 y f) [
          | inl g ↦ inl (or_right (x == successor m s y) (among xs (successor m s y)) g)
          | inr e ↦ inr e
        ]
      ]

  row_cycles : (room person : ℕ) (others : List ℕ) → points_to m s room ≡ person → AllRemain s (person ∷ others)
      → WishOnTo m s person others room → AreCycles m s (among (person ∷ others))
  row_cycles room person others to remain wishes = record {
    each = λ p h.
        let both : Reach (successor m s) person p × Reach (successor m s) (successor m s p) person =
        along person others room person to remain wishes p h in
        cycle_from m s known p (remain p h) (reach_trans (successor m s) both.1 both.0);
    closed = λ p h.
        elim (onward person others room person to remain wishes p h) [
          | inl f ↦ or_right (person == successor m s p) (among others (successor m s p)) f
          | inr e ↦ or_left (person == successor m s p) (among others (successor m s p))
              (eq-eqb person (successor m s p) (sym e))
        ];
  }

  free_points_to : (room : ℕ) → ((t : ℕ) → tenant_of m room ≡ Some t → s.people t ≡ false)
      → points_to m s room ≡ first m s
  unfolding points_to
  free_points_to room free = by_tenant (tenant_of m room) refl
    where
      by_tenant : (o : Option ℕ) → tenant_of m room ≡ o → tenant_or_first m s o ≡ first m s
      by_tenant None e = refl
      by_tenant (Some t) e = cond-false (s.people t) t (first m s) (free t e)

pub loop_cycles : (m : Market) → IsMarket m → (s : Stage) → IsStageOf m s → (person : ℕ) (others : List ℕ)
    → IsLoop m s person others → AreCycles m s (among (person ∷ others))
loop_cycles m ok s known person others loop =
    let there_still : s.people person ≡ true = loop.remain person (among_self person others) in
    row_cycles m ok s known loop.room person others
    (home_points_to m ok s person loop.room (known person there_still) loop.lives there_still) loop.remain loop.wishes

pub chain_cycles : (m : Market) → IsMarket m → (s : Stage) → IsStageOf m s → (person : ℕ) (others : List ℕ)
    → IsChain m s person others → AreCycles m s (among (person ∷ others))
chain_cycles m ok s known person others chain =
    row_cycles m ok s known chain.room person others (free_points_to m ok s known chain.room chain.free ∙ chain.leads)
    chain.remain chain.wishes
