-- The simultaneous steps remove groups of cycles until nobody remains.
use Rattle.std.proofs.Common.{◌≡◌, ℕ, zero, suc, ◌+◌, ◌-◌, ◌<◌, ◌≤◌, Bool, true, false, not, ◌&&◌, ◌==◌, Option, Some}
use Rattle.std.proofs.Common.{None, refl, sym, ap, ◌∙◌, subst, inl, inr, arith, eqb-true, eq-eqb, ltb-true, lt-ltb}
use Rattle.std.proofs.Common.{le_refl}
use Rattle.std.specs.Option.{unwrap_or}
use Rattle.std.proofs.lemmas.Bool.{and_right, cases_Bool, cases_lt, and_parts, and_from, false_from_ne_true, both_ways}
use Rattle.std.proofs.lemmas.Bool.{cond-true, cond-false, not-true}
use Rattle.std.specs.Fn.{iterate}
use Rattle.trade_line.specs.Below.{some_below, first_below, count_below}
use Rattle.trade_line.specs.Market.{Market, tenant_of}
use Rattle.trade_line.specs.TopTradingCycles.{Stage, start, wish, first, tenant_or_first, points_to, target, successor}
use Rattle.trade_line.specs.TopTradingCycles.{remaining_count, is_on_cycle, removed, step, gets_within, gets}
use Rattle.trade_line.specs.Cycles.{IsStageOf}
use Rattle.trade_line.specs.Inner.Removal.{IsTrade, Leads}
use Rattle.trade_line.specs.Inner.Removal.Leads.{done, trade}
use Rattle.trade_line.proofs.searches.Search.{some_gives, some_from, first_finds, first_passes}
use Rattle.trade_line.proofs.counts.Count.{count_le, count_most, count_some, count_less, pigeonhole, times_reach}
use Rattle.trade_line.proofs.counts.Count.{times_after, times_sum, times_stays}
use Rattle.trade_line.proofs.cycles.Unique.{wishes_lead_to_one}

module _ (m : Market) where
  first_remains : (s : Stage) → IsStageOf m s → (p : ℕ) → s.people p ≡ true → s.people (first m s) ≡ true
  unfolding first
  first_remains s known p h =
      let r : (y : ℕ) × (first_below m.people s.people ≡ Some y) = first_finds m.people s.people p (known p h) h in
      subst (λ z. s.people z ≡ true) (sym (ap (λ o. unwrap_or o 0) r.1)) (first_passes m.people s.people r.0 r.1).0

  points_to_remains : (s : Stage) → IsStageOf m s → (p r : ℕ) → s.people p ≡ true → s.people (points_to m s r) ≡ true
  unfolding points_to
  points_to_remains s known p r h = by_tenant (tenant_of m r)
    where
      by_tenant : (o : Option ℕ) → s.people (tenant_or_first m s o) ≡ true
      by_tenant None = first_remains s known p h
      by_tenant (Some t) =
          elim (cases_Bool (s.people t)) [
            | inl y ↦ rw y y
            | inr n ↦ rw n (first_remains s known p h)
          ]

  pub successor_remains : (s : Stage) → IsStageOf m s → (p : ℕ) → s.people p ≡ true → s.people (successor m s p) ≡ true
  unfolding successor
  successor_remains s known p h = by_wish (wish m s p)
    where
      by_wish : (o : Option ℕ) → s.people (target m s p o) ≡ true
      by_wish None = h
      by_wish (Some r) = points_to_remains s known p r h

  pub cycles_trade : (s : Stage) → IsStageOf m s → IsTrade m s (is_on_cycle m s)
  unfolding is_on_cycle
  cycles_trade s known = record {
    known = λ p h. known p (parts p h).0;
    remain = λ p h. (parts p h).0;
    closed = λ p h.
        let c : (k : ℕ) × (k < remaining_count m s) × ((iterate (successor m s) (suc k) p == p) ≡ true) = turn p h in
        let e : iterate (successor m s) (suc c.0) (successor m s p) ≡ successor m s p =
        times_after (successor m s) (suc c.0) p
        ∙ ap (successor m s) (eqb-true (iterate (successor m s) (suc c.0) p) p c.2) in
        and_from (s.people (successor m s p))
        (some_below (remaining_count m s)
        (λ k. iterate (successor m s) (suc k) (successor m s p) == successor m s p))
        (successor_remains s known p (parts p h).0)
        (some_from (remaining_count m s) (λ k. iterate (successor m s) (suc k) (successor m s p) == successor m s p) c.0
        c.1 (eq-eqb (iterate (successor m s) (suc c.0) (successor m s p)) (successor m s p) e));
    cycle = λ p h.
        let c : (k : ℕ) × (k < remaining_count m s) × ((iterate (successor m s) (suc k) p == p) ≡ true) = turn p h in
        times_reach (successor m s) c.0 (successor m s p) p (eqb-true (iterate (successor m s) (suc c.0) p) p c.2);
  }
    where
      parts : (p : ℕ)
          → (s.people p && some_below (remaining_count m s) (λ k. iterate (successor m s) (suc k) p == p)) ≡ true
          → (s.people p ≡ true)
          × (some_below (remaining_count m s) (λ k. iterate (successor m s) (suc k) p == p) ≡ true)
      parts p h =
          and_parts (s.people p) (some_below (remaining_count m s) (λ k. iterate (successor m s) (suc k) p == p)) h

      turn : (p : ℕ)
          → (s.people p && some_below (remaining_count m s) (λ k. iterate (successor m s) (suc k) p == p)) ≡ true
          → (k : ℕ) × (k < remaining_count m s) × ((iterate (successor m s) (suc k) p == p) ≡ true)
      turn p h = some_gives (remaining_count m s) (λ k. iterate (successor m s) (suc k) p == p) (parts p h).1

  -- while somebody remains, somebody is on a cycle
  pub cycle_exists : (s : Stage) → IsStageOf m s → (p : ℕ) → s.people p ≡ true → (q : ℕ) × (is_on_cycle m s q ≡ true)
  unfolding is_on_cycle
  cycle_exists s known p h =
      let x : ℕ → ℕ = λ i. iterate (successor m s) i p in
      let inside : (i : ℕ) → s.people (iterate (successor m s) i p) ≡ true =
      λ i. times_stays (successor m s) s.people (successor_remains s known) i p h in
      let r : (i : ℕ) × (j : ℕ) × (i < j) × (j < suc (remaining_count m s))
      × (iterate (successor m s) i p ≡ iterate (successor m s) j p) =
      pigeonhole (remaining_count m s) m.people s.people (λ i. iterate (successor m s) i p)
      (λ i l. (known (iterate (successor m s) i p) (inside i), inside i)) (le_refl (remaining_count m s)) in
      let d : ℕ = r.1 - suc r.0 in
      let gap : r.0 + suc d ≡ r.1 = omega (arith, r.2) in
      let e : iterate (successor m s) (suc d) (iterate (successor m s) r.0 p) ≡ iterate (successor m s) r.0 p =
      times_sum (successor m s) r.0 (suc d) p ∙ ap (λ k. iterate (successor m s) k p) gap ∙ sym r.4 in
      let q : ℕ = iterate (successor m s) r.0 p in (
        q,
        and_from (s.people q) (some_below (remaining_count m s) (λ k. iterate (successor m s) (suc k) q == q))
            (inside r.0)
            (some_from (remaining_count m s) (λ k. iterate (successor m s) (suc k) q == q) d (omega (arith, r.2, r.3))
            (eq-eqb (iterate (successor m s) (suc d) q) q e)),
      )

  pub leads_where_same : (f g : ℕ → Option ℕ) {s : Stage} → Leads m f s → ((p : ℕ) → s.people p ≡ true → f p ≡ g p)
      → Leads m g s
  unfolding removed
  leads_where_same f g (done none) e = done none
  leads_where_same f g {s} (trade k tk fk d) e =
      trade k tk (λ p h. sym (e p (tk.remain p h)) ∙ fk p h)
      (leads_where_same f g d (λ p h. e p (and_parts (s.people p) (not (k p)) h).0))

  pub removed_known : (s : Stage) (k : ℕ → Bool) → IsStageOf m s → IsStageOf m (removed m s k)
  unfolding removed
  removed_known s k known p h = known p (and_parts (s.people p) (not (k p)) h).0

  pub step_fewer : (s : Stage) → IsStageOf m s → (k : ℕ) → remaining_count m s ≤ suc k
      → remaining_count m (step m s) ≤ k
  unfolding removed
  step_fewer s known k few =
      elim (cases_lt 0 (remaining_count m s)) [
        | inl some ↦
            let x : (x : ℕ) × (x < m.people) × (s.people x ≡ true) = count_some m.people s.people some in
            let q : (q : ℕ) × (is_on_cycle m s q ≡ true) = cycle_exists s known x.0 x.2 in
            let t : IsTrade m s (is_on_cycle m s) = cycles_trade s known in
            let less : count_below m.people (λ p. s.people p && not (is_on_cycle m s p)) < count_below
            m.people s.people =
            count_less m.people (λ p. s.people p && not (is_on_cycle m s p)) s.people q.0
            (λ y h. (and_parts (s.people y) (not (is_on_cycle m s y)) h).0) (t.known q.0 q.1) (t.remain q.0 q.1)
            (rw (q.1) (and_right (s.people q.0) false refl)) in
            omega arith
        | inr none ↦
            let le : count_below m.people (λ p. s.people p && not (is_on_cycle m s p)) ≤ count_below m.people s.people =
            count_le m.people (λ p. s.people p && not (is_on_cycle m s p)) s.people
            (λ y h. (and_parts (s.people y) (not (is_on_cycle m s y)) h).0) in
            omega arith
      ]

  pub within_leads : (k : ℕ) (s : Stage) → IsStageOf m s → remaining_count m s ≤ k → Leads m (gets_within m k s) s
  unfolding gets_within removed
  within_leads zero s known few =
      done (λ p. false_from_ne_true (s.people p) (λ h.
      let l : count_below m.people (λ _. false) < count_below m.people s.people =
      count_less m.people (λ _. false) s.people p (λ y f. absurd (both_ways false refl f)) (known p h) h refl in
      omega arith))
  within_leads (suc k) s known few =
      let t : IsTrade m s (is_on_cycle m s) = cycles_trade s known in
      let d : Leads m (gets_within m k (step m s)) (step m s) =
      within_leads k (step m s) (removed_known s (is_on_cycle m s) known) (step_fewer s known k few) in
      trade (is_on_cycle m s) t
      (λ p h. cond-true (is_on_cycle m s p) (wish m s p) (gets_within m k (step m s) p) h)
      (leads_where_same (gets_within m k (step m s)) (gets_within m (suc k) s) d
      (λ p h. sym (cond-false (is_on_cycle m s p) (wish m s p) (gets_within m k (step m s) p)
      (not-true (is_on_cycle m s p) (and_parts (s.people p) (not (is_on_cycle m s p)) h).1))))

  pub start_known : IsStageOf m (start m)
  unfolding start
  start_known p h = ltb-true p m.people h

  pub gets_leads : Leads m (gets m) (start m)
  unfolding gets start
  gets_leads = within_leads m.people (start m) start_known (count_most m.people (start m).people)

  -- the result of any removals from the start is that of the simultaneous steps
  pub leads_gets : (f : ℕ → Option ℕ) → Leads m f (start m) → (p : ℕ) → p < m.people → f p ≡ gets m p
  unfolding start
  leads_gets f d p h = wishes_lead_to_one m f (gets m) d gets_leads p (lt-ltb p m.people h)
