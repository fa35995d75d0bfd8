-- The result of removals from a stage is rational, an assignment, efficient, and leaves no better trade apart.
use Rattle.std.proofs.Common.{◌≡◌, ℕ, zero, suc, ◌+◌, ◌-◌, ◌<◌, ◌≤◌, ◌⊎◌, Bool, true, false, not, ◌&&◌, Option, Some}
use Rattle.std.proofs.Common.{None, find, refl, sym, ap, ◌∙◌, subst, inl, inr, arith, lt-ltb, ltb-true}
use Rattle.std.proofs.lemmas.Bool.{cases_Bool, cases_order, and_parts, and_from, false_from_ne_true, both_ways}
use Rattle.std.proofs.lemmas.Bool.{not-true, not_from_false}
use Rattle.std.specs.Fn.{iterate}
use Rattle.trade_line.specs.Below.{or_else}
use Rattle.trade_line.specs.Cycles.{IsStageOf}
use Rattle.trade_line.specs.Market.{Market, IsMarket, home, list_of}
use Rattle.trade_line.specs.TopTradingCycles.{Stage, start, wish, successor, taken, removed, gets}
use Rattle.trade_line.specs.Inner.Removal.{Reach, IsTrade, Leads}
use Rattle.trade_line.specs.Member.{among}
use Rattle.trade_line.specs.Rank.{rank}
use Rattle.trade_line.specs.Assignment.{IsAssignment, IsIndividuallyRational, IsEfficient}
use Rattle.trade_line.specs.TradeApart.{TradesApart, HasNoBetterTradeApart}
use Rattle.trade_line.specs.Inner.Removal.Reach.{here, there}
use Rattle.trade_line.specs.Inner.Removal.Leads.{done, trade}
use Rattle.trade_line.proofs.searches.Search.{clash, find_passes}
use Rattle.trade_line.proofs.counts.Count.{reach_times, times_sum}
use Rattle.trade_line.proofs.cycles.Exchange.{successor_at, taken_gives}
use Rattle.trade_line.proofs.cycles.Unique.{taken_from}
use Rattle.trade_line.proofs.cycles.Chain.{home_points_to}
use Rattle.trade_line.proofs.cycles.Steps.{removed_known, start_known, gets_leads}
use Rattle.trade_line.proofs.welfare.Ranks.{place_lt, find_among, rank_listed, rank_home, wish_is_best}

module _ (m : Market) (ok : IsMarket m) where
  -- the wish is no worse than anything available
  pub wish_rational : (s : Stage) (p : ℕ) → p < m.people → rank m p (wish m s p) ≤ rank m p (home m p)
  unfolding wish
  wish_rational s p l = by_found (find s.rooms (list_of m p)) refl
    where
      by_found : (o : Option ℕ) → find s.rooms (list_of m p) ≡ o → rank m p (or_else o (home m p)) ≤ rank m p (home m p)
      by_found None f = omega arith
      by_found (Some y) f =
          let i : among (list_of m p) y ≡ true = find_among s.rooms (list_of m p) y f in
          omega (arith, rank_listed m ok p y i, place_lt y (list_of m p) i, rank_home m ok p l)

  pub rational_from : (f : ℕ → Option ℕ) {s : Stage} → Leads m f s → (p : ℕ) → p < m.people → s.people p ≡ true
      → rank m p (f p) ≤ rank m p (home m p)
  unfolding removed
  rational_from f {s} (done none) p l h = clash (s.people p) h (none p)
  rational_from f {s} (trade k tk fk d) p l h =
      elim (cases_Bool (k p)) [
        | inl y ↦ subst (λ z. rank m p z ≤ rank m p (home m p)) (sym (fk p y)) (wish_rational s p l)
        | inr n ↦ rational_from f d p l (and_from (s.people p) (not (k p)) h (not_from_false (k p) n))
      ]

  pub efficient_from : (f : ℕ → Option ℕ) {s : Stage} → Leads m f s → (a : ℕ → Option ℕ)
      → ((p q r : ℕ) → s.people p ≡ true → s.people q ≡ true → a p ≡ Some r → a q ≡ Some r → p ≡ q)
      → ((p r : ℕ) → s.people p ≡ true → a p ≡ Some r → s.rooms r ≡ true)
      → ((p : ℕ) → s.people p ≡ true → (p < m.people) × (rank m p (a p) ≤ rank m p (f p)))
      → (p : ℕ) → s.people p ≡ true → a p ≡ f p
  unfolding removed
  efficient_from f {s} (done none) a differ can better p h = clash (s.people p) h (none p)
  efficient_from f {s} (trade k tk fk d) a differ can better p h =
      elim (cases_Bool (k p)) [
        | inl y ↦ at_k p y ∙ sym (fk p y)
        | inr n ↦ efficient_from f d a
            (λ p q r hp hq ep eq. differ p q r (and_parts (s.people p) (not (k p)) hp).0
            (and_parts (s.people q) (not (k q)) hq).0 ep eq)
            (λ p r hp ep.
            (let b : (s.people p ≡ true) × (not (k p) ≡ true) = and_parts (s.people p) (not (k p)) hp in
            and_from (s.rooms r) (not (taken m s k r)) (can p r b.0 ep)
            (not_from_false (taken m s k r) (false_from_ne_true (taken m s k r) (λ t.
            let g : (q : ℕ) × (q < m.people) × (k q ≡ true) × (wish m s q ≡ Some r) = taken_gives m s k r t in
            let same : p ≡ g.0 = differ p g.0 r b.0 (tk.remain g.0 g.2) ep (at_k g.0 g.2 ∙ g.3) in
            both_ways (k p) (not-true (k p) b.1) (subst (λ z. k z ≡ true) (sym same) g.2))))))
            (λ p hp. better p (and_parts (s.people p) (not (k p)) hp).0)
            p (and_from (s.people p) (not (k p)) h (not_from_false (k p) n))
      ]
    where
      at_k : (p : ℕ) → k p ≡ true → a p ≡ wish m s p
      at_k p y =
          let b : (p < m.people) × (rank m p (a p) ≤ rank m p (f p)) = better p (tk.remain p y) in
          wish_is_best m ok s p b.0 (a p) (λ r e. can p r (tk.remain p y) e)
          (subst (λ z. rank m p (a p) ≤ rank m p z) (fk p y) b.1)

-- two people on cycles with one successor are one
same_before : (g : ℕ → ℕ) (fuel a b x p q : ℕ) → a + b < fuel → iterate g a x ≡ p → iterate g b x ≡ q → g p ≡ x
    → g q ≡ x → p ≡ q
same_before g zero a b x p q h ep eq gp gq = absurd (omega arith)
same_before g (suc fuel) a b x p q h ep eq gp gq =
    elim (cases_order a b) [
      | inl e ↦ sym ep ∙ ap (λ k. iterate g k x) e ∙ eq
      | inr c ↦ elim c [
        | inl l ↦
            let d : ℕ = b - suc a in
            let e : a + suc d ≡ b = omega arith in
            let eq2 : iterate g d x ≡ q = ap (iterate g d) (sym gp) ∙ ap (iterate g (suc d)) (sym ep)
            ∙ times_sum g a (suc d) x ∙ ap (λ k. iterate g k x) e ∙ eq in
            same_before g fuel a d x p q (omega arith) ep eq2 gp gq
        | inr l ↦
            let d : ℕ = a - suc b in
            let e : b + suc d ≡ a = omega arith in
            let ep2 : iterate g d x ≡ p = ap (iterate g d) (sym gq) ∙ ap (iterate g (suc d)) (sym eq)
            ∙ times_sum g b (suc d) x ∙ ap (λ k. iterate g k x) e ∙ ep in
            same_before g fuel d b x p q (omega arith) ep2 eq gp gq
      ]
    ]

-- if a group is closed under g, everybody reached from it is in it already or right behind somebody
pub reach_before : (g : ℕ → ℕ) (group : ℕ → Bool) → ((p : ℕ) → group p ≡ true → group (g p) ≡ true) → {a b : ℕ}
    → Reach g a b → group a ≡ true → (a ≡ b) ⊎ ((z : ℕ) × (group z ≡ true) × (g z ≡ b))
reach_before g group closed here h = inl refl
reach_before g group closed {a} (there r) h =
    elim (reach_before g group closed r (closed a h)) [
      | inl e ↦ inr (a, h, e)
      | inr t ↦ inr t
    ]

module _ (m : Market) (ok : IsMarket m) where
  trade_differ : (s : Stage) (k : ℕ → Bool) → IsTrade m s k → (p q : ℕ) → k p ≡ true → k q ≡ true
      → successor m s p ≡ successor m s q → p ≡ q
  trade_differ s k tk p q hp hq e =
      let a : (n : ℕ) × (iterate (successor m s) n (successor m s p) ≡ p) =
      reach_times (successor m s) (tk.cycle p hp) in
      let b : (n : ℕ) × (iterate (successor m s) n (successor m s q) ≡ q) =
      reach_times (successor m s) (tk.cycle q hq) in
      same_before (successor m s) (suc (a.0 + b.0)) a.0 b.0 (successor m s p) p q (omega arith) a.1
      (ap (iterate (successor m s) b.0) e ∙ b.1) refl (sym e)

  -- the homes of those who remain also remain
  abbrev pub HomesThere : Stage → Type 0
  HomesThere s = (t h : ℕ) → s.people t ≡ true → home m t ≡ Some h → s.rooms h ≡ true

  pub homes_stay : (s : Stage) (k : ℕ → Bool) → IsTrade m s k → IsStageOf m s → HomesThere s
      → HomesThere (removed m s k)
  unfolding removed
  homes_stay s k tk known kept t h ht e =
      let b : (s.people t ≡ true) × (not (k t) ≡ true) = and_parts (s.people t) (not (k t)) ht in
      and_from (s.rooms h) (not (taken m s k h)) (kept t h b.0 e)
      (not_from_false (taken m s k h) (false_from_ne_true (taken m s k h) (λ y.
      let g : (q : ℕ) × (q < m.people) × (k q ≡ true) × (wish m s q ≡ Some h) = taken_gives m s k h y in
      let to : successor m s g.0 ≡ t = successor_at m s g.0 (Some h) g.3
      ∙ home_points_to m ok s t h (known t b.0) e b.0 in
      both_ways (k t) (not-true (k t) b.1) (subst (λ z. k z ≡ true) to (tk.closed g.0 g.2)))))

  pub wish_there : (s : Stage) → HomesThere s → (p r : ℕ) → s.people p ≡ true → wish m s p ≡ Some r → s.rooms r ≡ true
  unfolding wish
  wish_there s kept p r h e = by_found (find s.rooms (list_of m p)) refl e
    where
      by_found : (o : Option ℕ) → find s.rooms (list_of m p) ≡ o → or_else o (home m p) ≡ Some r → s.rooms r ≡ true
      by_found None f e = kept p r h e
      by_found (Some y) f e =
          let z : y ≡ r = cc in
          subst (λ v. s.rooms v ≡ true) z (find_passes s.rooms (list_of m p) y f)

  -- what a person gets later still remains now
  pub there_from : (f : ℕ → Option ℕ) {s : Stage} → Leads m f s → IsStageOf m s → HomesThere s → (p r : ℕ)
      → s.people p ≡ true → f p ≡ Some r → s.rooms r ≡ true
  unfolding removed
  there_from f {s} (done none) known homes p r h e = clash (s.people p) h (none p)
  there_from f {s} (trade k tk fk d) known homes p r h e =
      elim (cases_Bool (k p)) [
        | inl y ↦ wish_there s homes p r h (sym (fk p y) ∙ e)
        | inr n ↦
            (and_parts (s.rooms r) (not (taken m s k r))
            (there_from f d (removed_known m s k known) (homes_stay s k tk known homes) p r
            (and_from (s.people p) (not (k p)) h (not_from_false (k p) n)) e)).0
      ]

  differ_from : (f : ℕ → Option ℕ) {s : Stage} → Leads m f s → IsStageOf m s → HomesThere s → (p q r : ℕ)
      → s.people p ≡ true → s.people q ≡ true → f p ≡ Some r → f q ≡ Some r → p ≡ q
  unfolding removed
  differ_from f {s} (done none) known homes p q r hp hq ep eq = clash (s.people p) hp (none p)
  differ_from f {s} (trade k tk fk d) known homes p q r hp hq ep eq =
      elim (cases_Bool (k p)) [
        | inl yp ↦ elim (cases_Bool (k q)) [
          | inl yq ↦ trade_differ s k tk p q yp yq (successor_at m s p (Some r) (sym (fk p yp) ∙ ep)
              ∙ sym (successor_at m s q (Some r) (sym (fk q yq) ∙ eq)))
          | inr nq ↦ absurd (gone p q yp nq hq ep eq)
        ]
        | inr np ↦ elim (cases_Bool (k q)) [
          | inl yq ↦ absurd (gone q p yq np hp eq ep)
          | inr nq ↦ differ_from f d (removed_known m s k known) (homes_stay s k tk known homes) p q r (after p hp np)
              (after q hq nq) ep eq
        ]
      ]
    where
      after : (p : ℕ) → s.people p ≡ true → k p ≡ false → (s.people p && not (k p)) ≡ true
      after p h n = and_from (s.people p) (not (k p)) h (not_from_false (k p) n)

      gone : (p q : ℕ) → k p ≡ true → k q ≡ false → s.people q ≡ true → f p ≡ Some r → f q ≡ Some r → ⊥
      gone p q yp nq hq ep eq =
          let t : taken m s k r ≡ true = taken_from m s k r p (tk.known p yp) yp (sym (fk p yp) ∙ ep) in
          let b : (s.rooms r && not (taken m s k r)) ≡ true =
          there_from f d (removed_known m s k known) (homes_stay s k tk known homes) q r (after q hq nq) eq in
          both_ways (taken m s k r) (not-true (taken m s k r) (and_parts (s.rooms r) (not (taken m s k r)) b).1) t

  apart_from : (f : ℕ → Option ℕ) {s : Stage} → Leads m f s → IsStageOf m s → HomesThere s
      → (group : ℕ → Bool) (a : ℕ → Option ℕ) → TradesApart m group a
      → ((p : ℕ) → group p ≡ true → s.people p ≡ true → (q : ℕ) × (group q ≡ true) × (s.people q ≡ true)
      × (a p ≡ home m q))
      → ((p : ℕ) → group p ≡ true → rank m p (a p) ≤ rank m p (f p))
      → (p : ℕ) → group p ≡ true → s.people p ≡ true → a p ≡ f p
  unfolding removed
  apart_from f {s} (done none) known homes group a tr own better p gp h = clash (s.people p) h (none p)
  apart_from f {s} (trade k tk fk d) known homes group a tr own better p gp h =
      elim (cases_Bool (k p)) [
        | inl y ↦ at_k p gp y ∙ sym (fk p y)
        | inr n ↦ apart_from f d (removed_known m s k known) (homes_stay s k tk known homes) group a tr own2 better p gp
            (and_from (s.people p) (not (k p)) h (not_from_false (k p) n))
      ]
    where
      both : ℕ → Bool
      both p = group p && k p

      at_k : (p : ℕ) → group p ≡ true → k p ≡ true → a p ≡ wish m s p
      at_k p gp y =
          let q : (q : ℕ) × (group q ≡ true) × (s.people q ≡ true) × (a p ≡ home m q) = own p gp (tk.remain p y) in
          wish_is_best m ok s p (tk.known p y) (a p) (λ r e. homes q.0 r q.2 (sym q.3 ∙ e))
          (subst (λ z. rank m p (a p) ≤ rank m p z) (fk p y) (better p gp))

      -- the successor of a member who trades now is the one whose home it gets
      to_own : (p : ℕ) → group p ≡ true → k p ≡ true → (group (successor m s p) ≡ true)
          × (a p ≡ home m (successor m s p))
      to_own p gp y =
          let q : (q : ℕ) × (group q ≡ true) × (s.people q ≡ true) × (a p ≡ home m q) = own p gp (tk.remain p y) in
          let h : (h : ℕ) × (home m q.0 ≡ Some h) = tr.tenants q.0 q.1 in
          let to : successor m s p ≡ q.0 = successor_at m s p (Some h.0) (sym (at_k p gp y) ∙ q.3 ∙ h.1)
          ∙ home_points_to m ok s q.0 h.0 (tr.people q.0 q.1) h.1 q.2 in
          (subst (λ z. group z ≡ true) (sym to) q.1, q.3 ∙ ap (home m) (sym to))

      both_closed : (p : ℕ) → both p ≡ true → both (successor m s p) ≡ true
      both_closed p h =
          let b : (group p ≡ true) × (k p ≡ true) = and_parts (group p) (k p) h in
          and_from (group (successor m s p)) (k (successor m s p)) (to_own p b.0 b.1).0 (tk.closed p b.1)

      before : (q : ℕ) → group q ≡ true → k q ≡ true → (z : ℕ) × (both z ≡ true) × (successor m s z ≡ q)
      before q gq y =
          let b : both q ≡ true = and_from (group q) (k q) gq y in
          elim (reach_before (successor m s) both both_closed (tk.cycle q y) (both_closed q b)) [
            | inl e ↦ (q, b, e)
            | inr t ↦ t
          ]

      own2 : (p : ℕ) → group p ≡ true → (s.people p && not (k p)) ≡ true → (q : ℕ) × (group q ≡ true)
          × ((s.people q && not (k q)) ≡ true) × (a p ≡ home m q)
      own2 p gp h =
          let b : (s.people p ≡ true) × (not (k p) ≡ true) = and_parts (s.people p) (not (k p)) h in
          let q : (q : ℕ) × (group q ≡ true) × (s.people q ≡ true) × (a p ≡ home m q) = own p gp b.0 in
          let stays : k q.0 ≡ false = false_from_ne_true (k q.0) (λ y.
          let z : (z : ℕ) × (both z ≡ true) × (successor m s z ≡ q.0) = before q.0 q.1 y in
          let c : (group z.0 ≡ true) × (k z.0 ≡ true) = and_parts (group z.0) (k z.0) z.1 in
          let e : a z.0 ≡ a p = (to_own z.0 c.0 c.1).1 ∙ ap (home m) z.2 ∙ sym q.3 in
          both_ways (k p) (not-true (k p) b.1) (subst (λ x. k x ≡ true) (tr.differ z.0 p c.0 gp e) c.1)) in
          (q.0, q.1, and_from (s.people q.0) (not (k q.0)) q.2 (not_from_false (k q.0) stays), q.3)

  pub start_homes : HomesThere (start m)
  unfolding start
  start_homes t h ht e = lt-ltb h m.rooms (ok.indexed.homes_known t h (ltb-true t m.people ht) e)

  pub start_has_person : (p : ℕ) → p < m.people → (start m).people p ≡ true
  unfolding start
  start_has_person p l = lt-ltb p m.people l

  room_there : (r : ℕ) → r < m.rooms → (start m).rooms r ≡ true
  unfolding start
  room_there r l = lt-ltb r m.rooms l

  room_known : (r : ℕ) → (start m).rooms r ≡ true → r < m.rooms
  unfolding start
  room_known r h = ltb-true r m.rooms h

  pub gets_rational : IsIndividuallyRational m (gets m)
  gets_rational p l = rational_from m ok (gets m) (gets_leads m) p l (start_has_person p l)

  pub gets_assignment : IsAssignment m (gets m)
  gets_assignment = record {
    known = λ p r l e. room_known r
        (there_from (gets m) (gets_leads m) (start_known m) start_homes p r (start_has_person p l) e);
    differ = λ p q r lp lq ep eq. differ_from (gets m) (gets_leads m) (start_known m) start_homes p q r
        (start_has_person p lp) (start_has_person q lq) ep eq;
  }

  pub gets_efficient : IsEfficient m (gets m)
  gets_efficient a ia better p l =
      efficient_from m ok (gets m) (gets_leads m) a
      (λ p q r hp hq ep eq. ia.differ p q r (start_known m p hp) (start_known m q hq) ep eq)
      (λ p r hp ep. room_there r (ia.known p r (start_known m p hp) ep))
      (λ p hp. (start_known m p hp, better p (start_known m p hp)))
      p (start_has_person p l)

  pub gets_apart : HasNoBetterTradeApart m (gets m)
  gets_apart group a tr better p gp =
      apart_from (gets m) (gets_leads m) (start_known m) start_homes group a tr
      (λ p gp h. let q : (q : ℕ) × (group q ≡ true) × (a p ≡ home m q) = tr.own p gp in
      (q.0, q.1, start_has_person q.0 (tr.people q.0 q.1), q.2))
      better p gp (start_has_person p (tr.people p gp))
