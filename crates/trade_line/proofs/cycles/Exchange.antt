-- Groups of cycles may be removed in any order.
use Rattle.std.proofs.Common.{◌≡◌, ℕ, ◌<◌, Bool, true, false, not, ◌&&◌, Option, Some, None, find, refl, sym, ap, ◌∙◌}
use Rattle.std.proofs.Common.{subst, inl, inr}
use Rattle.std.specs.Option.{unwrap_or}
use Rattle.std.proofs.lemmas.Bool.{cond-true, cond-false, cases_Bool, and_parts, and_from, false_from_ne_true}
use Rattle.std.proofs.lemmas.Bool.{both_ways, not-true, not_from_false}
use Rattle.trade_line.specs.Below.{or_else}
use Rattle.trade_line.specs.Market.{Market, home, list_of, is_room, tenant_of}
use Rattle.trade_line.specs.TopTradingCycles.{Stage, wish, first, tenant_or_first, points_to, target, successor, taken}
use Rattle.trade_line.specs.TopTradingCycles.{removed}
use Rattle.trade_line.specs.Inner.Removal.{Reach, IsTrade}
use Rattle.trade_line.specs.Inner.Removal.Reach.{here, there}
use Rattle.trade_line.proofs.searches.Search.{find_passes, find_keeps, first_passes, first_keeps, some_gives}
use Rattle.trade_line.proofs.searches.Search.{is_room_gives}

-- the part of the second group that is not in the first
abbrev pub minus : (ℕ → Bool) → (ℕ → Bool) → ℕ → Bool
minus k l p = l p && not (k p)

pub reach_closed : (g : ℕ → ℕ) (group : ℕ → Bool) → ((p : ℕ) → group p ≡ true → group (g p) ≡ true) → {a b : ℕ}
    → Reach g a b → group a ≡ true → group b ≡ true
reach_closed g group closed here h = h
reach_closed g group closed {a} (there r) h = reach_closed g group closed r (closed a h)

pub reach_same : (g k : ℕ → ℕ) (group : ℕ → Bool) → ((p : ℕ) → group p ≡ true → group (g p) ≡ true)
    → ((p : ℕ) → group p ≡ true → k p ≡ g p) → {a b : ℕ} → Reach g a b → group a ≡ true → Reach k a b
reach_same g k group closed same here h = here
reach_same g k group closed same {a} {b} (there r) h =
    there (subst (λ z. Reach k z b) (sym (same a h)) (reach_same g k group closed same r (closed a h)))

module _ (m : Market) where
  pub successor_at : (s : Stage) (p : ℕ) (o : Option ℕ) → wish m s p ≡ o → successor m s p ≡ target m s p o
  unfolding successor
  successor_at s p o e = ap (target m s p) e

  pub taken_gives : (s : Stage) (k : ℕ → Bool) (r : ℕ) → taken m s k r ≡ true → (q : ℕ) × (q < m.people) × (k q ≡ true)
      × (wish m s q ≡ Some r)
  unfolding taken
  taken_gives s k r h =
      let t : (q : ℕ) × (q < m.people) × ((k q && is_room r (wish m s q)) ≡ true) =
      some_gives m.people (λ p. k p && is_room r (wish m s p)) h in
      let b : (k t.0 ≡ true) × (is_room r (wish m s t.0) ≡ true) = and_parts (k t.0) (is_room r (wish m s t.0)) t.2 in
      (t.0, t.1, b.0, is_room_gives r (wish m s t.0) b.1)

  -- a person in one trade and not in another doesn't point into the other
  pub points_past : (s : Stage) (k l : ℕ → Bool) → IsTrade m s k → IsTrade m s l → (p : ℕ) → l p ≡ true → k p ≡ false
      → k (successor m s p) ≡ false
  points_past s k l tk tl p h f =
      false_from_ne_true (k (successor m s p))
      (λ t. both_ways (k p) f (reach_closed (successor m s) k tk.closed (tl.cycle p h) t))

  pub wish_keeps : (s : Stage) (k l : ℕ → Bool) → IsTrade m s k → IsTrade m s l → (p : ℕ) → l p ≡ true → k p ≡ false
      → wish m (removed m s k) p ≡ wish m s p
  unfolding wish removed
  wish_keeps s k l tk tl p h f =
      ap (λ o. or_else o (home m p))
      (find_keeps s.rooms (removed m s k).rooms (list_of m p)
      (λ y t. (and_parts (s.rooms y) (not (taken m s k y)) t).0) stays)
    where
      stays : (x : ℕ) → find s.rooms (list_of m p) ≡ Some x → (removed m s k).rooms x ≡ true
      stays x e =
          let w : wish m s p ≡ Some x = rw e refl in
          let free : taken m s k x ≡ false = false_from_ne_true (taken m s k x) (λ t.
          let g : (q : ℕ) × (q < m.people) × (k q ≡ true) × (wish m s q ≡ Some x) = taken_gives s k x t in
          let same : successor m s g.0 ≡ successor m s p =
          successor_at s g.0 (Some x) g.3 ∙ sym (successor_at s p (Some x) w) in
          both_ways (k (successor m s p)) (points_past s k l tk tl p h f)
          (subst (λ z. k z ≡ true) same (tk.closed g.0 g.2))) in
          and_from (s.rooms x) (not (taken m s k x)) (find_passes s.rooms (list_of m p) x e)
          (not_from_false (taken m s k x) free)

  pub first_stays : (s : Stage) (k : ℕ → Bool) → k (first m s) ≡ false → first m (removed m s k) ≡ first m s
  unfolding first removed
  first_stays s k f =
      ap (λ o. unwrap_or o 0)
      (first_keeps m.people s.people (removed m s k).people (λ y t. (and_parts (s.people y) (not (k y)) t).0) (λ x e.
      let fx : k x ≡ false = subst (λ z. k z ≡ false) (ap (λ o. unwrap_or o 0) e) f in
      and_from (s.people x) (not (k x)) (first_passes m.people s.people x e).0 (not_from_false (k x) fx)))

  points_to_keeps : (s : Stage) (k : ℕ → Bool) (r : ℕ) → k (points_to m s r) ≡ false
      → points_to m (removed m s k) r ≡ points_to m s r
  unfolding points_to removed
  points_to_keeps s k r f = by_tenant (tenant_of m r) f
    where
      by_tenant : (o : Option ℕ) → k (tenant_or_first m s o) ≡ false
          → tenant_or_first m (removed m s k) o ≡ tenant_or_first m s o
      by_tenant None f = first_stays s k f
      by_tenant (Some t) f =
          elim (cases_Bool (s.people t)) [
            | inl y ↦
                let fx : k t ≡ false = subst (λ z. k z ≡ false) (cond-true (s.people t) t (first m s) y) f in
                rw (y, fx) refl
            | inr n ↦
                let fx : k (first m s) ≡ false = subst (λ z. k z ≡ false) (cond-false (s.people t) t (first m s) n) f in
                rw n (first_stays s k fx)
          ]

  pub successor_keeps : (s : Stage) (k l : ℕ → Bool) → IsTrade m s k → IsTrade m s l → (p : ℕ) → l p ≡ true
      → k p ≡ false → successor m (removed m s k) p ≡ successor m s p
  successor_keeps s k l tk tl p h f =
      successor_at (removed m s k) p (wish m s p) (wish_keeps s k l tk tl p h f) ∙ by_wish (wish m s p) refl
    where
      by_wish : (o : Option ℕ) → wish m s p ≡ o → target m (removed m s k) p o ≡ successor m s p
      by_wish None e = sym (successor_at s p None e)
      by_wish (Some r) e =
          let w : successor m s p ≡ points_to m s r = successor_at s p (Some r) e in
          let past : k (points_to m s r) ≡ false = subst (λ z. k z ≡ false) w (points_past s k l tk tl p h f) in
          points_to_keeps s k r past ∙ sym w

  pub trade_left_over : (s : Stage) (k l : ℕ → Bool) → IsTrade m s k → IsTrade m s l
      → IsTrade m (removed m s k) (minus k l)
  unfolding removed
  trade_left_over s k l tk tl = record {
    known = λ p h. tl.known p (parts p h).0;
    remain = λ p h. and_from (s.people p) (not (k p)) (tl.remain p (parts p h).0) (parts p h).1;
    closed = λ p h. subst (λ z. minus k l z ≡ true) (sym (same p h)) (stay p h);
    cycle = λ p h. subst (λ z. Reach (successor m (removed m s k)) z p) (sym (same p h))
        (reach_same (successor m s) (successor m (removed m s k)) (minus k l) stay same
        (tl.cycle p (parts p h).0) (stay p h));
  }
    where
      parts : (p : ℕ) → minus k l p ≡ true → (l p ≡ true) × (not (k p) ≡ true)
      parts p h = and_parts (l p) (not (k p)) h

      same : (p : ℕ) → minus k l p ≡ true → successor m (removed m s k) p ≡ successor m s p
      same p h = successor_keeps s k l tk tl p (parts p h).0 (not-true (k p) (parts p h).1)

      stay : (p : ℕ) → minus k l p ≡ true → minus k l (successor m s p) ≡ true
      stay p h = and_from (l (successor m s p)) (not (k (successor m s p))) (tl.closed p (parts p h).0)
          (not_from_false (k (successor m s p))
          (points_past s k l tk tl p (parts p h).0 (not-true (k p) (parts p h).1)))
