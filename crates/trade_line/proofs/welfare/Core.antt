-- The strict core gives each self-contained group of tenants what the trades give it; if no room is vacant, it is that
-- assignment.
use Rattle.std.proofs.Common.{rules, ◌≡◌, ℕ, ◌<◌, ◌≤◌, ◌+◌, ◌⊎◌, Bool, true, false, not, ◌&&◌, ◌||◌, ◌==◌, Option, Some}
use Rattle.std.proofs.Common.{None, is_some, is_none, length, find, refl, sym, ap, ◌∙◌, subst, inl, inr, arith}
use Rattle.std.proofs.Common.{eqb-true, eq-eqb, le_refl, ltb, ltb-true, lt-ltb}
use Rattle.std.proofs.lemmas.Bool.{cases_Bool, cases_lt, or_cases, or_left, or_right, and_parts, and_from}
use Rattle.std.proofs.lemmas.Bool.{false_from_ne_true, both_ways, cond-true, cond-false, not-true, not_from_false}
use Rattle.trade_line.specs.Below.{or_else}
use Rattle.trade_line.specs.Cycles.{IsStageOf}
use Rattle.trade_line.specs.Market.{Market, IsMarket, home, list_of, is_room, is_tenant}
use Rattle.trade_line.specs.TopTradingCycles.{Stage, start, wish, successor, taken, removed, gets}
use Rattle.trade_line.specs.Inner.Removal.{IsTrade, Leads}
use Rattle.trade_line.specs.Inner.Removal.Leads.{done, trade}
use Rattle.trade_line.specs.Member.{among}
use Rattle.trade_line.specs.Rank.{rank}
use Rattle.trade_line.specs.Assignment.{IsAssignment}
use Rattle.trade_line.specs.TradeApart.{TradesApart, HasNoBetterTradeApart}
use Rattle.trade_line.specs.Core.{HasNoVacantRoom, IsInStrictCore, IsUniqueInStrictCore, IsSelfContained}
use Rattle.trade_line.specs.Core.{KeepsSelfContained, IsStrictCoreByTradesApart}
use Rattle.trade_line.proofs.searches.Search.{clash, find_passes, is_room_gives, is_room_from}
use Rattle.trade_line.proofs.cycles.Exchange.{successor_at, taken_gives}
use Rattle.trade_line.proofs.cycles.Unique.{taken_from}
use Rattle.trade_line.proofs.cycles.Chain.{home_points_to}
use Rattle.trade_line.proofs.cycles.Steps.{removed_known, start_known, gets_leads}
use Rattle.trade_line.proofs.welfare.Ranks.{wish_is_best, not_among, rank_unlisted, rank_home}
use Rattle.trade_line.proofs.welfare.Welfare.{HomesThere, homes_stay, start_homes, start_has_person, reach_before}
use Rattle.trade_line.proofs.welfare.Welfare.{wish_there, gets_rational, gets_assignment, gets_apart}

module _ (m : Market) (ok : IsMarket m) where
  -- the wish is no worse than anything available
  wish_least : (s : Stage) (p : ℕ) → p < m.people → (x : Option ℕ) → ((r : ℕ) → x ≡ Some r → s.rooms r ≡ true)
      → rank m p (wish m s p) ≤ rank m p x
  wish_least s p l x can =
      elim (cases_lt (rank m p x) (rank m p (wish m s p))) [
        | inl lt ↦ subst (λ z. rank m p z ≤ rank m p x) (wish_is_best m ok s p l x can (omega arith))
            (le_refl (rank m p x))
        | inr ge ↦ ge
      ]

  -- nobody ranks what they get in the strict core below the own home
  alone_apart : (p h : ℕ) → p < m.people → home m p ≡ Some h → TradesApart m (λ z. z == p) (home m)
  alone_apart p h l e = record {
    people = λ q y. subst (λ z. z < m.people) (sym (eqb-true q p y)) l;
    tenants = λ q y. (h, ap (home m) (eqb-true q p y) ∙ e);
    own = λ q y. (q, y, refl);
    differ = λ q z hq hz _. eqb-true q p hq ∙ sym (eqb-true z p hz);
  }

  pub core_rational : (f : ℕ → Option ℕ) → IsInStrictCore m f → (p h : ℕ) → p < m.people → home m p ≡ Some h
      → rank m p (f p) ≤ rank m p (home m p)
  core_rational f core p h l e =
      elim (cases_lt (rank m p (f p)) (rank m p (home m p))) [
        | inl lt ↦ omega arith
        | inr ge ↦ core (λ z. z == p) (home m) (alone_apart p h l e)
            (λ q y. subst (λ z. rank m z (home m z) ≤ rank m z (f z)) (sym (eqb-true q p y)) ge) p (eq-eqb p p refl)
      ]

  -- two rooms that rank equally, and no lower than the home, are one
  rank_apart : (p : ℕ) → p < m.people → (x y : Option ℕ) → rank m p x ≡ rank m p y
      → rank m p x ≤ rank m p (home m p) → x ≡ y
  unfolding wish
  rank_apart p l x y e le =
      wish_is_best m ok pair p l x (λ r ex. or_left (is_room r x) (is_room r y) (is_room_from r x ex)) is_x
      ∙ sym (wish_is_best m ok pair p l y (λ r ey. or_right (is_room r x) (is_room r y) (is_room_from r y ey))
      (omega (arith, is_x, e)))
    where
      pair : Stage
      pair = record { people = λ _. true; rooms = λ r. is_room r x || is_room r y }

      is_x : rank m p x ≤ rank m p (wish m pair p)
      is_x = by_found (find pair.rooms (list_of m p)) refl
        where
          by_found : (o : Option ℕ) → find pair.rooms (list_of m p) ≡ o → rank m p x ≤ rank m p (or_else o (home m p))
          by_found None g = le
          by_found (Some z) g =
              elim (or_cases (is_room z x) (is_room z y) (find_passes pair.rooms (list_of m p) z g)) [
                | inl i ↦ subst (λ v. rank m p x ≤ rank m p v) (is_room_gives z x i) (le_refl (rank m p x))
                | inr i ↦ subst (λ v. rank m p x ≤ rank m p v) (is_room_gives z y i) (omega (arith, e))
              ]

  -- an assignment in the strict core has no better trade apart, and the other way round
  pub core_apart : (f : ℕ → Option ℕ) → IsInStrictCore m f → HasNoBetterTradeApart m f
  core_apart f core group a tr better p gp =
      let t : (h : ℕ) × (home m p ≡ Some h) = tr.tenants p gp in
      let l : p < m.people = tr.people p gp in
      let le : rank m p (f p) ≤ rank m p (a p) = core group a tr better p gp in
      let ge : rank m p (a p) ≤ rank m p (f p) = better p gp in
      let home_le : rank m p (f p) ≤ rank m p (home m p) = core_rational f core p t.0 l t.1 in
      rank_apart p l (a p) (f p) (omega arith) (omega arith)

  pub apart_core : (f : ℕ → Option ℕ) → HasNoBetterTradeApart m f → IsInStrictCore m f
  apart_core f apart group a tr better p gp =
      subst (λ z. rank m p z ≤ rank m p (a p)) (apart group a tr better p gp) (le_refl (rank m p (a p)))

  -- a group of tenants who get one another's homes: the trades among them are trades apart
  module _ (g : ℕ → Option ℕ) (group : ℕ → Bool) (tr : TradesApart m group g) where
    -- members whose homes remain also remain
    abbrev HomesHeld : Stage → Type 0
    HomesHeld s = (t h : ℕ) → group t ≡ true → home m t ≡ Some h → s.rooms h ≡ true → s.people t ≡ true

    module _ (s : Stage) (k : ℕ → Bool) (tk : IsTrade m s k) (gk : (p : ℕ) → k p ≡ true → g p ≡ wish m s p)
        (homes : HomesThere m ok s) (held : HomesHeld s) where
      abbrev traders : ℕ → Bool
      traders p = k p && group p

      -- a member who trades gets the home of the successor, who is a member
      to_own : (p : ℕ) → k p ≡ true → group p ≡ true → (group (successor m s p) ≡ true)
          × (wish m s p ≡ home m (successor m s p))
      to_own p y gp =
          let q : (q : ℕ) × (group q ≡ true) × (g p ≡ home m q) = tr.own p gp in
          let h : (h : ℕ) × (home m q.0 ≡ Some h) = tr.tenants q.0 q.1 in
          let w : wish m s p ≡ Some h.0 = sym (gk p y) ∙ q.2 ∙ h.1 in
          let stays : s.people q.0 ≡ true = held q.0 h.0 q.1 h.1 (wish_there m ok s homes p h.0 (tk.remain p y) w) in
          let to : successor m s p ≡ q.0 =
          successor_at m s p (Some h.0) w ∙ home_points_to m ok s q.0 h.0 (tr.people q.0 q.1) h.1 stays in
          (subst (λ z. group z ≡ true) (sym to) q.1, w ∙ sym h.1 ∙ ap (home m) (sym to))

      parts : (p : ℕ) → traders p ≡ true → (k p ≡ true) × (group p ≡ true)
      parts p h = and_parts (k p) (group p) h

      traders_closed : (p : ℕ) → traders p ≡ true → traders (successor m s p) ≡ true
      traders_closed p h =
          and_from (k (successor m s p)) (group (successor m s p)) (tk.closed p (parts p h).0)
          (to_own p (parts p h).0 (parts p h).1).0

      trades_apart : TradesApart m traders (wish m s)
      trades_apart = record {
        people = λ p h. tk.known p (parts p h).0;
        tenants = λ p h. tr.tenants p (parts p h).1;
        own = λ p h. (successor m s p, traders_closed p h, (to_own p (parts p h).0 (parts p h).1).1);
        differ = λ p q hp hq e. tr.differ p q (parts p hp).1 (parts q hq).1
            (gk p (parts p hp).0 ∙ e ∙ sym (gk q (parts q hq).0));
      }

      -- the home of a member who trades goes to a member
      pointer : (t : ℕ) → k t ≡ true → group t ≡ true → (z : ℕ) × (k z ≡ true) × (group z ≡ true)
          × (wish m s z ≡ home m t)
      pointer t y gt =
          let it : traders t ≡ true = and_from (k t) (group t) y gt in
          by_before (elim (reach_before (successor m s) traders traders_closed (tk.cycle t y) (traders_closed t it)) [
            | inl e ↦ (t, it, e)
            | inr b ↦ b
          ])
        where
          by_before : (z : ℕ) × (traders z ≡ true) × (successor m s z ≡ t) → (z : ℕ) × (k z ≡ true) × (group z ≡ true)
              × (wish m s z ≡ home m t)
          by_before z =
              let b : (k z.0 ≡ true) × (group z.0 ≡ true) = parts z.0 z.1 in
              (z.0, b.0, b.1, (to_own z.0 b.0 b.1).1 ∙ ap (home m) z.2)

      held_after : HomesHeld (removed m s k)
      unfolding removed
      held_after t h gt e there =
          let b : (s.rooms h ≡ true) × (not (taken m s k h) ≡ true) =
          and_parts (s.rooms h) (not (taken m s k h)) there in
          let stays : k t ≡ false = false_from_ne_true (k t) (λ y.
          let z : (z : ℕ) × (k z ≡ true) × (group z ≡ true) × (wish m s z ≡ home m t) = pointer t y gt in
          both_ways (taken m s k h) (not-true (taken m s k h) b.1)
          (taken_from m s k h z.0 (tk.known z.0 z.1) z.1 (z.3 ∙ e))) in
          and_from (s.people t) (not (k t)) (held t h gt e b.0) (not_from_false (k t) stays)

    -- each home of the group goes to a member
    given_out : {s : Stage} → Leads m g s → IsStageOf m s → HomesThere m ok s → HomesHeld s → (t : ℕ) → group t ≡ true
        → s.people t ≡ true → (z : ℕ) × (group z ≡ true) × (g z ≡ home m t)
    unfolding removed
    given_out {s} (done none) known homes held t gt h = clash (s.people t) h (none t)
    given_out {s} (trade k tk gk d) known homes held t gt h =
        elim (cases_Bool (k t)) [
          | inl y ↦
              let z : (z : ℕ) × (k z ≡ true) × (group z ≡ true) × (wish m s z ≡ home m t) =
              pointer s k tk gk homes held t y gt in
              (z.0, z.2, gk z.0 z.1 ∙ z.3)
          | inr n ↦ given_out d (removed_known m s k known) (homes_stay m ok s k tk known homes)
              (held_after s k tk gk homes held) t gt (and_from (s.people t) (not (k t)) h (not_from_false (k t) n))
        ]

    -- if no member ranks a room outside the group above what they get, an assignment in the strict core gives
    -- them the same
    module _ (above : (p r : ℕ) → group p ≡ true → rank m p (Some r) < rank m p (g p) → (q : ℕ) × (group q ≡ true)
        × (home m q ≡ Some r)) (f : ℕ → Option ℕ) (ia : IsAssignment m f) (core : IsInStrictCore m f) where
      -- what a member gets by f still remains, or is no better than what g gives
      abbrev IsThere : Stage → Type 0
      IsThere s = (p : ℕ) → group p ≡ true → s.people p ≡ true → ((r : ℕ) → f p ≡ Some r → s.rooms r ≡ true)
          ⊎ (rank m p (g p) ≤ rank m p (f p))

      module _ (s : Stage) (k : ℕ → Bool) (tk : IsTrade m s k) (gk : (p : ℕ) → k p ≡ true → g p ≡ wish m s p)
          (known : IsStageOf m s) (homes : HomesThere m ok s) (held : HomesHeld s) (can : IsThere s) where
        no_loss : (p : ℕ) → k p ≡ true → group p ≡ true → rank m p (wish m s p) ≤ rank m p (f p)
        no_loss p y gp =
            elim (can p gp (tk.remain p y)) [
              | inl c ↦ wish_least s p (tk.known p y) (f p) c
              | inr le ↦ subst (λ z. rank m p z ≤ rank m p (f p)) (gk p y) le
            ]

        at_k : (p : ℕ) → k p ≡ true → group p ≡ true → f p ≡ wish m s p
        at_k p y gp =
            sym (core_apart f core (traders s k tk gk homes held) (wish m s) (trades_apart s k tk gk homes held)
            (λ q h. let b : (k q ≡ true) × (group q ≡ true) = parts s k tk gk homes held q h in no_loss q b.0 b.1)
            p (and_from (k p) (group p) y gp))

        there_after : IsThere (removed m s k)
        unfolding removed
        there_after p gp h =
            let b : (s.people p ≡ true) × (not (k p) ≡ true) = and_parts (s.people p) (not (k p)) h in
            elim (can p gp b.0) [
              | inr le ↦ inr le
              | inl c ↦ elim (cases_lt (rank m p (f p)) (rank m p (g p))) [
                | inr ge ↦ inr ge
                | inl lt ↦ inl
                    (λ r e. and_from (s.rooms r) (not (taken m s k r)) (c r e)
                    (not_from_false (taken m s k r) (false_from_ne_true (taken m s k r) (λ t.
                    both_ways (k p) (not-true (k p) b.1) (taken_by p r gp b.0 (c r e) lt e (taken_gives m s k r t))))))
              ]
            ]
          where
            taken_by : (p r : ℕ) → group p ≡ true → s.people p ≡ true → s.rooms r ≡ true
                → rank m p (f p) < rank m p (g p) → f p ≡ Some r → (q : ℕ) × (q < m.people) × (k q ≡ true)
                × (wish m s q ≡ Some r) → k p ≡ true
            taken_by p r gp here c lt e q =
                let t : (t : ℕ) × (group t ≡ true) × (home m t ≡ Some r) =
                above p r gp (subst (λ z. rank m p z < rank m p (g p)) e lt) in
                let stays : s.people t.0 ≡ true = held t.0 r t.1 t.2 c in
                let to : successor m s q.0 ≡ t.0 =
                successor_at m s q.0 (Some r) q.3 ∙ home_points_to m ok s t.0 r (tr.people t.0 t.1) t.2 stays in
                let z : (z : ℕ) × (k z ≡ true) × (group z ≡ true) × (wish m s z ≡ home m t.0) =
                pointer s k tk gk homes held t.0 (subst (λ z. k z ≡ true) to (tk.closed q.0 q.2)) t.1 in
                let same : p ≡ z.0 =
                ia.differ p z.0 r (known p here) (tk.known z.0 z.1) e (at_k z.0 z.1 z.2 ∙ z.3 ∙ t.2) in
                subst (λ z. k z ≡ true) (sym same) z.1

      group_from : {s : Stage} → Leads m g s → IsStageOf m s → HomesThere m ok s → HomesHeld s → IsThere s → (p : ℕ)
          → group p ≡ true → s.people p ≡ true → f p ≡ g p
      unfolding removed
      group_from {s} (done none) known homes held can p gp h = clash (s.people p) h (none p)
      group_from {s} (trade k tk gk d) known homes held can p gp h =
          elim (cases_Bool (k p)) [
            | inl y ↦ at_k s k tk gk known homes held can p y gp ∙ sym (gk p y)
            | inr n ↦ group_from d (removed_known m s k known) (homes_stay m ok s k tk known homes)
                (held_after s k tk gk homes held)
                (there_after s k tk gk known homes held can) p gp
                (and_from (s.people p) (not (k p)) h (not_from_false (k p) n))
          ]

    start_held : HomesHeld (start m)
    start_held t h gt e there = start_has_person m ok t (tr.people t gt)

  start_there : (f : ℕ → Option ℕ) → IsAssignment m f → (p r : ℕ) → p < m.people → f p ≡ Some r
      → (start m).rooms r ≡ true
  unfolding start
  start_there f ia p r l e = lt-ltb r m.rooms (ia.known p r l e)

  pub of_groups : KeepsSelfContained m (gets m)
  of_groups group c f ia core p gp =
      group_from (gets m) group c.apart c.above f ia core (gets_leads m) (start_known m) (start_homes m ok)
      (start_held (gets m) group c.apart)
      (λ q gq h. inl (λ r e. start_there f ia q r (c.apart.people q gq) e)) p gp
      (start_has_person m ok p (c.apart.people p gp))

  core_gets : IsInStrictCore m (gets m)
  core_gets = apart_core (gets m) (gets_apart m ok)

  -- a listed room is a room of the market
  listed_known : (p r : ℕ) → p < m.people → among (list_of m p) r ≡ true → r < m.rooms
  listed_known p r l i =
      elim (cases_lt r m.rooms) [
        | inl lt ↦ lt
        | inr ge ↦ absurd
            (both_ways (among (list_of m p) r)
            (not_among (list_of m p) r (λ k d kl e. absurd (omega (arith, ok.indexed.lists_known p l k d kl, e)))) i)
      ]

  rank_beyond : (p r : ℕ) → among (list_of m p) r ≡ false → length (list_of m p) ≤ rank m p (Some r)
  rank_beyond p r n =
      elim (cases_Bool (is_room r (home m p))) [
        | inl t ↦ omega (
          arith,
          rank_unlisted m ok p r n,
          cond-true (is_room r (home m p)) (length (list_of m p))
              (length (list_of m p) + 1) t,
        )
        | inr f ↦ omega (
          arith,
          rank_unlisted m ok p r n,
          cond-false (is_room r (home m p)) (length (list_of m p))
              (length (list_of m p) + 1) f,
        )
      ]

  tenant_gets : (p : ℕ) → p < m.people → is_tenant m p ≡ true → (r : ℕ) × (gets m p ≡ Some r)
  tenant_gets p l t = by_room (gets m p) refl
    where
      by_room : (o : Option ℕ) → gets m p ≡ o → (r : ℕ) × (o ≡ Some r)
      by_room None e =
          let none : is_none (home m p) ≡ false = ap not t in
          let low : rank m p None ≡ length (list_of m p) + 1 =
          cond-false (is_none (home m p)) (length (list_of m p)) (length (list_of m p) + 1) none in
          let le : rank m p None ≤ rank m p (home m p) =
          subst (λ z. rank m p z ≤ rank m p (home m p)) e (gets_rational m ok p l) in
          absurd (omega (arith, rank_home m ok p l))
      by_room (Some r) e = (r, refl)

  module _ (full : HasNoVacantRoom m) where
    abbrev housed : ℕ → Bool
    housed p = ltb p m.people && is_tenant m p

    housed_parts : (p : ℕ) → housed p ≡ true → (p < m.people) × (is_tenant m p ≡ true)
    housed_parts p h = let b : (ltb p m.people ≡ true) × (is_tenant m p ≡ true) =
        and_parts (ltb p m.people) (is_tenant m p) h in (ltb-true p m.people b.0, b.1)

    room_of : (r : ℕ) → r < m.rooms → (q : ℕ) × (housed q ≡ true) × (home m q ≡ Some r)
    room_of r l =
        let t : (t : ℕ) × (t < m.people) × (home m t ≡ Some r) = full r l in
        (t.0, and_from (ltb t.0 m.people) (is_tenant m t.0) (lt-ltb t.0 m.people t.1) (ap is_some t.2), t.2)

    all_tenants : IsSelfContained m (gets m) housed
    all_tenants = record {
      apart = record {
        people = λ p h. (housed_parts p h).0;
        tenants = λ p h. let housed : is_some (home m p) ≡ true = (housed_parts p h).1 in search (rules, housed);
        own = λ p h.
            let b : (p < m.people) × (is_tenant m p ≡ true) = housed_parts p h in
            let w : (r : ℕ) × (gets m p ≡ Some r) = tenant_gets p b.0 b.1 in
            let q : (q : ℕ) × (housed q ≡ true) × (home m q ≡ Some w.0) =
            room_of w.0 ((gets_assignment m ok).known p w.0 b.0 w.1) in
            (q.0, q.1, w.1 ∙ sym q.2);
        differ = λ p q hp hq e.
            let b : (q < m.people) × (is_tenant m q ≡ true) = housed_parts q hq in
            let w : (r : ℕ) × (gets m q ≡ Some r) = tenant_gets q b.0 b.1 in
            (gets_assignment m ok).differ p q w.0 (housed_parts p hp).0 b.0 (e ∙ w.1) w.1;
      };
      above = λ p r h lt. room_of r (above_known p r (housed_parts p h).0 lt);
    }
      where
        above_known : (p r : ℕ) → p < m.people → rank m p (Some r) < rank m p (gets m p) → r < m.rooms
        above_known p r l lt =
            elim (cases_Bool (among (list_of m p) r)) [
              | inl i ↦ listed_known p r l i
              | inr n ↦
                  let le : length (list_of m p) ≤ rank m p (Some r) = rank_beyond p r n in
                  absurd (omega (arith, lt, gets_rational m ok p l, rank_home m ok p l))
            ]

    -- if the tenants get all rooms, newcomers get nothing
    newcomer_none : (f : ℕ → Option ℕ) → IsAssignment m f → IsInStrictCore m f → (p : ℕ) → p < m.people
        → is_tenant m p ≡ false → f p ≡ None
    newcomer_none f ia core p l n =
        let never : (r : ℕ) → f p ≡ Some r → ⊥ = λ r e.
        let t : (t : ℕ) × (housed t ≡ true) × (home m t ≡ Some r) = room_of r (ia.known p r l e) in
        let z : (z : ℕ) × (housed z ≡ true) × (gets m z ≡ home m t.0) =
        given_out (gets m) housed all_tenants.apart (gets_leads m) (start_known m) (start_homes m ok)
        (start_held (gets m) housed all_tenants.apart) t.0 t.1
        (start_has_person m ok t.0 (housed_parts t.0 t.1).0) in
        let b : (z.0 < m.people) × (is_tenant m z.0 ≡ true) = housed_parts z.0 z.1 in
        let same : p ≡ z.0 = ia.differ p z.0 r l b.0 e (of_groups housed all_tenants f ia core z.0 z.1 ∙ z.2 ∙ t.2) in
        both_ways (is_tenant m p) n (subst (λ z. is_tenant m z ≡ true) (sym same) b.1) in
        grind (arith, never)

    core_same : (f : ℕ → Option ℕ) → IsAssignment m f → IsInStrictCore m f → (p : ℕ) → p < m.people → f p ≡ gets m p
    core_same f ia core p l =
        elim (cases_Bool (is_tenant m p)) [
          | inl t ↦ of_groups housed all_tenants f ia core p
              (and_from (ltb p m.people) (is_tenant m p) (lt-ltb p m.people l) t)
          | inr n ↦ newcomer_none f ia core p l n ∙ sym (newcomer_none (gets m) (gets_assignment m ok) core_gets p l n)
        ]

pub only_core : (m : Market) → IsMarket m → HasNoVacantRoom m → IsUniqueInStrictCore m (gets m)
only_core m ok full = record { assignment = gets_assignment m ok; core = core_gets m ok; only = core_same m ok full }

pub core_of_groups : (m : Market) → IsMarket m → KeepsSelfContained m (gets m)
core_of_groups m ok = of_groups m ok

pub by_trades_apart : (m : Market) → IsMarket m → IsStrictCoreByTradesApart m
by_trades_apart m ok = record { core = apart_core m ok; apart = core_apart m ok }
