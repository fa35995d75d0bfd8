-- A chain of people, each wishing for the home of the next, and what its removal does.
use Rattle.std.proofs.Common.{◌≡◌, ℕ, ◌<◌, Bool, true, false, not, ◌&&◌, ◌||◌, ◌==◌, List, [], ◌∷◌, Option, Some, None}
use Rattle.std.proofs.Common.{refl, sym, ap, ◌∙◌, subst, inl, inr, eqb-true, eq-eqb, ne_eqb}
use mathlib.Core.Path.{fun_ext}
use Rattle.std.proofs.lemmas.Bool.{and_parts, and_from, or_cases, or_left, or_right, false_from_ne_true, both_ways}
use Rattle.std.proofs.lemmas.Bool.{cond-true, cond-false, and_right, not-true, not_from_false}
use Rattle.std.proofs.Math.Bool.{or-false}
use Rattle.std.specs.Cmp.Derive.{one_truth}
use Rattle.trade_line.specs.Below.{first_below, or_else}
use Rattle.trade_line.specs.Market.{Market, IsMarket, home, list_of, is_room, tenant_of}
use Rattle.trade_line.specs.TopTradingCycles.{Stage, wish, first, tenant_or_first, points_to, successor, taken, removed}
use Rattle.trade_line.specs.Inner.Removal.{Reach, IsTrade, Leads}
use Rattle.trade_line.specs.Member.{among}
use Rattle.trade_line.specs.Inner.Queue.{last_of, WaitsBehind}
use Rattle.trade_line.specs.Inner.Removal.Reach.{here, there}
use Rattle.trade_line.specs.Inner.Removal.Leads.{trade}
use Rattle.trade_line.proofs.searches.Search.{and_nots, find_passes, find_keeps, first_passes, first_finds}
use Rattle.trade_line.proofs.searches.Search.{is_room_gives, is_room_from}
use Rattle.trade_line.proofs.cycles.Exchange.{successor_at, taken_gives, first_stays}
use Rattle.trade_line.proofs.cycles.Unique.{same_stage, taken_from, trade_removed}

-- those behind a point, each to the one before
abbrev pub Behind : (ℕ → ℕ) → ℕ → List ℕ → Type 0
Behind g a [] = Unit {0}
Behind g a (b ∷ r) = (g b ≡ a) × Behind g b r

pub reach_trans : (g : ℕ → ℕ) {a b c : ℕ} → Reach g a b → Reach g b c → Reach g a c
reach_trans g here s = s
reach_trans g (there r) s = there (reach_trans g r s)

pub among_last : (a : ℕ) (xs : List ℕ) → among (a ∷ xs) (last_of a xs) ≡ true
among_last a [] = or_left (a == a) false (eq-eqb a a refl)
among_last a (b ∷ r) = or_right (a == last_of b r) (among (b ∷ r) (last_of b r)) (among_last b r)

-- everybody in the chain reaches its head
to_head : (g : ℕ → ℕ) (a : ℕ) (xs : List ℕ) → Behind g a xs → (p : ℕ) → among (a ∷ xs) p ≡ true → Reach g p a
to_head g a [] w p h =
    elim (or_cases (a == p) false h) [
      | inl e ↦ subst (λ z. Reach g z a) (eqb-true a p e) here
      | inr f ↦ absurd
          (both_ways false refl f)
    ]
to_head g a (b ∷ r) w p h =
    elim (or_cases (a == p) (among (b ∷ r) p) h) [
      | inl e ↦ subst (λ z. Reach g z a) (eqb-true a p e) here
      | inr f ↦ reach_trans g (to_head g b r w.1 p f) (there (subst (λ z. Reach g z a) (sym w.0) here))
    ]

-- the last reaches everybody
from_last : (g : ℕ → ℕ) (a : ℕ) (xs : List ℕ) → Behind g a xs → (p : ℕ) → among (a ∷ xs) p ≡ true
    → Reach g (last_of a xs) p
from_last g a [] w p h =
    elim (or_cases (a == p) false h) [
      | inl e ↦ subst (λ z. Reach g a z) (eqb-true a p e) here
      | inr f ↦ absurd
          (both_ways false refl f)
    ]
from_last g a (b ∷ r) w p h =
    elim (or_cases (a == p) (among (b ∷ r) p) h) [
      | inl e ↦ reach_trans g (from_last g b r w.1 b (or_left (b == b) (among r b) (eq-eqb b b refl)))
          (there (subst (λ z. Reach g z p) (sym w.0) (subst (λ z. Reach g a z) (eqb-true a p e) here)))
      | inr f ↦ from_last g b r w.1 p f
    ]

-- everybody behind points into the chain
behind_stays : (g : ℕ → ℕ) (a : ℕ) (xs : List ℕ) → Behind g a xs → (p : ℕ) → among xs p ≡ true
    → among (a ∷ xs) (g p) ≡ true
behind_stays g a [] w p h = absurd (both_ways false refl h)
behind_stays g a (b ∷ r) w p h =
    elim (or_cases (b == p) (among r p) h) [
      | inl e ↦ or_left (a == g p) (among (b ∷ r) (g p))
          (eq-eqb a (g p) (sym (subst (λ z. g z ≡ a) (eqb-true b p e) w.0)))
      | inr f ↦ or_right (a == g p) (among (b ∷ r) (g p)) (behind_stays g b r w.1 p f)
    ]

module _ (m : Market) where
  pub ring_trade : (s : Stage) (a : ℕ) (xs : List ℕ) → ((p : ℕ) → among (a ∷ xs) p ≡ true → p < m.people)
      → ((p : ℕ) → among (a ∷ xs) p ≡ true → s.people p ≡ true) → Behind (successor m s) a xs
      → successor m s a ≡ last_of a xs → IsTrade m s (among (a ∷ xs))
  ring_trade s a xs known remain w e = record {
    known = known;
    remain = remain;
    closed = closed;
    cycle = cycle;
  }
    where
      g : ℕ → ℕ
      g = successor m s

      closed : (p : ℕ) → among (a ∷ xs) p ≡ true → among (a ∷ xs) (successor m s p) ≡ true
      closed p h =
          elim (or_cases (a == p) (among xs p) h) [
            | inl y ↦ subst (λ z. among (a ∷ xs) z ≡ true) (sym e ∙ ap (successor m s) (eqb-true a p y))
                (among_last a xs)
            | inr f ↦ behind_stays (successor m s) a xs w p f
          ]

      cycle : (p : ℕ) → among (a ∷ xs) p ≡ true → Reach (successor m s) (successor m s p) p
      cycle p h =
          reach_trans (successor m s) (to_head (successor m s) a xs w (successor m s p) (closed p h))
          (there (subst (λ z. Reach (successor m s) z p) (sym e) (from_last (successor m s) a xs w p h)))

  pub tenant_at : IsMarket m → (a h : ℕ) → a < m.people → home m a ≡ Some h → tenant_of m h ≡ Some a
  tenant_at ok a h l e =
      let t : (y : ℕ) × (first_below m.people (λ p. is_room h (home m p)) ≡ Some y) =
      first_finds m.people (λ p. is_room h (home m p)) a l (is_room_from h (home m a) e) in
      let u : (is_room h (home m t.0) ≡ true) × (t.0 < m.people) =
      first_passes m.people (λ p. is_room h (home m p)) t.0 t.1 in
      t.1 ∙ ap Some (ok.homes_differ t.0 a h u.1 l (is_room_gives h (home m t.0) u.0) e)

  pub home_points_to : IsMarket m → (s : Stage) (a h : ℕ) → a < m.people → home m a ≡ Some h → s.people a ≡ true
      → points_to m s h ≡ a
  unfolding points_to
  home_points_to ok s a h l e r = ap (tenant_or_first m s) (tenant_at ok a h l e)
      ∙ cond-true (s.people a) a (first m s) r

  pub waits_behind : IsMarket m → (s : Stage) (a : ℕ) (xs : List ℕ) → ((p : ℕ) → among (a ∷ xs) p ≡ true → p < m.people)
      → ((p : ℕ) → among (a ∷ xs) p ≡ true → s.people p ≡ true) → WaitsBehind m s a xs → Behind (successor m s) a xs
  waits_behind ok s a [] known remain w = tt
  waits_behind ok s a (b ∷ r) known remain w =
      let self : among (a ∷ b ∷ r) a ≡ true = or_left (a == a) (among (b ∷ r) a) (eq-eqb a a refl) in (
        successor_at m s b (Some w.0.0) w.0.2 ∙ home_points_to ok s a w.0.0 (known a self) w.0.1 (remain a self),
        waits_behind ok s b r (λ p h. known p (or_right (a == p) (among (b ∷ r) p) h))
            (λ p h. remain p (or_right (a == p) (among (b ∷ r) p) h)) w.1,
      )

  -- a wish that nobody in the group takes stays
  pub wish_stays : (s : Stage) (k : ℕ → Bool) (p : ℕ) → ((h : ℕ) → wish m s p ≡ Some h → taken m s k h ≡ false)
      → wish m (removed m s k) p ≡ wish m s p
  unfolding wish removed
  wish_stays s k p free =
      ap (λ o. or_else o (home m p))
      (find_keeps s.rooms (removed m s k).rooms (list_of m p)
      (λ y t. (and_parts (s.rooms y) (not (taken m s k y)) t).0)
      (λ x e. and_from (s.rooms x) (not (taken m s k x)) (find_passes s.rooms (list_of m p) x e)
      (not_from_false (taken m s k x) (free x (ap (λ o. or_else o (home m p)) e)))))

  taken_both : (s : Stage) (k l : ℕ → Bool) → ((p : ℕ) → l p ≡ true → wish m (removed m s k) p ≡ wish m s p) → (r : ℕ)
      → ((s.rooms r && not (taken m s k r)) && not (taken m (removed m s k) l r)) ≡ (s.rooms r && not
      (taken m s (λ p. k p || l p) r))
  taken_both s k l same r = one_truth ((s.rooms r && not (taken m s k r)) && not (taken m (removed m s k) l r))
      (s.rooms r && not (taken m s (λ p. k p || l p) r)) once both
    where
      once : ((s.rooms r && not (taken m s k r)) && not (taken m (removed m s k) l r)) ≡ true
          → (s.rooms r && not (taken m s (λ p. k p || l p) r)) ≡ true
      once h =
          let a : ((s.rooms r && not (taken m s k r)) ≡ true) × (not (taken m (removed m s k) l r) ≡ true) =
          and_parts (s.rooms r && not (taken m s k r)) (not (taken m (removed m s k) l r)) h in
          let b : (s.rooms r ≡ true) × (not (taken m s k r) ≡ true) = and_parts (s.rooms r) (not (taken m s k r)) a.0 in
          and_from (s.rooms r) (not (taken m s (λ p. k p || l p) r)) b.0
          (not_from_false (taken m s (λ p. k p || l p) r) (false_from_ne_true (taken m s (λ p. k p || l p) r) (λ y.
          let g : (q : ℕ) × (q < m.people) × ((k q || l q) ≡ true) × (wish m s q ≡ Some r) =
          taken_gives m s (λ p. k p || l p) r y in
          elim (or_cases (k g.0) (l g.0) g.2) [
            | inl t ↦ both_ways (taken m s k r) (not-true (taken m s k r) b.1) (taken_from m s k r g.0 g.1 t g.3)
            | inr t ↦ both_ways (taken m (removed m s k) l r) (not-true (taken m (removed m s k) l r) a.1)
                (taken_from m (removed m s k) l r g.0 g.1 t (same g.0 t ∙ g.3))
          ])))

      both : (s.rooms r && not (taken m s (λ p. k p || l p) r)) ≡ true
          → ((s.rooms r && not (taken m s k r)) && not (taken m (removed m s k) l r)) ≡ true
      both h =
          let a : (s.rooms r ≡ true) × (not (taken m s (λ p. k p || l p) r) ≡ true) =
          and_parts (s.rooms r) (not (taken m s (λ p. k p || l p) r)) h in
          let no : taken m s (λ p. k p || l p) r ≡ false = not-true (taken m s (λ p. k p || l p) r) a.1 in
          let nk : taken m s k r ≡ false = false_from_ne_true (taken m s k r) (λ y.
          let g : (q : ℕ) × (q < m.people) × (k q ≡ true) × (wish m s q ≡ Some r) = taken_gives m s k r y in
          both_ways (taken m s (λ p. k p || l p) r) no
          (taken_from m s (λ p. k p || l p) r g.0 g.1 (or_left (k g.0) (l g.0) g.2) g.3)) in
          let nl : taken m (removed m s k) l r ≡ false = false_from_ne_true (taken m (removed m s k) l r) (λ y.
          let g : (q : ℕ) × (q < m.people) × (l q ≡ true) × (wish m (removed m s k) q ≡ Some r) =
          taken_gives m (removed m s k) l r y in
          both_ways (taken m s (λ p. k p || l p) r) no
          (taken_from m s (λ p. k p || l p) r g.0 g.1 (or_right (k g.0) (l g.0) g.2) (sym (same g.0 g.2) ∙ g.3))) in
          and_from (s.rooms r && not (taken m s k r)) (not (taken m (removed m s k) l r))
          (and_from (s.rooms r) (not (taken m s k r)) a.0 (not_from_false (taken m s k r) nk))
          (not_from_false (taken m (removed m s k) l r) nl)

  -- two groups, one after the other, are one group
  pub removed_twice : (s : Stage) (k l : ℕ → Bool) → ((p : ℕ) → l p ≡ true → wish m (removed m s k) p ≡ wish m s p)
      → removed m (removed m s k) l ≡ removed m s (λ p. k p || l p)
  unfolding removed
  removed_twice s k l same = same_stage (removed m (removed m s k) l) (removed m s (λ p. k p || l p))
      (λ p. and_nots (s.people p) (k p) (l p)) (taken_both s k l same)

  -- the room v has no tenant who remains
  abbrev pub IsVacant : Stage → ℕ → Type 0
  IsVacant s v = (t : ℕ) → tenant_of m v ≡ Some t → s.people t ≡ false

  pub vacant_points_to : (s : Stage) (v : ℕ) → IsVacant s v → points_to m s v ≡ first m s
  unfolding points_to
  vacant_points_to s v none = by_tenant (tenant_of m v) none
    where
      by_tenant : (o : Option ℕ) → ((t : ℕ) → o ≡ Some t → s.people t ≡ false) → tenant_or_first m s o ≡ first m s
      by_tenant None none = refl
      by_tenant (Some t) none = cond-false (s.people t) t (first m s) (none t refl)

  abbrev pub only : ℕ → ℕ → Bool
  only a p = a == p

  -- the head of a chain takes a vacant room alone while the others behind wait on: the result is the same as
  -- with the whole cycle
  pub head_first : IsMarket m → (s : Stage) (a : ℕ) (xs : List ℕ) (v : ℕ) (f : ℕ → Option ℕ)
      → ((p : ℕ) → among (a ∷ xs) p ≡ true → p < m.people) → ((p : ℕ) → among (a ∷ xs) p ≡ true → s.people p ≡ true)
      → among xs a ≡ false → WaitsBehind m s a xs → first m s ≡ last_of a xs
      → wish m s a ≡ Some v → IsVacant s v → f a ≡ wish m s a → Leads m f (removed m s (only a)) → Leads m f s
  unfolding removed
  head_first ok s a [] v f known remain once w least e remaining fa d =
      trade (only a)
      (subst (λ k. IsTrade m s k) one
      (ring_trade s a [] known remain tt (successor_at m s a (Some v) e ∙ vacant_points_to s v remaining ∙ least)))
      (λ p h. subst (λ z. f z ≡ wish m s z) (eqb-true a p h) fa) d
    where
      one : among (a ∷ []) ≡ only a
      one = fun_ext (λ p. or-false (a == p))
  head_first ok s a (b ∷ r) v f known remain once w least e remaining fa d =
      trade (among (a ∷ b ∷ r)) whole fits
      (subst (λ t. Leads m f t) (removed_twice s (only a) (among (b ∷ r)) same) rest.1)
    where
      self : among (a ∷ b ∷ r) a ≡ true
      self = or_left (a == a) (among (b ∷ r) a) (eq-eqb a a refl)

      inner : (p : ℕ) → among (b ∷ r) p ≡ true → among (a ∷ b ∷ r) p ≡ true
      inner p h = or_right (a == p) (among (b ∷ r) p) h

      other : (p : ℕ) → among (b ∷ r) p ≡ true → (a == p) ≡ false
      other p h = ne_eqb a p (λ q. both_ways (among (b ∷ r) a) once (subst (λ z. among (b ∷ r) z ≡ true) (sym q) h))

      whole : IsTrade m s (among (a ∷ b ∷ r))
      whole = ring_trade s a (b ∷ r) known remain (waits_behind ok s a (b ∷ r) known remain w)
          (successor_at m s a (Some v) e ∙ vacant_points_to s v remaining ∙ least)

      -- the home of a person who remains isn't the vacant room
      free : (q h : ℕ) → q < m.people → home m q ≡ Some h → s.people q ≡ true → taken m s (only a) h ≡ false
      free q h l eh rq = false_from_ne_true (taken m s (only a) h) (λ y.
          let g : (x : ℕ) × (x < m.people) × ((a == x) ≡ true) × (wish m s x ≡ Some h) = taken_gives m s (only a) h y in
          let ea : wish m s a ≡ Some h = subst (λ z. wish m s z ≡ Some h) (sym (eqb-true a g.0 g.2)) g.3 in
          let ev : Some v ≡ Some h = sym e ∙ ea in
          let vh : v ≡ h = cc in
          both_ways (s.people q) (remaining q (subst (λ z. tenant_of m z ≡ Some q) (sym vh) (tenant_at ok q h l eh)))
          rq)

      same_behind : (c : ℕ) (xs : List ℕ) → ((p : ℕ) → among (c ∷ xs) p ≡ true → p < m.people)
          → ((p : ℕ) → among (c ∷ xs) p ≡ true → s.people p ≡ true) → WaitsBehind m s c xs → (p : ℕ) → among xs p ≡ true
          → wish m (removed m s (only a)) p ≡ wish m s p
      same_behind c [] kn re ws p h = absurd (both_ways false refl h)
      same_behind c (x ∷ xs) kn re ws p h =
          let at_c : among (c ∷ x ∷ xs) c ≡ true = or_left (c == c) (among (x ∷ xs) c) (eq-eqb c c refl) in
          elim (or_cases (x == p) (among xs p) h) [
            | inl y ↦ subst (λ z. wish m (removed m s (only a)) z ≡ wish m s z) (eqb-true x p y)
                (wish_stays s (only a) x (λ h2 e2.
                let z : Some ws.0.0 ≡ Some h2 = sym ws.0.2 ∙ e2 in
                let zz : ws.0.0 ≡ h2 = cc in
                subst (λ k. taken m s (only a) k ≡ false) zz (free c ws.0.0 (kn c at_c) ws.0.1 (re c at_c))))
            | inr y ↦ same_behind x xs (λ p2 h2. kn p2 (or_right (c == p2) (among (x ∷ xs) p2) h2))
                (λ p2 h2. re p2 (or_right (c == p2) (among (x ∷ xs) p2) h2)) ws.1 p y
          ]

      same : (p : ℕ) → among (b ∷ r) p ≡ true → wish m (removed m s (only a)) p ≡ wish m s p
      same p h = same_behind a (b ∷ r) known remain w p h

      remain2 : (p : ℕ) → among (b ∷ r) p ≡ true → (removed m s (only a)).people p ≡ true
      remain2 p h = and_from (s.people p) (not (a == p)) (remain p (inner p h)) (not_from_false (a == p) (other p h))

      waits2 : (c : ℕ) (xs : List ℕ) → ((p : ℕ) → among xs p ≡ true → wish m (removed m s (only a)) p ≡ wish m s p)
          → WaitsBehind m s c xs → WaitsBehind m (removed m s (only a)) c xs
      waits2 c [] sm ws = tt
      waits2 c (x ∷ xs) sm ws = (
        (ws.0.0, ws.0.1, sm x (or_left (x == x) (among xs x) (eq-eqb x x refl)) ∙ ws.0.2),
        waits2 x xs (λ p h. sm p (or_right (x == p) (among xs p) h)) ws.1,
      )

      head_to : successor m (removed m s (only a)) b ≡ last_of b r
      head_to =
          let eb : wish m (removed m s (only a)) b ≡ Some w.0.0 =
          same b (or_left (b == b) (among r b) (eq-eqb b b refl)) ∙ w.0.2 in
          let t : tenant_of m w.0.0 ≡ Some a = tenant_at ok a w.0.0 (known a self) w.0.1 in
          let gone : (t2 : ℕ) → tenant_of m w.0.0 ≡ Some t2 → (removed m s (only a)).people t2 ≡ false = λ t2 e2.
          (let z : Some a ≡ Some t2 = sym t ∙ e2 in
          let zz : a ≡ t2 = cc in
          and_right (s.people t2) (not (a == t2)) (rw (eq-eqb a t2 zz) refl)) in
          let keeps : first m (removed m s (only a)) ≡ first m s =
          first_stays m s (only a)
          (other (first m s) (subst (λ z. among (b ∷ r) z ≡ true) (sym least) (among_last b r))) in
          successor_at m (removed m s (only a)) b (Some w.0.0) eb ∙ vacant_points_to (removed m s (only a)) w.0.0 gone
          ∙ keeps ∙ least

      behind : IsTrade m (removed m s (only a)) (among (b ∷ r))
      behind = ring_trade (removed m s (only a)) b r (λ p h. known p (inner p h)) remain2
          (waits_behind ok (removed m s (only a)) b r (λ p h. known p (inner p h)) remain2
          (waits2 b r (λ p h. same p (or_right (b == p) (among r p) h)) w.1)) head_to

      rest : ((p : ℕ) → among (b ∷ r) p ≡ true → f p ≡ wish m (removed m s (only a)) p)
          × Leads m f (removed m (removed m s (only a)) (among (b ∷ r)))
      rest = trade_removed m f d (among (b ∷ r)) behind

      fits : (p : ℕ) → among (a ∷ b ∷ r) p ≡ true → f p ≡ wish m s p
      fits p h = elim (or_cases (a == p) (among (b ∷ r) p) h) [
        | inl y ↦ subst (λ z. f z ≡ wish m s z) (eqb-true a p y) fa
        | inr y ↦ rest.0 p y ∙ same p y
      ]
