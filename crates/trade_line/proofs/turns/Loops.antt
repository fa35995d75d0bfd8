-- The turn that closes a loop.
use Rattle.std.proofs.Math.Bool.{or-false}
use Rattle.trade_line.proofs.counts.Asked.{asked_split}
use Rattle.std.proofs.Common.{◌≡◌, ℕ, suc, ◌+◌, ◌<◌, ◌≤◌, true, false, not, ◌&&◌, ◌==◌, List, [], ◌∷◌, ◌++◌, length}
use Rattle.std.proofs.Common.{Option, Some, None, get_or, set, refl, sym, ap, ap₂, ◌∙◌, subst, inl, inr, arith}
use Rattle.std.proofs.Common.{eqb-true, eq-eqb, append_assoc, get_or-set_same, get_or-set_other, length-append}
use Rattle.std.proofs.lemmas.Bool.{cases_eq, or_cases, or_parts, false_from_ne_true, both_ways}
use Rattle.trade_line.specs.Below.{count_below}
use Rattle.trade_line.specs.Market.{Market, home, tenant_of, is_tenant}
use Rattle.trade_line.specs.TopTradingCycles.{wish, successor, taken, removed}
use Rattle.trade_line.specs.Inner.Removal.{IsTrade, Leads}
use Rattle.trade_line.specs.Member.{among, Once}
use Rattle.trade_line.specs.Inner.Queue.{last_of, WaitsBehind, Waits, LastIsLeast, stage_of, close}
use Rattle.trade_line.specs.Line.{front_of, tail_of}
use Rattle.trade_line.specs.Inner.State.{State, stage_at, has_asked, given_to}
use Rattle.trade_line.specs.Inner.Turn.{Asks, Onward, asked_in}
use Rattle.trade_line.specs.Inner.Loop.{Ring, Closing, Closed}
use Rattle.trade_line.specs.Inner.Removal.Leads.{trade}
use Rattle.trade_line.proofs.searches.Search.{clash}
use Rattle.trade_line.proofs.cycles.Exchange.{successor_at, taken_gives}
use Rattle.trade_line.proofs.cycles.Chain.{among_last, home_points_to, ring_trade, waits_behind}
use Rattle.trade_line.proofs.askers.Lines.{among_self, among_more, among-append, among_left, among_right, among_cases}
use Rattle.trade_line.proofs.askers.Lines.{once_right, once_apart, last_push, removed_none, front_leaves, waits_on}
use Rattle.trade_line.proofs.askers.Lines.{waits_front, waits_back, waits_pair, wish_known}
use Rattle.trade_line.proofs.turns.Marks.{granted, granted_fits, tenant_home}

split_at : (a : ℕ) (xs : List ℕ) (t : ℕ) → among (a ∷ xs) t ≡ true → (ds : List ℕ) × (after : List ℕ)
    × (xs ≡ ds ++ after) × (last_of a ds ≡ t)
split_at a [] t h = ([], [], refl, eqb-true a t (sym (or-false (a == t)) ∙ h))
split_at a (b ∷ r) t h =
    elim (or_cases (a == t) (among (b ∷ r) t) h) [
      | inl e ↦ ([], b ∷ r, refl, eqb-true a t e)
      | inr i ↦
          let ih : (ds : List ℕ) × (after : List ℕ) × (r ≡ ds ++ after) × (last_of b ds ≡ t) = split_at b r t i in
          (b ∷ ih.0, ih.1, ap (λ z. b ∷ z) ih.2, ih.3)
    ]

last_split : (a : ℕ) (xs past : List ℕ) (h : ℕ) (os : List ℕ) → a ∷ xs ≡ past ++ (h ∷ os) → last_of a xs ≡ last_of h os
last_split a xs [] h os q =
    let e : a ≡ h = cc in
    ap₂ last_of e (ap tail_of q)
last_split a xs (y ∷ ys) h os q = ap (last_of a) (ap tail_of q) ∙ last_push a ys h os

module _ (m : Market) where
  pub ring_at : (s : State) (a room t : ℕ) → Asks m a s → wish m (stage_at s) a ≡ Some room → among s.line t ≡ true
      → has_asked s t ≡ true → Ring m t room s
  ring_at s a room t ask w i y =
      let inside : among (a ∷ ask.behind) t ≡ true =
      elim (among_cases (a ∷ ask.behind) ask.fresh t (subst (λ z. among z t ≡ true) ask.split i)) [
        | inl b ↦ b
        | inr b ↦ clash (has_asked s t) y (ask.fresh_unasked t b)
      ] in
      let d : (ds : List ℕ) × (after : List ℕ) × (ask.behind ≡ ds ++ after) × (last_of a ds ≡ t) =
      split_at a ask.behind t inside in
      record { person = a; asks = ask; others = d.0; after = d.1; behind_split = d.2; ends = d.3; first_wish = w }

  pub ring_line : (t room : ℕ) (s : State) (ring : Ring m t room s) → s.line ≡ (ring.person ∷ ring.others)
      ++ (ring.after ++ ring.asks.fresh)
  ring_line t room s ring =
      ring.asks.split ∙ ap (λ z. ring.person ∷ (z ++ ring.asks.fresh)) ring.behind_split
      ∙ ap (λ z. ring.person ∷ z) (append_assoc ring.others ring.after ring.asks.fresh)

  pub closing_start : (t room : ℕ) (s : State) → Ring m t room s → Closing m t room s s (Some room)
  closing_start t room s ring = record {
    ring = ring;
    past = [];
    here = ring.person;
    others = ring.others;
    ring_split = refl;
    line_split = ring_line t room s ring;
    next_is = sym ring.first_wish;
    stage = removed_none m (stage_at s);
    given_past = λ p h. absurd (both_ways false refl h);
    given_kept = λ p h. refl;
    asked_kept = refl;
    fits = ring.asks.fits;
  }

  module _ (tenant room : ℕ) (s t : State) (next : Option ℕ) (c : Closing m tenant room s t next) where
    others_after : List ℕ
    others_after = c.others ++ (c.ring.after ++ c.ring.asks.fresh)

    line_is_past_first : s.line ≡ c.past ++ t.line
    line_is_past_first =
        ring_line tenant room s c.ring
        ∙ ap (λ z. z ++ (c.ring.after ++ c.ring.asks.fresh)) c.ring_split
        ∙ append_assoc c.past (c.here ∷ c.others) (c.ring.after ++ c.ring.asks.fresh)
        ∙ ap (λ z. c.past ++ z) (sym c.line_split)

    here_in : among t.line c.here ≡ true
    here_in =
        subst (λ z. among z c.here ≡ true) (sym c.line_split)
        (among_self c.here (c.others ++ (c.ring.after ++ c.ring.asks.fresh)))

    pub here_known : c.here < m.people
    here_known =
        c.ring.asks.known c.here
        (subst (λ z. among z c.here ≡ true) (sym line_is_past_first) (among_right c.past t.line c.here here_in))

    apart : Once (c.past ++ t.line)
    apart = subst Once line_is_past_first c.ring.asks.once

    here_once : among (c.others ++ (c.ring.after ++ c.ring.asks.fresh)) c.here ≡ false
    here_once = (subst Once c.line_split (once_right c.past t.line apart)).0

    here_new : among c.past c.here ≡ false
    here_new =
        false_from_ne_true (among c.past c.here)
        (λ y. both_ways (among t.line c.here) (once_apart c.past t.line apart c.here y) here_in)

    pub next_known : (x : ℕ) → next ≡ Some x → x < length t.remaining
    next_known x e = let l : x < m.rooms =
        wish_known m c.fits.market (stage_at s) c.here x here_known (sym c.next_is ∙ e) in
        omega (arith, c.fits.remaining_len)

    pub front_is : (person : ℕ) → front_of t.line ≡ Some person → c.here ≡ person
    front_is person e =
        let z : Some c.here ≡ Some person = sym (ap front_of c.line_split) ∙ e in cc

    tail_is : tail_of t.line ≡ c.others ++ (c.ring.after ++ c.ring.asks.fresh)
    tail_is = ap tail_of c.line_split

    stage_after : stage_at (granted t c.here next) ≡ removed m (stage_at s) (among (c.past ++ c.here ∷ []))
    stage_after =
        subst (λ z. stage_of z (close t.remaining next) ≡ removed m (stage_at s) (among (c.past ++ c.here ∷ [])))
        (sym tail_is)
        (front_leaves m (stage_at s) c.past c.here (c.others ++ (c.ring.after ++ c.ring.asks.fresh)) t.remaining next
        (ap (λ z. stage_of z t.remaining) (sym c.line_split) ∙ c.stage) here_once here_known (sym c.next_is) next_known)

    given_in : (p : ℕ) → among (c.past ++ c.here ∷ []) p ≡ true → given_to (granted t c.here next) p ≡ wish m
        (stage_at s) p
    given_in p h =
        elim (cases_eq p c.here) [
          | inl e ↦ subst (λ z. get_or (set t.given c.here next) z None ≡ wish m (stage_at s) z) (sym e)
              (get_or-set_same t.given c.here next None (let l : c.here < m.people = here_known in
              omega (arith, c.fits.given_len)) ∙ c.next_is)
          | inr n ↦ get_or-set_other t.given c.here p next None n ∙ c.given_past p
              (elim (among_cases c.past (c.here ∷ []) p h)
              [ inl y ↦ y | inr y ↦ absurd (n (sym (eqb-true c.here p (sym (or-false (c.here == p)) ∙ y)))) ])
        ]

    given_out : (p : ℕ) → among (c.past ++ c.here ∷ []) p ≡ false → given_to (granted t c.here next) p ≡ given_to s p
    given_out p h =
        let parts : (among c.past p ≡ false) × (among (c.here ∷ []) p ≡ false) =
        or_parts (among c.past p) (among (c.here ∷ []) p) (sym (among-append c.past (c.here ∷ []) p) ∙ h) in
        get_or-set_other t.given c.here p next None
        (λ e. both_ways (c.here == p) (sym (or-false (c.here == p)) ∙ parts.1) (eq-eqb c.here p (sym e)))
        ∙ c.given_kept p parts.0

    ends_at : last_of c.here c.others ≡ tenant
    ends_at = sym (last_split c.ring.person c.ring.others c.past c.here c.others c.ring_split) ∙ c.ring.ends

    more_at : (os : List ℕ) → c.others ≡ os → (c.here ≡ tenant → ⊥) → Closing m tenant room s (granted t c.here next)
        (home m c.here)
    more_at [] e ne = absurd (ne (sym (ap (last_of c.here) e) ∙ ends_at))
    more_at (h ∷ os) e ne =
        let split : c.ring.person ∷ c.ring.others ≡ c.past ++ (c.here ∷ h ∷ os) =
        c.ring_split ∙ ap (λ z. c.past ++ (c.here ∷ z)) e in
        let chain : c.ring.person ∷ c.ring.asks.behind ≡ c.past ++ (c.here ∷ h ∷ (os ++ c.ring.after)) =
        ap (λ z. c.ring.person ∷ z) c.ring.behind_split ∙ ap (λ z. z ++ c.ring.after) split
        ∙ append_assoc c.past (c.here ∷ h ∷ os) c.ring.after in
        record {
          ring = c.ring;
          past = c.past ++ c.here ∷ [];
          here = h;
          others = os;
          ring_split = split ∙ sym (append_assoc c.past (c.here ∷ []) (h ∷ os));
          line_split = tail_is ∙ ap (λ z. z ++ (c.ring.after ++ c.ring.asks.fresh)) e;
          next_is =
              sym (waits_pair m (stage_at s) c.ring.person c.ring.asks.behind c.past c.here h (os ++ c.ring.after)
              c.ring.asks.waits chain);
          stage = stage_after;
          given_past = given_in;
          given_kept = given_out;
          asked_kept = c.asked_kept;
          fits = granted_fits m t c.here next c.fits;
        }

    all_at : (os : List ℕ) → c.others ≡ os → c.here ≡ tenant → Closed m tenant room s (granted t c.here next)
    all_at (h ∷ os) e eq =
        let last : last_of h os ≡ c.here = ap (last_of c.here) (sym e) ∙ ends_at ∙ sym eq in
        let inside : among c.others c.here ≡ true =
        subst (λ z. among z c.here ≡ true) (sym e) (subst (λ z. among (h ∷ os) z ≡ true) last (among_last h os)) in
        absurd (both_ways (among (c.others ++ (c.ring.after ++ c.ring.asks.fresh)) c.here) here_once
        (among_left c.others (c.ring.after ++ c.ring.asks.fresh) c.here inside))
    all_at [] e eq =
        let split : c.ring.person ∷ c.ring.others ≡ c.past ++ c.here ∷ [] =
        c.ring_split ∙ ap (λ z. c.past ++ (c.here ∷ z)) e in
        record {
          ring = c.ring;
          line_is = tail_is ∙ ap (λ z. z ++ (c.ring.after ++ c.ring.asks.fresh)) e;
          stage = stage_after ∙ ap (λ z. removed m (stage_at s) (among z)) (sym split);
          given_ring = λ p h. given_in p (subst (λ z. among z p ≡ true) split h);
          given_kept = λ p h. given_out p (subst (λ z. among z p ≡ false) split h);
          asked_kept = c.asked_kept;
          fits = granted_fits m t c.here next c.fits;
        }

    pub close_more : (person : ℕ) → front_of t.line ≡ Some person → (person ≡ tenant → ⊥)
        → Closing m tenant room s (granted t person next) (home m person)
    close_more person e ne =
        let z : c.here ≡ person = front_is person e in
        subst (λ p. Closing m tenant room s (granted t p next) (home m p)) z
        (more_at c.others refl (λ y. ne (sym z ∙ y)))

    pub close_all : (person : ℕ) → front_of t.line ≡ Some person → person ≡ tenant
        → Closed m tenant room s (granted t person next)
    close_all person e eq =
        let z : c.here ≡ person = front_is person e in
        subst (λ p. Closed m tenant room s (granted t p next)) z (all_at c.others refl (z ∙ eq))

  -- the whole loop has left
  pub closed_onward : (t room : ℕ) (s u : State) → tenant_of m room ≡ Some t → Closed m t room s u → Onward m s u
  closed_onward t room s u te c = record {
    consistent = record {
      fits = c.fits;
      queue = record {
        waiting = r.after;
        fresh = r.asks.fresh;
        split = c.line_is;
        waiting_asked =
            λ p h. subst (λ z. get_or z p false ≡ true) (sym c.asked_kept)
            (r.asks.waiting_asked p
            (among_more r.person r.asks.behind p
            (subst (λ z. among z p ≡ true) (sym r.behind_split) (among_right r.others r.after p h))));
        fresh_unasked = λ p h. subst (λ z. get_or z p false ≡ false) (sym c.asked_kept) (r.asks.fresh_unasked p h);
        waits = subst (λ z. Waits m z r.after) (sym c.stage) (after_waits r.after refl);
        least = after_least r.after refl;
        ascends = r.asks.ascends;
        once = once_right ring u.line (subst Once line r.asks.once);
        known = λ p h. r.asks.known p (subst (λ z. among z p ≡ true) (sym line) (among_right ring u.line p h));
      };
    };
    fewer = (
        let len : length s.line ≡ suc (length (r.others ++ u.line)) = ap length line in
        let len2 : length (r.others ++ u.line) ≡ length r.others + length u.line = length-append r.others u.line in
        let same : count_below m.people (λ p. is_tenant m p && not (has_asked u p)) ≡ count_below m.people
        (λ p. is_tenant m p && not (has_asked s p)) =
        ap (λ z. count_below m.people (λ p. is_tenant m p && not (get_or z p false))) c.asked_kept in
        omega arith);
    turns = (
        let len : length s.line ≡ suc (length (r.others ++ u.line)) = ap length line in
        let len2 : length (r.others ++ u.line) ≡ length r.others + length u.line = length-append r.others u.line in
        let len3 : length r.asks.behind ≡ length (r.others ++ r.after) = ap length r.behind_split in
        let len4 : length (r.others ++ r.after) ≡ length r.others + length r.after = length-append r.others r.after in
        let a1 : asked_in s.asked s.line ≡ suc (length r.asks.behind) =
        asked_split s.asked s.line (r.person ∷ r.asks.behind) r.asks.fresh r.asks.split r.asks.waiting_asked
        r.asks.fresh_unasked in
        let a2 : asked_in s.asked u.line ≡ length r.after = asked_split s.asked u.line r.after r.asks.fresh c.line_is
        (λ p h. r.asks.waiting_asked p
        (among_more r.person r.asks.behind p
        (subst (λ z. among z p ≡ true) (sym r.behind_split) (among_right r.others r.after p h))))
        r.asks.fresh_unasked in
        let a3 : asked_in u.asked u.line ≡ asked_in s.asked u.line = ap (λ z. asked_in z u.line) c.asked_kept in
        omega arith);
    settles = λ f st. record {
      served = λ p l h.
          (let out : (among ring p ≡ false) × (among u.line p ≡ false) = or_parts (among ring p) (among u.line p)
          (sym (among-append ring u.line p) ∙ subst (λ z. among z p ≡ false) line h) in
          st.served p l out.1 ∙ c.given_kept p out.0);
      leads = trade (among ring) ring_is
          (λ p h. st.served p (ring_known p h) (once_apart ring u.line (subst Once line r.asks.once) p h)
          ∙ c.given_ring p h)
          (subst (λ z. Leads m f z) c.stage st.leads);
    };
  }
    where
      r : Ring m t room s
      r = c.ring

      ring : List ℕ
      ring = r.person ∷ r.others

      line : s.line ≡ ring ++ u.line
      line = ring_line t room s r ∙ ap (λ z. ring ++ z) (sym c.line_is)

      ring_in : (p : ℕ) → among ring p ≡ true → among s.line p ≡ true
      ring_in p h = subst (λ z. among z p ≡ true) (sym line) (among_left ring u.line p h)

      ring_known : (p : ℕ) → among ring p ≡ true → p < m.people
      ring_known p h = r.asks.known p (ring_in p h)

      waits : WaitsBehind m (stage_at s) r.person (r.others ++ r.after)
      waits = subst (λ z. WaitsBehind m (stage_at s) r.person z) r.behind_split r.asks.waits

      t_in : among s.line t ≡ true
      t_in = ring_in t (subst (λ z. among ring z ≡ true) r.ends (among_last r.person r.others))

      points : successor m (stage_at s) r.person ≡ last_of r.person r.others
      points =
          successor_at m (stage_at s) r.person (Some room) r.first_wish
          ∙ home_points_to m c.fits.market (stage_at s) t room (tenant_home m room t te).0
          (tenant_home m room t te).1 t_in
          ∙ sym r.ends

      ring_is : IsTrade m (stage_at s) (among ring)
      ring_is = ring_trade m (stage_at s) r.person r.others ring_known ring_in
          (waits_behind m c.fits.market (stage_at s) r.person r.others ring_known ring_in
          (waits_front m (stage_at s) r.person r.others r.after waits)) points

      after_in : (p : ℕ) → among r.after p ≡ true → among u.line p ≡ true
      after_in p h = subst (λ z. among z p ≡ true) (sym c.line_is) (among_left r.after r.asks.fresh p h)

      -- nobody in the loop takes the home of a person behind it
      free : (q h : ℕ) → among r.after q ≡ true → home m q ≡ Some h → taken m (stage_at s) (among ring) h ≡ false
      free q h i e = false_from_ne_true (taken m (stage_at s) (among ring) h) (λ y.
          let g : (x : ℕ) × (x < m.people) × (among ring x ≡ true) × (wish m (stage_at s) x ≡ Some h) =
          taken_gives m (stage_at s) (among ring) h y in
          let q_in : among s.line q ≡ true =
          subst (λ z. among z q ≡ true) (sym line) (among_right ring u.line q (after_in q i)) in
          let to : successor m (stage_at s) g.0 ≡ q = successor_at m (stage_at s) g.0 (Some h) g.3
          ∙ home_points_to m c.fits.market (stage_at s) q h (r.asks.known q q_in) e q_in in
          both_ways (among u.line q)
          (once_apart ring u.line (subst Once line r.asks.once) q
          (subst (λ z. among ring z ≡ true) to (ring_is.closed g.0 g.2))) (after_in q i))

      after_waits : (xs : List ℕ) → r.after ≡ xs → Waits m (removed m (stage_at s) (among ring)) xs
      after_waits [] e = tt
      after_waits (b ∷ ys) e =
          waits_on m (stage_at s) (among ring) b ys (λ q h i. free q h (subst (λ z. among z q ≡ true) (sym e) i))
          (waits_back m (stage_at s) r.person r.others b ys
          (subst (λ z. WaitsBehind m (stage_at s) r.person (r.others ++ z)) e waits))

      after_least : (xs : List ℕ) → r.after ≡ xs → LastIsLeast xs u.line
      after_least [] e = tt
      after_least (b ∷ ys) e = λ p h.
          subst (λ z. z ≤ p) (ap (last_of r.person) (r.behind_split ∙ ap (λ z. r.others ++ z) e)
          ∙ last_push r.person r.others b ys)
          (r.asks.least p (subst (λ z. among z p ≡ true) (sym line) (among_right ring u.line p h)))
