-- What each kind of turn does to the state.
use Rattle.std.proofs.Math.Bool.{or-false}
use Rattle.trade_line.proofs.counts.Asked.{asked_split, asked_none, asked_other}
use Rattle.std.proofs.Common.{◌≡◌, ℕ, suc, ◌<◌, ◌≤◌, true, false, ◌==◌, List, [], ◌∷◌, ◌++◌, length, Option}
use Rattle.std.proofs.Common.{Some, None, set, refl, sym, ap, ◌∙◌, subst, inl, inr, arith, eqb-true, eq-eqb}
use Rattle.std.proofs.Common.{get_or-set_same, get_or-set_other, pred, cond, ◌+◌}
use mathlib.Core.Path.{fun_ext}
use Rattle.std.specs.Option.{unwrap_or}
use Rattle.std.proofs.lemmas.Bool.{or_cases, or_parts, false_from_ne_true, both_ways}
use Rattle.std.proofs.lemmas.Bool.{cond-true}
use Rattle.trade_line.specs.Below.{first_below}
use Rattle.trade_line.specs.Market.{Market, home, tenant_of}
use Rattle.trade_line.specs.TopTradingCycles.{Stage, wish, first, successor, taken, removed}
use Rattle.trade_line.specs.Inner.Removal.{IsTrade, Leads}
use Rattle.trade_line.specs.Member.{among, Once}
use Rattle.trade_line.specs.Inner.Queue.{AscendsFrom, Ascends, last_of, WaitsBehind, Waits, LastIsLeast, stage_of}
use Rattle.trade_line.specs.Inner.Queue.{close, Queue, Settles}
use Rattle.trade_line.specs.Line.{front_of, tail_of}
use Rattle.trade_line.specs.Inner.State.{State, stage_at, has_asked, given_to}
use Rattle.trade_line.specs.Inner.Turn.{IsConsistent, Asks, pending, Onward, asked_in}
use Rattle.trade_line.specs.Inner.Removal.Leads.{trade}
use Rattle.trade_line.proofs.searches.Search.{first_passes, first_finds, first_is_least}
use Rattle.trade_line.proofs.counts.Count.{bit_le}
use Rattle.trade_line.proofs.cycles.Exchange.{successor_at, taken_gives}
use Rattle.trade_line.proofs.cycles.Chain.{among_last, tenant_at, home_points_to, only, ring_trade}
use Rattle.trade_line.proofs.cycles.Chain.{IsVacant, head_first}
use Rattle.trade_line.proofs.askers.Lines.{among_self, among_more, among_left, among_right, above_ascends, ascends_tail}
use Rattle.trade_line.proofs.askers.Lines.{removed_none, front_leaves, waits_on, wish_known}
use Rattle.trade_line.proofs.turns.Marks.{granted, marked, granted_fits, marked_fits, marked_stays}
use Rattle.trade_line.proofs.turns.Marks.{marked_pending}

module _ (m : Market) where
  first_least : (s : Stage) (x : ℕ) → x < m.people → s.people x ≡ true → ((p : ℕ) → s.people p ≡ true → x ≤ p)
      → first m s ≡ x
  unfolding first
  first_least s x l h least =
      let r : (y : ℕ) × (first_below m.people s.people ≡ Some y) = first_finds m.people s.people x l h in
      let below : r.0 ≤ x = first_is_least m.people s.people r.0 x r.1 l h in
      let above : x ≤ r.0 = least r.0 (first_passes m.people s.people r.0 r.1).0 in
      let same : r.0 ≡ x = omega arith in
      ap (λ o. unwrap_or o 0) r.1 ∙ same

  -- the front of the line is marked as having asked
  pub front_asks : (s : State) (a : ℕ) → IsConsistent m s → front_of s.line ≡ Some a → Asks m a (marked s a)
  front_asks s a st e = by_line s.line refl e
    where
      q : Queue m s.line s.asked s.remaining
      q = st.queue

      known_a : (t : List ℕ) → s.line ≡ a ∷ t → a < length s.asked
      known_a t e = let l : a < m.people = q.known a (subst (λ z. among z a ≡ true) (sym e) (among_self a t)) in
          omega (arith, st.fits.asked_len)

      unmarked : (t : List ℕ) → s.line ≡ a ∷ t → (p : ℕ) → among t p ≡ true → has_asked s p ≡ false
          → has_asked (marked s a) p ≡ false
      unmarked t e p i h =
          let o : Once (a ∷ t) = subst Once e q.once in
          get_or-set_other s.asked a p true false (λ pe. both_ways (among t a) o.0 (subst (λ z. among t z ≡ true) pe i))
          ∙ h

      by_waiting : (t : List ℕ) → s.line ≡ a ∷ t → (w : List ℕ) → q.waiting ≡ w → Asks m a (marked s a)
      by_waiting t e [] we =
          let fe : q.fresh ≡ a ∷ t = sym (sym e ∙ q.split ∙ ap (λ z. z ++ q.fresh) we) in
          let up : AscendsFrom a t = subst Ascends fe q.ascends in
          record {
            fits = marked_fits m s a st.fits;
            behind = [];
            fresh = t;
            split = e;
            waiting_asked =
                λ p h. subst (λ z. has_asked (marked s a) z ≡ true) (eqb-true a p (sym (or-false (a == p)) ∙ h))
                (get_or-set_same s.asked a true false (known_a t e));
            fresh_unasked =
                λ p h. unmarked t e p h
                (q.fresh_unasked p (subst (λ z. among z p ≡ true) (sym fe) (among_more a t p h)));
            waits = tt;
            least = λ p h. elim (or_cases (a == p) (among t p) (subst (λ z. among z p ≡ true) e h)) [
              | inl y ↦ let z : a ≡ p = eqb-true a p y in omega arith
              | inr y ↦ let z : a < p = above_ascends a t up p y in omega arith
            ];
            ascends = ascends_tail a t up;
            once = q.once;
            known = q.known;
          }
      by_waiting t e (x ∷ ws) we =
          let le : a ∷ t ≡ x ∷ (ws ++ q.fresh) = sym e ∙ q.split ∙ ap (λ z. z ++ q.fresh) we in
          let xa : x ≡ a = cc in
          let te : t ≡ ws ++ q.fresh = ap tail_of le in
          let wa : q.waiting ≡ a ∷ ws = we ∙ ap (λ z. z ∷ ws) xa in
          record {
            fits = marked_fits m s a st.fits;
            behind = ws;
            fresh = q.fresh;
            split = e ∙ ap (λ z. a ∷ z) te;
            waiting_asked =
                λ p h. marked_stays m s a p (known_a t e) (q.waiting_asked p (subst (λ z. among z p ≡ true) (sym wa) h));
            fresh_unasked = λ p h. unmarked t e p (subst (λ z. among z p ≡ true) (sym te) (among_right ws q.fresh p h))
                (q.fresh_unasked p h);
            waits = subst (λ z. Waits m (stage_at s) z) wa q.waits;
            least = subst (λ z. LastIsLeast z s.line) wa q.least;
            ascends = q.ascends;
            once = q.once;
            known = q.known;
          }

      by_line : (l : List ℕ) → s.line ≡ l → front_of l ≡ Some a → Asks m a (marked s a)
      by_line [] e f = absurd (cc)
      by_line (x ∷ t) e f =
          let z : x ≡ a = cc in
          by_waiting t (e ∙ ap (λ y. y ∷ t) z) q.waiting refl

  marked_turns : (s : State) (a : ℕ) → IsConsistent m s → front_of s.line ≡ Some a
      → asked_in (set s.asked a true) s.line ≤ suc (pred (asked_in s.asked s.line))
  marked_turns s a st e = by_line s.line refl e
    where
      q : Queue m s.line s.asked s.remaining
      q = st.queue

      by_waiting : (t : List ℕ) → s.line ≡ a ∷ t → (w : List ℕ) → q.waiting ≡ w → asked_in s.asked t ≤ pred
          (asked_in s.asked s.line)
      by_waiting t le [] we =
          let fe : a ∷ t ≡ q.fresh = sym le ∙ q.split ∙ ap (λ z. z ++ q.fresh) we in
          let none : asked_in s.asked t ≡ 0 =
          asked_none s.asked t (λ p h. q.fresh_unasked p (subst (λ z. among z p ≡ true) fe (among_more a t p h))) in
          omega arith
      by_waiting t le (x ∷ ws) we =
          let e2 : a ∷ t ≡ x ∷ (ws ++ q.fresh) = sym le ∙ q.split ∙ ap (λ z. z ++ q.fresh) we in
          let xa : x ≡ a = cc in
          let yes_a : has_asked s a ≡ true =
          q.waiting_asked a
          (subst (λ z. among z a ≡ true) (sym we) (subst (λ z. among (x ∷ ws) z ≡ true) xa (among_self x ws))) in
          let one : asked_in s.asked s.line ≡ cond (has_asked s a) 1 0 + asked_in s.asked t =
          ap (asked_in s.asked) le in
          let bit : cond {A = ℕ} (has_asked s a) 1 0 ≡ 1 = cond-true {A = ℕ} (has_asked s a) 1 0 yes_a in
          omega arith

      by_line : (l : List ℕ) → s.line ≡ l → front_of l ≡ Some a → asked_in (set s.asked a true) s.line ≤ suc
          (pred (asked_in s.asked s.line))
      by_line [] le f = absurd (cc)
      by_line (x ∷ t) le f =
          let z : x ≡ a = cc in
          let le2 : s.line ≡ a ∷ t = le ∙ ap (λ y. y ∷ t) z in
          let apart : among t a ≡ false = (subst Once le2 q.once).0 in
          let one : asked_in (set s.asked a true) s.line ≡ cond (has_asked (marked s a) a) 1 0 + asked_in
          (set s.asked a true) t = ap (asked_in (set s.asked a true)) le2 in
          let bit : cond (has_asked (marked s a) a) 1 0 ≤ 1 = bit_le (has_asked (marked s a) a) true (λ _. refl) in
          let same : asked_in (set s.asked a true) t ≡ asked_in s.asked t = asked_other s.asked a t apart in
          omega (arith, by_waiting t le2 q.waiting refl)

  pub front_onward : (s t : State) (a : ℕ) → IsConsistent m s → front_of s.line ≡ Some a → Onward m (marked s a) t
      → Onward m s t
  front_onward s t a st e o = record {
    consistent = o.consistent;
    fewer = let l : pending m (marked s a) ≤ pending m s = marked_pending m s a (known s.line refl e) in
        omega (arith, o.fewer);
    turns = let l : asked_in (set s.asked a true) s.line ≤ suc (pred (asked_in s.asked s.line)) =
        marked_turns s a st e in omega (arith, o.turns);
    settles = o.settles;
  }
    where
      known : (l : List ℕ) → s.line ≡ l → front_of l ≡ Some a → a < length s.asked
      known [] e f = absurd (cc)
      known (x ∷ t) e f =
          let z : x ≡ a = cc in
          let l : a < m.people =
          st.queue.known a
          (subst (λ y. among y a ≡ true) (sym e) (subst (λ y. among (x ∷ t) y ≡ true) z (among_self x t))) in
          omega (arith, st.fits.asked_len)

  -- the front of the line leaves with the wish
  module _ (s : State) (a : ℕ) (ask : Asks m a s) (o : Option ℕ) (w : wish m (stage_at s) a ≡ o) where
    rest : List ℕ
    rest = ask.behind ++ ask.fresh

    a_known : a < m.people
    a_known = ask.known a (subst (λ z. among z a ≡ true) (sym ask.split) (among_self a (ask.behind ++ ask.fresh)))

    a_once : among (ask.behind ++ ask.fresh) a ≡ false
    a_once = (subst Once ask.split ask.once).0

    room_known : (x : ℕ) → o ≡ Some x → x < length s.remaining
    room_known x e = let l : x < m.rooms = wish_known m ask.fits.market (stage_at s) a x a_known (w ∙ e) in
        omega (arith, ask.fits.remaining_len)

    pub front_stage : stage_at (granted s a o) ≡ removed m (stage_at s) (among (a ∷ []))
    front_stage =
        subst (λ z. stage_of (tail_of z) (close s.remaining o) ≡ removed m (stage_at s) (among (a ∷ [])))
        (sym ask.split)
        (front_leaves m (stage_at s) [] a (ask.behind ++ ask.fresh) s.remaining o
        (ap (λ z. stage_of z s.remaining) (sym ask.split) ∙ removed_none m (stage_at s)) a_once a_known w room_known)

    line_after : tail_of s.line ≡ ask.behind ++ ask.fresh
    line_after = ap tail_of ask.split

    inside : (p : ℕ) → among (tail_of s.line) p ≡ true → among s.line p ≡ true
    inside p h =
        subst (λ z. among z p ≡ true) (sym ask.split)
        (among_more a (ask.behind ++ ask.fresh) p (subst (λ z. among z p ≡ true) line_after h))

    pub front_consistent : ((q h : ℕ) → among ask.behind q ≡ true → home m q ≡ Some h
        → taken m (stage_at s) (among (a ∷ [])) h ≡ false) → IsConsistent m (granted s a o)
    front_consistent free = record {
      fits = granted_fits m s a o ask.fits;
      queue = record {
        waiting = ask.behind;
        fresh = ask.fresh;
        split = line_after;
        waiting_asked = λ p h. ask.waiting_asked p (among_more a ask.behind p h);
        fresh_unasked = ask.fresh_unasked;
        waits = subst (λ z. Waits m z ask.behind) (sym front_stage) (behind_waits ask.behind ask.waits free);
        least = behind_least ask.behind ask.least;
        ascends = ask.ascends;
        once = subst Once (sym line_after) (subst Once ask.split ask.once).1;
        known = λ p h. ask.known p (inside p h);
      };
    }
      where
        behind_waits : (xs : List ℕ) → WaitsBehind m (stage_at s) a xs
            → ((q h : ℕ) → among xs q ≡ true → home m q ≡ Some h → taken m (stage_at s) (among (a ∷ [])) h ≡ false)
            → Waits m (removed m (stage_at s) (among (a ∷ []))) xs
        behind_waits [] ws free = tt
        behind_waits (b ∷ r) ws free = waits_on m (stage_at s) (among (a ∷ [])) b r free ws.1

        behind_least : (xs : List ℕ) → ((p : ℕ) → among s.line p ≡ true → last_of a xs ≤ p)
            → LastIsLeast xs (tail_of s.line)
        behind_least [] l = tt
        behind_least (b ∷ r) l = λ p h. l p (inside p h)

    pub front_fewer : pending m (granted s a o) < pending m s
    front_fewer =
        let e : length s.line ≡ suc (length (ask.behind ++ ask.fresh)) = ap length ask.split in
        let e2 : length (tail_of s.line) ≡ length (ask.behind ++ ask.fresh) = ap length line_after in
        omega arith

    pub front_turns : pred (asked_in s.asked (tail_of s.line)) + length s.line ≤ suc
        (pred (asked_in s.asked s.line) + length (tail_of s.line))
    front_turns =
        let e : length s.line ≡ suc (length (ask.behind ++ ask.fresh)) = ap length ask.split in
        let e2 : length (tail_of s.line) ≡ length (ask.behind ++ ask.fresh) = ap length line_after in
        let a1 : asked_in s.asked s.line ≡ suc (length ask.behind) =
        asked_split s.asked s.line (a ∷ ask.behind) ask.fresh ask.split ask.waiting_asked ask.fresh_unasked in
        let a2 : asked_in s.asked (tail_of s.line) ≡ length ask.behind =
        asked_split s.asked (tail_of s.line) ask.behind ask.fresh line_after
        (λ p h. ask.waiting_asked p (among_more a ask.behind p h)) ask.fresh_unasked in
        omega arith

    pub front_given : (f : ℕ → Option ℕ) → Settles m (tail_of s.line) (close s.remaining o)
        (set s.given a o) f → f a ≡ o
    front_given f st =
        st.served a a_known (subst (λ z. among z a ≡ false) (sym line_after) a_once)
        ∙ get_or-set_same s.given a o None (let l : a < m.people = a_known in omega (arith, ask.fits.given_len))

    pub front_served : (f : ℕ → Option ℕ) → Settles m (tail_of s.line) (close s.remaining o) (set s.given a o) f
        → (p : ℕ) → p < m.people → among s.line p ≡ false → f p ≡ given_to s p
    front_served f st p l h =
        let out : among (a ∷ (ask.behind ++ ask.fresh)) p ≡ false = subst (λ z. among z p ≡ false) ask.split h in
        let parts : ((a == p) ≡ false) × (among (ask.behind ++ ask.fresh) p ≡ false) =
        or_parts (a == p) (among (ask.behind ++ ask.fresh) p) out in
        st.served p l (subst (λ z. among z p ≡ false) (sym line_after) parts.1) ∙ get_or-set_other s.given a p o None
        (λ e. both_ways (a == p) parts.0 (eq-eqb a p (sym e)))

  -- the front takes the floor
  pub floor_onward : (s : State) (a : ℕ) → Asks m a s → wish m (stage_at s) a ≡ home m a
      → Onward m s (granted s a (home m a))
  floor_onward s a ask w = record {
    consistent = front_consistent s a ask (home m a) w free;
    fewer = front_fewer s a ask (home m a) w;
    turns = front_turns s a ask (home m a) w;
    settles = λ f st. record {
      served = front_served s a ask (home m a) w f st;
      leads = trade (among (a ∷ [])) self
          (λ p h. subst (λ z. f z ≡ wish m (stage_at s) z) (eqb-true a p (sym (or-false (a == p)) ∙ h))
          (front_given s a ask (home m a) w f st ∙ sym w))
          (subst (λ z. Leads m f z) (front_stage s a ask (home m a) w) st.leads);
    };
  }
    where
      in_line : among s.line a ≡ true
      in_line = subst (λ z. among z a ≡ true) (sym ask.split) (among_self a (ask.behind ++ ask.fresh))

      free : (q h : ℕ) → among ask.behind q ≡ true → home m q ≡ Some h → taken m (stage_at s) (among (a ∷ [])) h ≡ false
      free q h i e = false_from_ne_true (taken m (stage_at s) (among (a ∷ [])) h) (λ y.
          let g : (x : ℕ) × (x < m.people) × (among (a ∷ []) x ≡ true) × (wish m (stage_at s) x ≡ Some h) =
          taken_gives m (stage_at s) (among (a ∷ [])) h y in
          let ax : a ≡ g.0 = eqb-true a g.0 (sym (or-false (a == g.0)) ∙ g.2) in
          let ha : home m a ≡ Some h = sym w ∙ subst (λ z. wish m (stage_at s) z ≡ Some h) (sym ax) g.3 in
          let q_known : q < m.people =
          ask.known q
          (subst (λ z. among z q ≡ true) (sym ask.split)
          (among_more a (ask.behind ++ ask.fresh) q (among_left ask.behind ask.fresh q i))) in
          let qa : q ≡ a = ask.fits.market.homes_differ q a h q_known (ask.known a in_line) e ha in
          both_ways (among (ask.behind ++ ask.fresh) a) (a_once s a ask (home m a) w)
          (subst (λ z. among (ask.behind ++ ask.fresh) z ≡ true) qa (among_left ask.behind ask.fresh q i)))

      points : (o : Option ℕ) → home m a ≡ o → successor m (stage_at s) a ≡ a
      points None e = successor_at m (stage_at s) a None (w ∙ e)
      points (Some h) e = successor_at m (stage_at s) a (Some h) (w ∙ e) ∙ home_points_to m ask.fits.market
          (stage_at s) a h (ask.known a in_line) e in_line

      one : (p : ℕ) → among (a ∷ []) p ≡ true → among s.line p ≡ true
      one p h = subst (λ z. among s.line z ≡ true) (eqb-true a p (sym (or-false (a == p)) ∙ h)) in_line

      self : IsTrade m (stage_at s) (among (a ∷ []))
      self = ring_trade m (stage_at s) a [] (λ p h. ask.known p (one p h)) one tt (points (home m a) refl)

  -- the front takes a vacant room
  pub vacant_onward : (s : State) (a v : ℕ) → Asks m a s → wish m (stage_at s) a ≡ Some v → IsVacant m (stage_at s) v
      → Onward m s (granted s a (Some v))
  vacant_onward s a v ask w none = record {
    consistent = front_consistent s a ask (Some v) w free;
    fewer = front_fewer s a ask (Some v) w;
    turns = front_turns s a ask (Some v) w;
    settles = λ f st. record {
      served = front_served s a ask (Some v) w f st;
      leads = head_first m ask.fits.market (stage_at s) a ask.behind v f (λ p h. ask.known p (chain p h)) chain apart
          ask.waits is_first w none
          (front_given s a ask (Some v) w f st ∙ sym w)
          (subst (λ z. Leads m f z) (front_stage s a ask (Some v) w ∙ ap (removed m (stage_at s)) one) st.leads);
    };
  }
    where
      one : among (a ∷ []) ≡ only m a
      one = fun_ext (λ p. or-false (a == p))

      chain : (p : ℕ) → among (a ∷ ask.behind) p ≡ true → among s.line p ≡ true
      chain p h = subst (λ z. among z p ≡ true) (sym ask.split) (among_left (a ∷ ask.behind) ask.fresh p h)

      apart : among ask.behind a ≡ false
      apart = false_from_ne_true (among ask.behind a)
          (λ y. both_ways (among (ask.behind ++ ask.fresh) a) (a_once s a ask (Some v) w)
          (among_left ask.behind ask.fresh a y))

      free : (q h : ℕ) → among ask.behind q ≡ true → home m q ≡ Some h → taken m (stage_at s) (among (a ∷ [])) h ≡ false
      free q h i e = false_from_ne_true (taken m (stage_at s) (among (a ∷ [])) h) (λ y.
          let g : (x : ℕ) × (x < m.people) × (among (a ∷ []) x ≡ true) × (wish m (stage_at s) x ≡ Some h) =
          taken_gives m (stage_at s) (among (a ∷ [])) h y in
          let ax : a ≡ g.0 = eqb-true a g.0 (sym (or-false (a == g.0)) ∙ g.2) in
          let z : Some v ≡ Some h = sym w ∙ subst (λ z. wish m (stage_at s) z ≡ Some h) (sym ax) g.3 in
          let vh : v ≡ h = cc in
          let q_in : among s.line q ≡ true = chain q (among_more a ask.behind q i) in
          both_ways (among s.line q)
          (none q (subst (λ x. tenant_of m x ≡ Some q) (sym vh)
          (tenant_at m ask.fits.market q h (ask.known q q_in) e))) q_in)

      is_first : first m (stage_at s) ≡ last_of a ask.behind
      is_first =
          first_least (stage_at s) (last_of a ask.behind)
          (ask.known (last_of a ask.behind) (chain (last_of a ask.behind) (among_last a ask.behind)))
          (chain (last_of a ask.behind) (among_last a ask.behind)) ask.least
