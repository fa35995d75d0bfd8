-- The turn that brings a tenant to the front.
use Rattle.std.proofs.Math.Bool.{and-true}
use Rattle.trade_line.proofs.counts.Asked.{asked_split}
use Rattle.std.proofs.Common.{◌≡◌, ℕ, suc, ◌+◌, ◌<◌, ◌≤◌, true, false, not, ◌&&◌, ◌==◌, ◌∷◌, ◌++◌, length, Some}
use Rattle.std.proofs.Common.{is_some, set, refl, sym, ap, ◌∙◌, subst, inl, inr, arith, eqb-true, eq-eqb}
use Rattle.std.proofs.Common.{get_or-set_same, get_or-set_other, length-set, pred}
use Rattle.std.proofs.lemmas.Bool.{cases_Bool, and_parts, and_from, and_right, or_cases, false_from_ne_true, both_ways}
use Rattle.std.proofs.lemmas.Bool.{not-true, not_from_false}
use Rattle.trade_line.specs.Below.{count_below}
use Rattle.trade_line.specs.Market.{Market, home, tenant_of, is_tenant}
use Rattle.trade_line.specs.TopTradingCycles.{wish}
use Rattle.trade_line.specs.Inner.Removal.{Leads}
use Rattle.trade_line.specs.Member.{among}
use Rattle.trade_line.specs.Inner.Queue.{WaitsBehind}
use Rattle.trade_line.specs.Line.{without}
use Rattle.trade_line.specs.Inner.State.{State, stage_at, has_asked}
use Rattle.trade_line.specs.Inner.Turn.{Asks, Onward, asked_in}
use Rattle.trade_line.proofs.counts.Count.{count_less}
use Rattle.trade_line.proofs.cycles.Unique.{same_stage}
use Rattle.trade_line.proofs.askers.Lines.{among-without, once_without, without-append, length-without, ascends_without}
use Rattle.trade_line.proofs.turns.Marks.{marked, brought, marked_stays, marked_unasked, tenant_home}

module _ (m : Market) where
  -- removing a tenant who has not asked from the line removes the tenant from those who have not asked
  pub line_without : (s : State) (a t : ℕ) (ask : Asks m a s) → has_asked s t ≡ false
      → without t s.line ≡ (a ∷ ask.behind) ++ without t ask.fresh
  line_without s a t ask new =
      ap (without t) ask.split ∙ without-append t (a ∷ ask.behind) ask.fresh
      (false_from_ne_true (among (a ∷ ask.behind) t) (λ y. both_ways (has_asked s t) new (ask.waiting_asked t y)))

  -- the tenant of the room comes to the front
  pub bring_onward : (s : State) (a room t : ℕ) → Asks m a s → wish m (stage_at s) a ≡ Some room
      → tenant_of m room ≡ Some t → among s.line t ≡ true → has_asked s t ≡ false → Onward m s (brought s t)
  bring_onward s a room t ask w e i new = record {
    consistent = record {
      fits = record {
        market = ask.fits.market;
        asked_len = length-set s.asked t true ∙ ask.fits.asked_len;
        remaining_len = ask.fits.remaining_len;
        given_len = ask.fits.given_len;
      };
      queue = record {
        waiting = t ∷ a ∷ ask.behind;
        fresh = without t ask.fresh;
        split = ap (λ z. t ∷ z) (line_without s a t ask new);
        waiting_asked = λ p h. elim (or_cases (t == p) (among (a ∷ ask.behind) p) h) [
          | inl y ↦ subst (λ z. has_asked (marked s t) z ≡ true) (eqb-true t p y)
              (get_or-set_same s.asked t true false t_below)
          | inr y ↦ marked_stays m s t p t_below (ask.waiting_asked p y)
        ];
        fresh_unasked = λ p h.
            (let b : (among ask.fresh p ≡ true) × (not (t == p) ≡ true) = and_parts (among ask.fresh p) (not (t == p))
            (sym (among-without t ask.fresh p) ∙ h) in
            get_or-set_other s.asked t p true false
            (λ pe. both_ways (t == p) (not-true (t == p) b.1) (eq-eqb t p (sym pe))) ∙ ask.fresh_unasked p b.0);
        waits = subst (λ z. WaitsBehind m z t (a ∷ ask.behind)) (sym stage) ((room, t_home.1, w), ask.waits);
        least = λ p h. ask.least p (sym (people p) ∙ h);
        ascends = ascends_without t ask.fresh ask.ascends;
        once = (
          among-without t s.line t ∙ and_right (among s.line t) (not (t == t)) (rw (eq-eqb t t refl) refl),
          once_without t s.line ask.once,
        );
        known = λ p h. ask.known p (sym (people p) ∙ h);
      };
    };
    fewer = (
        let len : suc (length (without t s.line)) ≡ length s.line = length-without t s.line ask.once i in
        let less : count_below m.people (λ p. is_tenant m p && not (has_asked (marked s t) p)) < count_below m.people
        (λ p. is_tenant m p && not (has_asked s p)) =
        count_less m.people (λ p. is_tenant m p && not (has_asked (marked s t) p))
        (λ p. is_tenant m p && not (has_asked s p)) t
        (marked_unasked m s t t_below)
        t_home.0 (and_from (is_tenant m t) (not (has_asked s t)) (ap is_some t_home.1)
        (not_from_false (has_asked s t) new))
        (and_right (is_tenant m t) (not (has_asked (marked s t) t))
        (ap not (get_or-set_same s.asked t true false t_below))) in
        omega arith);
    turns = bring_turns;
    settles = λ f st. record {
      served = λ p l h. st.served p l (people p ∙ h);
      leads = subst (λ z. Leads m f z) stage st.leads;
    };
  }
    where
      t_home : (t < m.people) × (home m t ≡ Some room)
      t_home = tenant_home m room t e

      t_below : t < length s.asked
      t_below = let l : t < m.people = t_home.0 in omega (arith, ask.fits.asked_len)

      bring_turns : pred (asked_in (set s.asked t true) (t ∷ without t s.line)) + length s.line ≤ suc
          (pred (asked_in s.asked s.line) + length (t ∷ without t s.line))
      bring_turns =
          let len : suc (length (without t s.line)) ≡ length s.line = length-without t s.line ask.once i in
          let a1 : asked_in s.asked s.line ≡ suc (length ask.behind) =
          asked_split s.asked s.line (a ∷ ask.behind) ask.fresh ask.split ask.waiting_asked ask.fresh_unasked in
          let a2 : asked_in (set s.asked t true) (t ∷ without t s.line) ≡ suc (suc (length ask.behind)) =
          asked_split (set s.asked t true) (t ∷ without t s.line) (t ∷ a ∷ ask.behind) (without t ask.fresh)
          (ap (λ z. t ∷ z) (line_without s a t ask new))
          (λ p h. elim (or_cases (t == p) (among (a ∷ ask.behind) p) h) [
            | inl y ↦ subst (λ z. has_asked (marked s t) z ≡ true) (eqb-true t p y)
                (get_or-set_same s.asked t true false t_below)
            | inr y ↦ marked_stays m s t p t_below (ask.waiting_asked p y)
          ])
          (λ p h.
          (let b : (among ask.fresh p ≡ true) × (not (t == p) ≡ true) = and_parts (among ask.fresh p) (not (t == p))
          (sym (among-without t ask.fresh p) ∙ h) in
          get_or-set_other s.asked t p true false
          (λ pe. both_ways (t == p) (not-true (t == p) b.1) (eq-eqb t p (sym pe))) ∙ ask.fresh_unasked p b.0)) in
          omega arith

      people : (p : ℕ) → among (t ∷ without t s.line) p ≡ among s.line p
      people p =
          elim (cases_Bool (t == p)) [
            | inl y ↦ rw y (sym (subst (λ z. among s.line z ≡ true) (eqb-true t p y) i))
            | inr n ↦ rw (among-without t s.line p, n) (and-true (among s.line p))
          ]

      stage : stage_at (brought s t) ≡ stage_at s
      stage = same_stage (stage_at (brought s t)) (stage_at s) people (λ r. refl)
