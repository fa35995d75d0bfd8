-- The turns, for states given part by part.
use Rattle.std.proofs.Common.{◌≡◌, ℕ, zero, suc, ◌<◌, Bool, true, false, List, [], ◌∷◌, ◌++◌, length, Option, Some}
use Rattle.std.proofs.Common.{None, find, get_or, set, refl, sym, ap, ◌∙◌, subst, arith, IfSome}
use Rattle.trade_line.specs.Below.{or_else}
use Rattle.trade_line.specs.Market.{Market, home, list_of, tenant_of}
use Rattle.trade_line.specs.TopTradingCycles.{Stage, wish}
use Rattle.trade_line.specs.Member.{among}
use Rattle.trade_line.specs.Line.{front_of, tail_of, without}
use Rattle.trade_line.specs.Inner.Queue.{close}
use Rattle.trade_line.specs.Inner.State.{State, stage_at}
use Rattle.trade_line.specs.Inner.Turn.{IsConsistent, Asks, Onward}
use Rattle.trade_line.specs.Inner.Loop.{Ring, Closing, Closed}
use Rattle.trade_line.proofs.cycles.Chain.{IsVacant}
use Rattle.trade_line.proofs.askers.Lines.{among_self, wish_known}
use Rattle.trade_line.proofs.turns.Marks.{granted, marked, brought}
use Rattle.trade_line.proofs.turns.Turns.{front_asks, front_onward, floor_onward}
use Rattle.trade_line.proofs.turns.Turns.{vacant_onward}
use Rattle.trade_line.proofs.turns.Brought.{bring_onward}
use Rattle.trade_line.proofs.turns.Loops.{ring_at, here_known, front_is, close_more, close_all}

pub same_state : (s t : State) → s.line ≡ t.line → s.asked ≡ t.asked → s.remaining ≡ t.remaining
    → s.given ≡ t.given → s ≡ t
same_state s t a b c d = λ i. record { line = a i; asked = b i; remaining = c i; given = d i }

pub if_some : (o : Option ℕ) (P : ℕ → Type 0) → ((x : ℕ) → o ≡ Some x → P x) → IfSome o P
if_some None P h = tt
if_some (Some x) P h = h x refl

-- within a list the default doesn't matter
pub read_same : {A : Type 0} (xs : List A) (i : ℕ) (d e : A) → i < length xs → get_or xs i d ≡ get_or xs i e
read_same [] i d e h = absurd (omega arith)
read_same (x ∷ xs) zero d e h = refl
read_same (x ∷ xs) (suc i) d e h = read_same xs i d e (omega (arith, h))

module _ (m : Market) where
  pub asks_known : (a : ℕ) (s : State) → Asks m a s → a < m.people
  asks_known a s k = k.known a (subst (λ z. among z a ≡ true) (sym k.split) (among_self a (k.behind ++ k.fresh)))

  pub asks_room : (a room : ℕ) (s : State) → Asks m a s → wish m (stage_at s) a ≡ Some room → room < m.rooms
  asks_room a room s k w = wish_known m k.fits.market (stage_at s) a room (asks_known a s k) w

  pub front_known : (a : ℕ) (s : State) → IsConsistent m s → front_of s.line ≡ Some a → a < m.people
  front_known a s st e = let k : Asks m a (marked s a) = front_asks m s a st e in asks_known a (marked s a) k

  pub closing_front : (t room : ℕ) (s u : State) (next : Option ℕ) → Closing m t room s u next → (p : ℕ)
      → front_of u.line ≡ Some p → p < m.people
  closing_front t room s u next c p e =
      subst (λ z. z < m.people) (front_is m t room s u next c p e) (here_known m t room s u next c)

  pub closing_given : (t room : ℕ) (s u : State) (next : Option ℕ) → Closing m t room s u next → (p : ℕ)
      → front_of u.line ≡ Some p → p < length u.given
  closing_given t room s u next c p e = subst (λ z. p < z) (sym c.fits.given_len) (closing_front t room s u next c p e)

  pub closing_more : (t room : ℕ) (s u v : State) (next : Option ℕ) → Closing m t room s u next → (p : ℕ)
      → front_of u.line ≡ Some p → (p ≡ t → ⊥) → v.line ≡ tail_of u.line → v.asked ≡ u.asked
      → v.remaining ≡ close u.remaining next → v.given ≡ set u.given p next → (o : Option ℕ) → o ≡ home m p
      → Closing m t room s v o
  closing_more t room s u v next c p e ne a b d f o eo =
      subst (λ z. Closing m t room s z o) (sym (same_state v (granted u p next) a b d f))
      (subst (λ z. Closing m t room s (granted u p next) z) (sym eo) (close_more m t room s u next c p e ne))

  pub closing_all : (t room : ℕ) (s u v : State) (next : Option ℕ) → Closing m t room s u next → (p : ℕ)
      → front_of u.line ≡ Some p → p ≡ t → v.line ≡ tail_of u.line → v.asked ≡ u.asked
      → v.remaining ≡ close u.remaining next → v.given ≡ set u.given p next → Closed m t room s v
  closing_all t room s u v next c p e eq a b d f =
      subst (λ z. Closed m t room s z) (sym (same_state v (granted u p next) a b d f))
      (close_all m t room s u next c p e eq)

  pub ring_from : (a room t : ℕ) (s : State) → Asks m a s → wish m (stage_at s) a ≡ Some room → among s.line t ≡ true
      → get_or s.asked t true ≡ true → Ring m t room s
  ring_from a room t s k w i h =
      let l : t < m.people = k.known t i in
      ring_at m s a room t k w i (read_same s.asked t false true (omega (arith, k.fits.asked_len)) ∙ h)

  pub brought_onward : (a room t : ℕ) (s v : State) → Asks m a s → wish m (stage_at s) a ≡ Some room
      → tenant_of m room ≡ Some t → among s.line t ≡ true → get_or s.asked t false ≡ false
      → v.line ≡ t ∷ without t s.line
      → v.asked ≡ set s.asked t true → v.remaining ≡ s.remaining → v.given ≡ s.given → Onward m s v
  brought_onward a room t s v k w e i h x y z u =
      subst (λ q. Onward m s q) (sym (same_state v (brought s t) x y z u)) (bring_onward m s a room t k w e i h)

  pub granted_onward : (a room : ℕ) (s v : State) → Asks m a s → wish m (stage_at s) a ≡ Some room
      → IsVacant m (stage_at s) room → v.line ≡ tail_of s.line → v.asked ≡ s.asked
      → v.remaining ≡ close s.remaining (Some room) → v.given ≡ set s.given a (Some room) → Onward m s v
  granted_onward a room s v k w none x y z u =
      subst (λ q. Onward m s q) (sym (same_state v (granted s a (Some room)) x y z u))
      (vacant_onward m s a room k w none)

  -- the room found on the list is the wish; if none is found, the floor is
  pub wish_found : (s : Stage) (p : ℕ) (o : Option ℕ) → find s.rooms (list_of m p) ≡ o
      → wish m s p ≡ or_else o (home m p)
  unfolding wish
  wish_found s p o e = ap (λ z. or_else z (home m p)) e

  pub marked_asks : (a : ℕ) (s v : State) → IsConsistent m s → front_of s.line ≡ Some a → v.line ≡ s.line
      → v.asked ≡ set s.asked a true → v.remaining ≡ s.remaining → v.given ≡ s.given → Asks m a v
  marked_asks a s v st e x y z u =
      subst (λ q. Asks m a q) (sym (same_state v (marked s a) x y z u)) (front_asks m s a st e)

  pub marked_onward : (a : ℕ) (s v w : State) → IsConsistent m s → front_of s.line ≡ Some a → v.line ≡ s.line
      → v.asked ≡ set s.asked a true → v.remaining ≡ s.remaining → v.given ≡ s.given → Onward m v w → Onward m s w
  marked_onward a s v w st e x y z u o =
      front_onward m s w a st e (subst (λ q. Onward m q w) (same_state v (marked s a) x y z u) o)

  pub floored_onward : (a : ℕ) (s v : State) (o : Option ℕ) → Asks m a s → find (stage_at s).rooms (list_of m a) ≡ None
      → o ≡ home m a → v.line ≡ tail_of s.line → v.asked ≡ s.asked → v.remaining ≡ close s.remaining o
      → v.given ≡ set s.given a o → Onward m s v
  floored_onward a s v o k e eo x y z u =
      subst (λ q. Onward m s q)
      (sym (same_state v (granted s a (home m a)) x y (z ∙ ap (close s.remaining) eo) (u ∙ ap (set s.given a) eo)))
      (floor_onward m s a k (wish_found (stage_at s) a None e))

  pub vacant_by_served : (s : Stage) (room t : ℕ) → tenant_of m room ≡ Some t → s.people t ≡ false → IsVacant m s room
  vacant_by_served s room t e n u f =
      let z : Some t ≡ Some u = sym e ∙ f in
      let zz : t ≡ u = cc in
      subst (λ y. s.people y ≡ false) zz n

  pub vacant_by_none : (s : Stage) (room : ℕ) → tenant_of m room ≡ None → IsVacant m s room
  vacant_by_none s room e u f = let z : None ≡ Some u = sym e ∙ f in absurd (cc)

-- an element that was read, with another default
pub asked_true : (xs : List Bool) (i : ℕ) (r : Bool) → r ≡ get_or xs i r → r ≡ true → get_or xs i true ≡ true
asked_true xs i r e h = sym (ap (get_or xs i) h) ∙ sym e ∙ h

pub asked_false : (xs : List Bool) (i : ℕ) (r : Bool) → r ≡ get_or xs i r → r ≡ false → get_or xs i false ≡ false
asked_false xs i r e h = sym (ap (get_or xs i) h) ∙ sym e ∙ h
