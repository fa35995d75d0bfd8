-- The state after a room is granted, or somebody is marked or brought to the front.
use Rattle.std.proofs.Common.{◌≡◌, ℕ, ◌<◌, ◌≤◌, true, false, not, ◌&&◌, ◌∷◌, length, Option}
use Rattle.std.proofs.Common.{Some, set, ◌∙◌, inl, inr, arith}
use Rattle.std.proofs.Common.{get_or-set_same, get_or-set_other, length-set}
use Rattle.std.proofs.lemmas.Bool.{cases_eq, and_parts, and_from, false_from_ne_true, both_ways}
use Rattle.std.proofs.lemmas.Bool.{not-true, not_from_false}
use Rattle.trade_line.specs.Below.{count_below}
use Rattle.trade_line.specs.Market.{Market, home, is_room, tenant_of, is_tenant}
use Rattle.trade_line.specs.Inner.Queue.{close}
use Rattle.trade_line.specs.Line.{tail_of, without}
use Rattle.trade_line.specs.Inner.State.{State, has_asked, IsSizedFor}
use Rattle.trade_line.specs.Inner.Turn.{pending}
use Rattle.trade_line.proofs.searches.Search.{is_room_gives, first_passes}
use Rattle.trade_line.proofs.counts.Count.{count_le}
use Rattle.trade_line.proofs.askers.Lines.{length-close}

-- the state after the front of the line left with a room or nothing
abbrev pub granted : State → ℕ → Option ℕ → State
granted s p o =
    record { line = tail_of s.line; asked = s.asked; remaining = close s.remaining o; given = set s.given p o }

-- the state after a person is marked as having asked
abbrev pub marked : State → ℕ → State
marked s p = record { line = s.line; asked = set s.asked p true; remaining = s.remaining; given = s.given }

-- the state after t came to the front
abbrev pub brought : State → ℕ → State
brought s t =
    record { line = t ∷ without t s.line; asked = set s.asked t true; remaining = s.remaining; given = s.given }

pub tenant_home : (m : Market) (r t : ℕ) → tenant_of m r ≡ Some t → (t < m.people) × (home m t ≡ Some r)
tenant_home m r t e =
    let u : (is_room r (home m t) ≡ true) × (t < m.people) = first_passes m.people (λ p. is_room r (home m p)) t e in
    (u.1, is_room_gives r (home m t) u.0)

module _ (m : Market) where
  pub granted_fits : (s : State) (p : ℕ) (o : Option ℕ) → IsSizedFor m s → IsSizedFor m (granted s p o)
  granted_fits s p o f = record {
    market = f.market;
    asked_len = f.asked_len;
    remaining_len = length-close s.remaining o ∙ f.remaining_len;
    given_len = length-set s.given p o ∙ f.given_len;
  }

  pub marked_fits : (s : State) (p : ℕ) → IsSizedFor m s → IsSizedFor m (marked s p)
  marked_fits s p f = record {
    market = f.market;
    asked_len = length-set s.asked p true ∙ f.asked_len;
    remaining_len = f.remaining_len;
    given_len = f.given_len;
  }

  -- a marked person stays marked
  pub marked_stays : (s : State) (a p : ℕ) → a < length s.asked → has_asked s p ≡ true → has_asked (marked s a) p ≡ true
  marked_stays s a p l h =
      elim (cases_eq p a) [
        | inl e ↦ rw e (get_or-set_same s.asked a true false l)
        | inr n ↦ get_or-set_other s.asked a p true false n ∙ h
      ]

  -- who has not asked after a mark had not asked before
  pub marked_unasked : (s : State) (a : ℕ) → a < length s.asked → (y : ℕ)
      → (is_tenant m y && not (has_asked (marked s a) y)) ≡ true → (is_tenant m y && not (has_asked s y)) ≡ true
  marked_unasked s a l y h =
      let b : (is_tenant m y ≡ true) × (not (has_asked (marked s a) y) ≡ true) =
      and_parts (is_tenant m y) (not (has_asked (marked s a) y)) h in
      and_from (is_tenant m y) (not (has_asked s y)) b.0
      (not_from_false (has_asked s y)
      (false_from_ne_true (has_asked s y)
      (λ t. both_ways (has_asked (marked s a) y) (not-true (has_asked (marked s a) y) b.1)
      (marked_stays s a y l t))))

  pub marked_pending : (s : State) (a : ℕ) → a < length s.asked → pending m (marked s a) ≤ pending m s
  marked_pending s a l =
      let c : count_below m.people (λ p. is_tenant m p && not (has_asked (marked s a) p)) ≤ count_below m.people
      (λ p. is_tenant m p && not (has_asked s p)) =
      count_le m.people (λ p. is_tenant m p && not (has_asked (marked s a) p))
      (λ p. is_tenant m p && not (has_asked s p)) (marked_unasked s a l) in
      omega arith
