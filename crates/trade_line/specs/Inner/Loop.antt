-- A loop of tenants that leaves the line.
use Rattle.std.specs.Prelude.{◌≡◌, ℕ, true, Option, Some, List, ◌∷◌, false, ◌++◌}
use Rattle.trade_line.specs.Inner.Queue.{last_of}
use Rattle.trade_line.specs.Inner.State.{State, stage_at, given_to, IsSizedFor}
use Rattle.trade_line.specs.Inner.Turn.{Asks}
use Rattle.trade_line.specs.Market.{Market}
use Rattle.trade_line.specs.Member.{among}
use Rattle.trade_line.specs.TopTradingCycles.{wish, removed}

-- the people from the front of the line up to the tenant are a loop, whose first person asks for the room
pub record Ring (m : Market) (tenant : ℕ) (room : ℕ) (s : State) : Type 0 where
  pub person : ℕ
  pub asks : Asks m person s
  pub others : List ℕ
  pub after : List ℕ
  pub behind_split : asks.behind ≡ others ++ after
  pub ends : last_of person others ≡ tenant
  pub first_wish : wish m (stage_at s) person ≡ Some room

-- those in `past` have left the loop, each with the room that they wish for, and the first person of the line is to
-- get `next`
pub record Closing (m : Market) (tenant : ℕ) (room : ℕ) (s t : State) (next : Option ℕ) : Type 0 where
  pub ring : Ring m tenant room s
  pub past : List ℕ
  pub here : ℕ
  pub others : List ℕ
  pub ring_split : ring.person ∷ ring.others ≡ past ++ (here ∷ others)
  pub line_split : t.line ≡ (here ∷ others) ++ (ring.after ++ ring.asks.fresh)
  pub next_is : next ≡ wish m (stage_at s) here
  pub stage : stage_at t ≡ removed m (stage_at s) (among past)
  pub given_past : (p : ℕ) → among past p ≡ true → given_to t p ≡ wish m (stage_at s) p
  pub given_kept : (p : ℕ) → among past p ≡ false → given_to t p ≡ given_to s p
  pub asked_kept : t.asked ≡ s.asked
  pub fits : IsSizedFor m t

-- the whole loop has left, each person with the room that they wish for
pub record Closed (m : Market) (tenant : ℕ) (room : ℕ) (s t : State) : Type 0 where
  pub ring : Ring m tenant room s
  pub line_is : t.line ≡ ring.after ++ ring.asks.fresh
  pub stage : stage_at t ≡ removed m (stage_at s) (among (ring.person ∷ ring.others))
  pub given_ring : (p : ℕ) → among (ring.person ∷ ring.others) p ≡ true
      → given_to t p ≡ wish m (stage_at s) p
  pub given_kept : (p : ℕ) → among (ring.person ∷ ring.others) p ≡ false
      → given_to t p ≡ given_to s p
  pub asked_kept : t.asked ≡ s.asked
  pub fits : IsSizedFor m t
