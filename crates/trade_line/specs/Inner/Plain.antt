-- The simultaneous steps, as `top_trading_cycles` carries them out.
use Rattle.std.specs.Prelude.{◌≡◌, ℕ, ◌<◌, ◌≤◌, ◌&&◌, not, true, Bool, Option, None, List, length, slice_index_or, false, cond}
use Rattle.trade_line.specs.Below.{some_below}
use Rattle.trade_line.specs.Market.{Market, IsMarket, is_room}
use Rattle.trade_line.specs.TopTradingCycles.{Stage, wish, is_on_cycle, gets, gets_within}
use Rattle.trade_line.specs.declared.plain.Remaining.{Remaining}

-- the stage at which the marked people and the marked rooms remain
abbrev pub marked_stage : List Bool → List Bool → Stage
marked_stage people rooms = record { people = λ p. slice_index_or people p false; rooms = λ r. slice_index_or rooms r false }

abbrev pub remains : Remaining → Stage
remains s = marked_stage s.people.items s.rooms.items

-- the market is well formed, and `s` has one mark for each person and one for each room
pub record AreMarks (m : Market) (s : Remaining) : Type 0 where
  pub market : IsMarket m
  pub people_len : length s.people.items ≡ m.people
  pub rooms_len : length s.rooms.items ≡ m.rooms

-- everybody on a cycle gets their wish, and everybody else keeps the old entry
abbrev pub Gives : Market → Stage → List (Option ℕ) → List (Option ℕ) → Type 0
Gives m s old new = (p : ℕ) → p < m.people
    → slice_index_or new p None ≡ cond (is_on_cycle m s p) (wish m s p) (slice_index_or old p None)

-- a step under way: the step has handled the first n people and not yet the others
pub record Stepping (m : Market) (s : Stage) (old : List (Option ℕ)) (given : List (Option ℕ)) (people : List Bool) (rooms : List Bool) (n : ℕ) : Type 0 where
  pub people_len : length people ≡ m.people
  pub rooms_len : length rooms ≡ m.rooms
  pub given_len : length given ≡ m.people
  pub stayed : (p : ℕ) → p < n
      → slice_index_or people p false ≡ (s.people p && not (is_on_cycle m s p))
  pub waiting : (p : ℕ) → n ≤ p → slice_index_or people p false ≡ s.people p
  pub rooms_left : (r : ℕ)
      → slice_index_or rooms r false
      ≡ (s.rooms r && not (some_below n (λ p. is_on_cycle m s p && is_room r (wish m s p))))
  pub gave : (p : ℕ) → p < n
      → slice_index_or given p None ≡ cond (is_on_cycle m s p) (wish m s p) (slice_index_or old p None)
  pub kept : (p : ℕ) → n ≤ p → slice_index_or given p None ≡ slice_index_or old p None

-- after some steps: everybody who is gone was given what they get; everybody who remains was given nothing yet and
-- gets what the next k steps give
pub record Stepped (m : Market) (s : Stage) (given : List (Option ℕ)) (k : ℕ) : Type 0 where
  pub gone : (p : ℕ) → p < m.people → s.people p ≡ false → gets m p ≡ slice_index_or given p None
  pub there : (p : ℕ) → p < m.people → s.people p ≡ true → gets m p ≡ gets_within m k s p
  pub nothing : (p : ℕ) → p < m.people → s.people p ≡ true → slice_index_or given p None ≡ None
