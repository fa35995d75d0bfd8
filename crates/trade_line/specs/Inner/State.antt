-- The state of a run between two turns.
use Rattle.std.specs.Prelude.{◌≡◌, ℕ, Bool, Option, None, List, length, slice_index_or, false}
use Rattle.trade_line.specs.Inner.Queue.{stage_of}
use Rattle.trade_line.specs.Market.{Market, IsMarket}
use Rattle.trade_line.specs.TopTradingCycles.{Stage}
use Rattle.trade_line.specs.declared.progress.Progress.{Progress}

pub record State : Type 0 where
  pub line : List ℕ
  pub asked : List Bool
  pub remaining : List Bool
  pub given : List (Option ℕ)

abbrev pub state_of : List ℕ → Progress → State
state_of line b = record { line = line; asked = b.asked.items; remaining = b.remaining.items; given = b.given.items }

abbrev pub stage_at : State → Stage
stage_at s = stage_of s.line s.remaining

abbrev pub has_asked : State → ℕ → Bool
has_asked s p = slice_index_or s.asked p false

abbrev pub given_to : State → ℕ → Option ℕ
given_to s p = slice_index_or s.given p None

pub record IsSizedFor (m : Market) (s : State) : Type 0 where
  pub market : IsMarket m
  pub asked_len : length s.asked ≡ m.people
  pub remaining_len : length s.remaining ≡ m.rooms
  pub given_len : length s.given ≡ m.people
