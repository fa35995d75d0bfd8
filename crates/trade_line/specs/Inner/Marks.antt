-- The marks by which the code finds a room that is on a list twice.
use Rattle.std.specs.Prelude.{◌≡◌, ◌≢◌, ℕ, ◌<◌, ◌≤◌, ◌⊎◌, List, length, slice_index_or, All, AllPairs}
use Rattle.trade_line.specs.Market.{Market, list_of}

-- the first n rooms of the list differ, and `last` marks exactly these rooms with `person`; each other mark is as in
-- `old`
pub record Marked (list : List ℕ) (old : List ℕ) (last : List ℕ) (person : ℕ) (n : ℕ) : Type 0 where
  pub same_len : length last ≡ length old
  pub marked : (k : ℕ) → k < n → slice_index_or last (slice_index_or list k 0) 0 ≡ person
  pub only : (r : ℕ) → r < length last → slice_index_or last r 0 ≡ person
      → (k : ℕ) × (k < n) × (slice_index_or list k 0 ≡ r)
  pub distinct : (j k : ℕ) → j < k → k < n → slice_index_or list j 0 ≢ slice_index_or list k 0
  pub kept : (r : ℕ) → r < length old
      → (slice_index_or last r 0 ≡ slice_index_or old r 0) ⊎ (slice_index_or last r 0 ≡ person)

-- the lists of the first n people have no room twice, and no later person has marked a room
pub record AreDistinct (m : Market) (last : List ℕ) (n : ℕ) : Type 0 where
  pub same_len : length last ≡ m.rooms
  pub distinct : (p : ℕ) → p < n → AllPairs ◌≢◌ (list_of m p)
  pub unmarked : (q : ℕ) → n ≤ q → q < m.people → All (λ other. other ≢ q) last
