-- A line of people as a circular doubly linked list of numbers. The sentinel is the number after all people.
use Rattle.std.specs.Prelude.{◌≡◌, ℕ, zero, suc, ◌<◌, ◌==◌, Bool, true, false, cond, List, [], ◌∷◌, length, slice_index_or}
use Rattle.trade_line.specs.Member.{among, Once}

-- a, the numbers of xs, and z are linked in this order: `next` leads from each to the one after it, and `previous`
-- leads back
abbrev pub Links : List ℕ → List ℕ → ℕ → List ℕ → ℕ → Type 0
Links next previous a [] z = (slice_index_or next a 0 ≡ z) × (slice_index_or previous z 0 ≡ a)
Links next previous a (x ∷ xs) z =
    (slice_index_or next a 0 ≡ x) × (slice_index_or previous x 0 ≡ a) × Links next previous x xs z

-- follows `next` from a on and collects the numbers before the sentinel `end`, at most k of them
abbrev pub along : List ℕ → ℕ → ℕ → ℕ → List ℕ
along next end zero a = []
along next end (suc k) a = cond (a == end) [] (a ∷ along next end k (slice_index_or next a 0))

-- the people in line: follows `next` from the sentinel until it leads back to the sentinel
abbrev pub linked_people : List ℕ → List Bool → List ℕ
linked_people next waits = along next (length waits) (length waits) (slice_index_or next (length waits) 0)

-- `next` and `previous` link the people xs and the sentinel in a ring; `waits` records for each person whether they
-- are in xs
pub record IsLinkedRing (next : List ℕ) (previous : List ℕ) (waits : List Bool) (xs : List ℕ) : Type 0 where
  pub next_len : length next ≡ suc (length waits)
  pub previous_len : length previous ≡ suc (length waits)
  pub links : Links next previous (length waits) xs (length waits)
  pub once : Once xs
  pub known : (p : ℕ) → among xs p ≡ true → p < length waits
  pub waits_are : (p : ℕ) → slice_index_or waits p false ≡ among xs p
