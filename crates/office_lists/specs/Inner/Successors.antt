-- Successors of entries: if entry j is the leaver of entry i's new room, entry i is the successor of entry j.
use Rattle.std.specs.Prelude.{◌≡◌, ℕ, ◌+◌, ◌<◌, List, length, slice_index_or, Option, Some, ◌⊎◌}
use Rattle.room_types.specs.declared.moves.Wave.{Wave}
use Rattle.room_types.specs.declared.moves.Wave.TheVariants.{Swap, Nth}
use Rattle.office_lists.specs.Waves.{next_entry, followed}

-- each leaver is the index of an entry, and no two entries have the same leaver
pub record AreInjective (leavers : List (Option ℕ)) : Type 0 where
  pub within : (i j : ℕ) → next_entry leavers i ≡ Some j → j < length leavers
  pub one : (i j k : ℕ) → next_entry leavers i ≡ Some k → next_entry leavers j ≡ Some k → i ≡ j

-- `successors` is the inverse of `leavers`: `leavers` gives j for i if and only if `successors` gives i for j
pub record AreSuccessors (leavers successors : List (Option ℕ)) : Type 0 where
  pub same_length : length successors ≡ length leavers
  pub after : (i j : ℕ) → next_entry successors j ≡ Some i → next_entry leavers i ≡ Some j
  pub before : (i j : ℕ) → next_entry leavers i ≡ Some j → next_entry successors j ≡ Some i

-- entry i has a numbered wave
abbrev pub IsNumbered : List Wave → ℕ → Type 0
IsNumbered waves i = (number : ℕ) × (slice_index_or waves i Swap ≡ Nth number)

-- `new` gives a number to each entry on the chain that ends at `end`: the number from `old`, or the entry's distance
-- from `end` plus `first`. All other entries have the same wave in `new` as in `old`.
pub record NumbersChain (successors : List (Option ℕ)) (end first : ℕ) (old new : List Wave) : Type 0 where
  pub reached : (count i : ℕ) → followed successors count end ≡ Some i → IsNumbered new i
  pub right : (i number : ℕ) → slice_index_or new i Swap ≡ Nth number
      → (slice_index_or old i Swap ≡ Nth number)
      ⊎ ((count : ℕ) × (number ≡ count + first) × (followed successors count end ≡ Some i))
  pub kept : (i number : ℕ) → slice_index_or old i Swap ≡ Nth number → IsNumbered new i
