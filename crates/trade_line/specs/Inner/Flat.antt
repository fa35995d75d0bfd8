-- Lists stored one after the other in one vector.
use Rattle.std.specs.List.{range_with_len}
use Rattle.std.specs.Prelude.{◌≡◌, ℕ, suc, ◌+◌, ◌-◌, ◌<◌, ◌≤◌, List, [], length, map, take, drop, slice_index_or, pred}

-- the list of p: the entries from its start up to the start of the next
abbrev pub flat_list : List ℕ → List ℕ → ℕ → List ℕ
flat_list entries starts p =
    take (slice_index_or starts (p + 1) 0 - slice_index_or starts p 0) (drop (slice_index_or starts p 0) entries)

-- all lists; there is one start more than there are lists
abbrev pub flat_lists : List ℕ → List ℕ → List (List ℕ)
flat_lists entries starts = map (flat_list entries starts) (range_with_len 0 (pred (length starts)))

-- `entries` contains the lists one after the other; `starts` has the start of each list, and then the end of
-- `entries`
pub record AreFlat (entries : List ℕ) (starts : List ℕ) (lists : List (List ℕ)) : Type 0 where
  pub starts_len : length starts ≡ suc (length lists)
  pub ordered : (p : ℕ) → p < length lists
      → slice_index_or starts p 0 ≤ slice_index_or starts (p + 1) 0
  pub inside : (p : ℕ) → p < length lists → slice_index_or starts (p + 1) 0 ≤ length entries
  pub lists_are : (p : ℕ) → p < length lists → flat_list entries starts p ≡ slice_index_or lists p []
  pub end : slice_index_or starts (length lists) 0 ≡ length entries
