-- The state with which a run begins.
use Rattle.std.specs.Prelude.{◌≡◌, ℕ, Bool, true, Option, List, length, false, replicate}

-- nobody has asked, every room remains, `given` has one entry of any value for each person, and each cursor is at the
-- start of its list
pub record IsFresh (asked : List Bool) (remaining : List Bool) (given : List (Option ℕ)) (cursors : List ℕ) : Type 0 where
  pub none_asked : asked ≡ replicate (length asked) false
  pub all_remain : remaining ≡ replicate (length remaining) true
  pub given_len : length given ≡ length asked
  pub cursors_start : cursors ≡ replicate (length asked) 0
