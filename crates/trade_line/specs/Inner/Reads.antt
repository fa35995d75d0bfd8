-- How many entries of a list an ask reads.
use Rattle.std.specs.Prelude.{ℕ, suc, Bool, false, cond, List, [], ◌∷◌, slice_index_or}

-- whether the room remains, by the marks of a run
abbrev pub is_marked : List Bool → ℕ → Bool
is_marked marks r = slice_index_or marks r false

-- the number of entries up to and including the first that passes, or the number of all entries if none passes
abbrev pub reads : (ℕ → Bool) → List ℕ → ℕ
reads passes [] = 0
reads passes (x ∷ xs) = cond (passes x) 1 (suc (reads passes xs))

-- the number of entries before the first that passes, or the number of all entries if none passes
abbrev pub skipped : (ℕ → Bool) → List ℕ → ℕ
skipped passes [] = 0
skipped passes (x ∷ xs) = cond (passes x) 0 (suc (skipped passes xs))
