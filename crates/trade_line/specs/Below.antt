-- Searches over the numbers below a bound.
--     some_below n p      whether a number below n passes
--     first_below n p      the least number below n that passes
--     count_below n p      how many numbers below n pass
--     sum_below n f      the sum of f over the numbers below n
use Rattle.std.specs.Prelude.{ℕ, suc, ◌+◌, Bool, cond, Option, Some, None, false, zero, ◌||◌}

abbrev pub some_below : ℕ → (ℕ → Bool) → Bool
some_below zero p = false
some_below (suc n) p = some_below n p || p n

-- the first option if it has a value, or else the second option
abbrev pub or_else : {X : Type 0} → Option X → Option X → Option X
or_else None y = y
or_else (Some x) y = Some x

abbrev pub first_below : ℕ → (ℕ → Bool) → Option ℕ
first_below zero p = None
first_below (suc n) p = or_else (first_below n p) (cond (p n) (Some n) None)

abbrev pub count_below : ℕ → (ℕ → Bool) → ℕ
count_below zero p = 0
count_below (suc n) p = count_below n p + cond (p n) 1 0

abbrev pub sum_below : ℕ → (ℕ → ℕ) → ℕ
sum_below zero f = 0
sum_below (suc n) f = sum_below n f + f n
