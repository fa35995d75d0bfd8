-- How a person ranks a room or nothing, by the recorded list.
use Rattle.std.specs.Prelude.{ℕ, suc, ◌+◌, cond, Option, Some, None, List, [], ◌∷◌, length, is_none, ◌==◌}
use Rattle.trade_line.specs.Market.{Market, home, list_of, is_room}
use Rattle.trade_line.specs.Member.{among}

-- the place of x in the list, counted from 0, or the list's length if x is not in it
abbrev pub place : ℕ → List ℕ → ℕ
place x [] = 0
place x (y ∷ ys) = cond (y == x) 0 (suc (place x ys))

-- the rank that p gives to a room or to nothing, where 0 is the best: a listed room ranks by its place on the list,
-- the floor ranks next, and everything else ranks last, all equal
abbrev pub rank : Market → ℕ → Option ℕ → ℕ
rank m p None = cond (is_none (home m p)) (length (list_of m p)) (length (list_of m p) + 1)
rank m p (Some x) = cond (among (list_of m p) x) (place x (list_of m p)) (cond (is_room x (home m p)) (length (list_of m p)) (length (list_of m p) + 1))
