-- A line of people, as a list with the front first.
use Rattle.std.specs.Prelude.{ℕ, Bool, true, Option, Some, None, List, [], ◌∷◌, ◌==◌, false, not, filter}

-- the first person of a line
abbrev pub front_of : List ℕ → Option ℕ
front_of [] = None
front_of (x ∷ xs) = Some x

-- the line without its first person
abbrev pub tail_of : List ℕ → List ℕ
tail_of [] = []
tail_of (x ∷ xs) = xs

-- whether the line is empty
abbrev pub is_empty : List ℕ → Bool
is_empty [] = true
is_empty (x ∷ xs) = false

-- the list without p
abbrev pub without : ℕ → List ℕ → List ℕ
without p xs = filter (λ x. not (x == p)) xs
