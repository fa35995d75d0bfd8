-- Members of a list of numbers.
use Rattle.std.specs.List.{list_any}
use Rattle.std.specs.Prelude.{◌≡◌, ℕ, Bool, List, [], ◌∷◌, ◌==◌, false}

-- whether p is in the list
abbrev pub among : List ℕ → ℕ → Bool
among xs p = list_any (λ x. x == p) xs

-- no number is in the list twice
abbrev pub Once : List ℕ → Type 0
Once [] = Unit {0}
Once (x ∷ xs) = (among xs x ≡ false) × Once xs
