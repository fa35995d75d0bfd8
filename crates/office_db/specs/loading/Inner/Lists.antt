-- Lists that are tested element by element.
use Rattle.std.specs.Prelude.{Bool, true, false, ◌&&◌, List, [], ◌∷◌}

-- Both lists have the same length, and each element passes the test of its counterpart.
abbrev pub pass_all : {X Y : Type 0} → (Y → X → Bool) → List Y → List X → Bool
pass_all test [] [] = true
pass_all test [] (x ∷ xs) = false
pass_all test (own ∷ owns) [] = false
pass_all test (own ∷ owns) (x ∷ xs) = test own x && pass_all test owns xs
