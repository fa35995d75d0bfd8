-- Grades, which are written as one decimal digit.
use Rattle.std.specs.Prelude.{ℕ, ◌-◌, List, [], ◌∷◌, Option, None, Some, if◌then◌else◌}
use Rattle.std.specs.Fmt.{decimal}
use Rattle.std.specs.Int.{is_in_range}

-- the greatest grade
abbrev pub grade_limit : ℕ
grade_limit = 9

-- the value of a decimal digit, or `None` for any other byte
abbrev pub digit_value : ℕ → Option ℕ
digit_value byte = if is_in_range 48 57 byte then Some (byte - 48) else None

-- the grade of a text of exactly one decimal digit, or `None` for any other text
abbrev pub grade_of : List ℕ → Option ℕ
grade_of (byte ∷ []) = digit_value byte
grade_of _ = None

-- the printed form of a grade
abbrev pub grade_text : ℕ → List ℕ
grade_text grade = decimal grade
