-- The lines that are printed for the drawn order.
use Rattle.std.specs.Prelude.{ℕ, ◌+◌, ◌-◌, ◌==◌, List, [], ◌∷◌, ◌++◌, length, replicate, codes, if◌then◌else◌}
use Rattle.std.specs.Fmt.{decimal}
use Rattle.room_types.specs.Grades.{grade_text}
use Rattle.room_types.specs.Texts.{Text}
use Rattle.room_types.specs.Words.{word_text}
use Rattle.office_core.specs.declared.reply.OrderRow.{OrderRow}
use Rattle.room_types.specs.OutputLines.{line_of}

-- the text, padded with spaces on the left to the width
abbrev pub right_in : ℕ → Text → Text
right_in width text = replicate (width - length text) 32 ++ text

-- ` grade ` and the grade; empty for grade 0
abbrev pub grade_suffix : ℕ → Text
grade_suffix grade = if grade == 0 then [] else codes " grade " ++ grade_text grade

-- the line of a row: the place, padded to 4 columns, then the lottery number, the person and the grade
abbrev pub order_line : ℕ → OrderRow → Text
order_line place row = line_of (right_in 4 (decimal place) ∷ codes " " ∷ word_text row.word ∷ codes " " ∷ row.person ∷ grade_suffix row.grade ∷ [])

-- a line for each row; the first row has the place `place`
abbrev pub order_lines : ℕ → List OrderRow → Text
order_lines place [] = []
order_lines place (row ∷ rows) = order_line place row ++ order_lines (place + 1) rows

-- the lines of all rows, with places from 1
abbrev pub order_text : List OrderRow → Text
order_text rows = order_lines 1 rows
