-- Texts that are not empty.
use Rattle.std.proofs.Common.{◌<◌, List, [], ◌∷◌, length, codes, arith, length-append}
use Rattle.std.specs.Fmt.{decimal}
use Rattle.room_types.specs.Texts.{Text}
use Rattle.room_types.specs.Words.{word_text}
use Rattle.office_core.specs.declared.reply.OrderRow.{OrderRow}
use Rattle.room_types.specs.OutputLines.{line_of}
use Rattle.office_lines.specs.render.OrderLines.{order_line, order_lines, order_text, right_in, grade_suffix}

-- a line is not empty: it ends with a line feed
pub line_some : (parts : List Text) → 0 < length (line_of parts)
line_some [] = omega arith
line_some (part ∷ parts) = omega (arith, length-append part (line_of parts), line_some parts)

-- an order with rows has a text that is not empty
pub order_text_some : (rows : List OrderRow) → 0 < length rows → 0 < length (order_text rows)
order_text_some [] some = absurd (omega (arith, some))
order_text_some (row ∷ rows) some =
    let first : 0 < length (order_line 1 row) =
    line_some
    (right_in 4 (decimal 1) ∷ codes " " ∷ word_text row.word ∷ codes " " ∷ row.person ∷ grade_suffix
    row.grade ∷ []) in
    omega (arith, length-append (order_line 1 row) (order_lines 2 rows), first)
