use Rattle.std.proofs.Common.{◌∙◌}
use Rattle.room_types.proofs.hex_words.Words.{word_utf8}
use Rattle.office_schema.proofs.cell_texts.TextCells.{same_bytes, unread, shown_same}
use Rattle.office_schema.proofs.tables.words.word_in.Goals as goal

pub returns-in_default-clause-returned : goal.returns-in_default-clause-returned
returns-in_default-clause-returned c w = (rw c.in_default.is at c.str_in.ensures) (_, w.1, word_utf8 w.0)

pub returns-in-Err-clause-returned : goal.returns-in-Err-clause-returned
returns-in-Err-clause-returned c w =
    let cell = (rw c.in-Some.is at c.str_in.ensures).0 in
    unread c.in-Some.text.now w.0 w.2 (same_bytes _ _ _ cell w.1) c.in-Err.ensures.1

pub returns-then-ne-clause-returned : goal.returns-then-ne-clause-returned
returns-then-ne-clause-returned c w =
    let cell = (rw c.in-Some.is at c.str_in.ensures).0 in
    let text = same_bytes _ _ _ cell w.1 in
    shown_same c.as_str.result.now c.in-Some.text.now w.0 c.in-Ok.word w.2 text c.in-Ok.ensures
    (c.as_str.ensures.value ∙ c.in-Ok-format.ensures.ok) c.if-ne.ensures
